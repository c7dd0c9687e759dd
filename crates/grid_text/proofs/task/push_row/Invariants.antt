use Rattle.std.proofs.Common.{◌≡◌, ◌++◌}
use Rattle.grid_text.specs.Tasks.{row_text}
use Rattle.grid_text.proofs.task.push_row.Given as goal

abbrev pub invariant-loop-before : goal.invariant-loop-before
invariant-loop-before l = l.text.items ≡ l.initial.text.items ++ row_text l.row l.before
