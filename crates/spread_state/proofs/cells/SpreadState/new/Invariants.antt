use Rattle.std.proofs.Common.{◌≡◌, replicate}
use Rattle.task_model.specs.State.{empty}
use Rattle.spread_state.proofs.cells.SpreadState.new.Given as goal

-- so many empty cells
abbrev pub invariant-loop : goal.invariant-loop
invariant-loop l = l.cells.items ≡ replicate l.counter empty
