use Rattle.std.proofs.Common.{◌≡◌, ◌++◌}
use Rattle.task_model.specs.Dreams.{placeholders}
use Rattle.optimistic_set.proofs.placeholders.add_placeholders.Given as goal

-- so many names are there
abbrev pub invariant-loop-number : goal.invariant-loop-number
invariant-loop-number l = l.names.items ≡ l.initial.names.items ++ placeholders l.entry 1 l.number
