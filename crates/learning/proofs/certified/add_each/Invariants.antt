use Rattle.std.proofs.Common.{◌≡◌, ◌++◌, map, take}
use Rattle.task_model.specs.Known.{type_fact}
use Rattle.learning.proofs.certified.add_each.Given as goal

-- the types that were passed are there
abbrev pub invariant-loop-sort : goal.invariant-loop-sort
invariant-loop-sort l = l.facts.items ≡ l.initial.facts.items ++ map (λ s. type_fact s l.object) (take l.sort-index l.sorts)
