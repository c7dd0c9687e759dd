use Rattle.std.proofs.Common.{List, ◌++◌, drop}
use Rattle.task_model.specs.declared.domain.Sort as sort
use Rattle.domain_reader.specs.Cycles.{AreSorts}
use Rattle.domain_reader.proofs.cycles.sorts_of.Given as goal

-- the types so far, before those that come
abbrev pub invariant-loop-place : goal.invariant-loop-place
invariant-loop-place l =
    (rest : List sort.Sort) → AreSorts l.edges l.place (drop l.place l.sorts) rest
    → AreSorts l.edges 0 l.sorts (l.list.items ++ rest)
