use Rattle.std.proofs.Common.{◌≤◌, length}
use Rattle.fact_join.specs.Adding.{AreAll}
use Rattle.instance_search.specs.Found.{IsSoughtBelow}
use Rattle.instance_search.proofs.search.found.Given as goal

-- the instances of the streams that were passed are there
abbrev pub invariant-loop-place : goal.invariant-loop-place
invariant-loop-place g l =
    AreAll (IsSoughtBelow l.task.streams (g.L.Look.known l.look) (g.S.Sought.seeks l.sought) l.place) l.instances.items
    × (length l.instances.items ≤ l.most)
