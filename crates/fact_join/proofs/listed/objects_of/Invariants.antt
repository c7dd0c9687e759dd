use Rattle.std.proofs.Common.{◌≡◌, take}
use Rattle.task_model.specs.Known.{objects_of as objects_with}
use Rattle.fact_join.proofs.listed.objects_of.Given as goal

-- the objects that were passed
abbrev pub invariant-loop-place : goal.invariant-loop-place
invariant-loop-place g l =
    l.objects.items ≡ take l.place (objects_with (g.L.Look.known l.look).facts l.sort)
