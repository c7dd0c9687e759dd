use Rattle.std.proofs.Common.{◌≡◌, map, take}
use Rattle.task_model.specs.Streams.{name_at}
use Rattle.transcript_model.proofs.naming.name_objects.Given as goal

abbrev pub invariant-loop-object : goal.invariant-loop-object
invariant-loop-object g l =
    l.names.items ≡ map (name_at (g.L.Look.known l.look).names) (take l.object-index l.objects)
