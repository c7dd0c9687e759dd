use Rattle.std.proofs.Common.{◌≡◌, ◌++◌, map, take}
use Rattle.task_model.specs.Streams.{name_at}
use Rattle.gen_lines.proofs.RequestLemmas.{spaced}
use Rattle.gen_lines.proofs.request.request_text.Given as goal

abbrev pub invariant-loop-object : goal.invariant-loop-object
invariant-loop-object g l =
    l.text.items ≡ l.initial.text.items ++ spaced (map (name_at (g.L.Look.known l.look).names) (take l.object-index l.object-items))
