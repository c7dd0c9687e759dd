use Rattle.std.proofs.Common.{◌∙◌, ◌++◌, ◌∷◌, [], ap, sym}
use Rattle.task_model.specs.Known.{objects_of as objects_with}
use Rattle.lemmas.proofs.Members.{next_taken}
use Rattle.fact_join.proofs.listed.objects_of.Goals as goal

pub loop-place-preserved : goal.loop-place-preserved
loop-place-preserved g c =
    c.in_ok-push.ensures.items ∙ ap (λ xs. xs ++ c.object.result ∷ []) c.loop-place.invariant
    ∙ sym (next_taken (objects_with (g.L.Look.known c.args.look.now).facts c.args.sort) c.loop-place.place c.object.result c.object.ensures)
