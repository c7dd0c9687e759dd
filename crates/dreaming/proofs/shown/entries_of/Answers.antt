use Rattle.std.proofs.Common.{◌∙◌, ◌++◌, ◌∷◌, [], sym}
use Rattle.dreaming.proofs.PlacesLemmas.{entries_more}
use Rattle.dreaming.proofs.shown.entries_of.Goals as goal

pub loop-place-preserved : goal.loop-place-preserved
loop-place-preserved c =
    c.in_ok-push.ensures.items ∙ (λ k. c.loop-place.invariant k ++ c.in_ok-copy.ensures k ∷ [])
    ∙ sym (entries_more c.args.supposed.now.list c.args.places.now c.loop-place.place-index c.entry.result.now c.loop-place-test.true
    c.entry.ensures)
