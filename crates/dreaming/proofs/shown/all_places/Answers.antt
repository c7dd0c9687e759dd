use Rattle.std.proofs.Common.{◌≡◌, ◌∙◌, ◌+◌, ◌++◌, ◌∷◌, [], sym, ap, arith}
use Rattle.lemmas.proofs.Numbers.{numbers_more}
use Rattle.lemmas.specs.Lists.{numbers_from}
use Rattle.dreaming.proofs.shown.all_places.Goals as goal

pub loop-place-preserved : goal.loop-place-preserved
loop-place-preserved c =
    let p = c.loop-place.place in
    let same : 0 + p ≡ p = omega arith in
    c.in_ok-push.ensures.items ∙ ap (λ ps. ps ++ p ∷ []) c.loop-place.invariant
    ∙ sym (numbers_more 0 p ∙ ap (λ n. numbers_from 0 p ++ n ∷ []) same)
