use Rattle.std.proofs.Common.{◌≡◌, sym, ◌∙◌, ◌++◌, ◌∷◌, [], ◌+◌, arith}
use Rattle.plan_rows.proofs.session.streams.Goals as goal
use Rattle.lemmas.proofs.Numbers.{numbers_more}

pub loop-place-preserved : goal.loop-place-preserved
loop-place-preserved c =
    let place = c.loop-place.place in
    let here : place ≡ 0 + place = omega arith in
    c.in_ok-push.ensures.items ∙ (λ i. c.loop-place.invariant i ++ here i ∷ []) ∙ sym (numbers_more 0 place)
