use Rattle.std.proofs.Common.{◌≡◌, ◌+◌, ◌++◌, ◌∷◌, [], suc, sym, ap, ◌∙◌, arith}
use Rattle.plan_deorder.specs.Clashes.{stage_of, stages_of}
use Rattle.plan_deorder.proofs.order.all_stages.Goals as goal

pub loop-place-preserved : goal.loop-place-preserved
loop-place-preserved c =
    let touched = c.args.touched.now in
    let place = c.loop-place.place in
    let stages : c.as_slice.result.now ≡ stages_of touched place = c.as_slice.ensures.value ∙ c.loop-place.invariant in
    let next : place + 1 ≡ suc place = omega arith in
    c.in_ok-push.ensures.items
    ∙ (λ i. c.loop-place.invariant i ++ (c.stage-next.ensures ∙ ap (λ ss. stage_of touched ss place) stages) i ∷ [])
    ∙ ap (stages_of touched) (sym next)
