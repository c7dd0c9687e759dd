use Rattle.std.proofs.Common.{◌≡◌, ◌+◌, ◌≤◌, ℕ, Bool, cond, max, length, sym, ap, subst, ◌∙◌, arith, slice_index_or}
use Rattle.lemmas.proofs.ListTests.{get_some}
use Rattle.plan_deorder.proofs.StagingLemmas.{few_before, greatest_next, greatest_of, long, small}
use Rattle.plan_deorder.specs.Clashes.{clash_at, clash_of}
use Rattle.plan_deorder.proofs.order.stage.Goals.{then-conflict, else-conflict}
use Rattle.plan_deorder.proofs.order.stage.Goals as goal

pub bounds-stages-earlier : goal.bounds-stages-earlier
bounds-stages-earlier c =
    let size : length c.args.stages.now ≡ c.args.place = ap length c.requires.stages ∙ long c.args.touched.now c.args.place in
    omega (arith, size, c.loop-earlier-test.true)

pub loop-earlier-preserved : goal.loop-earlier-preserved
loop-earlier-preserved c =
    let touched = c.args.touched.now in
    let stages = c.args.stages.now in
    let i = c.loop-earlier.earlier in
    let j = c.args.place in
    let first = get_some touched i c.index-touched-earlier.result (omega (arith, c.loop-earlier-test.true, c.requires.within))
    c.index-touched-earlier.is in
    let second = get_some touched j c.index-touched-place.result c.requires.within c.index-touched-place.is in
    let clash : clash_at touched i j ≡ c.conflict.result = (λ k. clash_of (first k) (second k)) ∙ sym c.conflict.ensures in
    let most = greatest_of touched stages j i in
    let select : Bool → ℕ = λ b. cond b (max (slice_index_or stages i 0) most) most in
    elim c.if-conflict.branch [
      | then-conflict w ↦
          w.greatest-is ∙ w.max-greatest.ensures ∙ ap (max (slice_index_or stages i 0)) c.loop-earlier.invariant
          ∙ sym (greatest_next touched stages j i ∙ ap select (clash ∙ w.if-conflict.true))
      | else-conflict w ↦
          w.greatest-is ∙ c.loop-earlier.invariant
          ∙ sym (greatest_next touched stages j i ∙ ap select (clash ∙ w.if-conflict.false))
    ]

pub overflow_add-result : goal.overflow_add-result
overflow_add-result c =
    let touched = c.args.touched.now in
    let few = few_before touched c.args.stages.now c.args.place c.loop-earlier.earlier (λ i h.
    subst (λ ss. slice_index_or ss i 0 ≤ i + 1) (sym c.requires.stages)
    (small touched c.args.place i (omega (arith, h, c.loop-earlier.auto.earlier-end)))) in
    omega (arith, few, c.loop-earlier.invariant, c.loop-earlier.auto.earlier-end, c.requires.within, c.requires.few)
