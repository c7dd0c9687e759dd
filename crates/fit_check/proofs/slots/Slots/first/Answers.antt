use Rattle.std.proofs.Common.{◌≡◌, ◌+◌, ◌-◌, ◌++◌, replicate, set, true, false, ap, ◌∙◌, suc, arith}
use Rattle.fit_check.specs.Filled.{places_up}
use Rattle.fit_check.proofs.FilledLemmas.{first_up, next_up}
use Rattle.fit_check.proofs.slots.Slots.first.Goals as goal

pub loop-place-preserved : goal.loop-place-preserved
loop-place-preserved c =
    let k = c.loop-place.place in
    let left : 16 - k ≡ suc (15 - k) = omega arith in
    let more : suc k ≡ k + 1 = omega arith in
    let after : 15 - k ≡ 16 - (k + 1) = omega arith in
    ap (λ bs. set bs k true) (c.loop-place.invariant ∙ ap (λ n. replicate k true ++ replicate n false) left) ∙ next_up k (15 - k)
    ∙ (λ i. replicate (more i) true ++ replicate (after i) false)

pub returns : goal.returns
returns c =
    let whole : c.loop-place.place ≡ c.args.count = omega arith in
    ap (places_up 0) (c.loop-place.invariant ∙ ap (λ n. replicate n true ++ replicate (16 - n) false) whole)
    ∙ first_up 0 c.args.count (16 - c.args.count)
