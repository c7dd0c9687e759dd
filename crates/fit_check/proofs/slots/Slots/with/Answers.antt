use Rattle.std.proofs.Common.{true, ◌==◌, ◌++◌, ap, ◌∙◌, arith}
use Rattle.std.specs.List.{list_any}
use Rattle.std.proofs.Math.ListN.{length-set}
use Rattle.lemmas.specs.Lists.{numbers_from}
use Rattle.fit_check.proofs.FilledLemmas.{flag_at, flags_with, flag_set, flag_kept}
use Rattle.fit_check.proofs.slots.Slots.with.Goals as goal

pub loop-place-preserved : goal.loop-place-preserved
loop-place-preserved c = record {
  up = λ n low high. flag_set c.loop-place.filled c.loop-place.place n
      (λ before. c.loop-place.invariant.up n low before) high (omega (arith, c.loop-place.invariant.long));
  kept = λ n out. flag_kept c.loop-place.filled c.loop-place.place n (λ e. absurd (omega (arith, out)))
      ∙ c.loop-place.invariant.kept n (λ low. omega (arith, out low));
  long = length-set c.loop-place.filled c.loop-place.place true ∙ c.loop-place.invariant.long;
}

pub returns : goal.returns
returns c n =
    flag_at c.loop-place.filled n
    ∙ flags_with c.loop-place.filled c.self.inside.filled c.args.first c.args.count n
    (λ low high. c.loop-place.invariant.up n low (omega arith))
    (λ out. c.loop-place.invariant.kept n (λ low. omega (arith, out low)))
    ∙ ap (λ ss. list_any (λ slot. slot == n) (numbers_from c.args.first c.args.count ++ ss)) c.self.view_is
