use Rattle.std.proofs.Common.{◌∙◌, ◌++◌, ◌∷◌, [], ◌+◌, sym}
use Rattle.lemmas.proofs.Numbers.{numbers_more}
use Rattle.optimistic_set.proofs.placeholders.fresh_objects.Goals as goal

pub loop-number-preserved : goal.loop-number-preserved
loop-number-preserved c =
    c.in_ok-push.ensures.ok ∙ (λ k. c.loop-number.invariant k ++ c.new.ensures k ∷ [])
    ∙ sym (numbers_more c.args.first c.loop-number.number)
