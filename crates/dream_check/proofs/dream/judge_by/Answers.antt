use Rattle.std.proofs.Common.{inl, inr, refl, subst}
use Rattle.std.proofs.lemmas.Result.{IfOk-weaker}
use Rattle.dream_check.specs.Listed.{AreTaken, IsJudgedOver, IsPartJudged}
use Rattle.dream_check.proofs.dream.judge_by.Goals as goal

pub returns-in-Some : goal.returns-in-Some
returns-in-Some c =
    let l = c.args.listing.now in
    inl (
      c.in-Some.place,
      refl,
      subst (AreTaken l.task.now l.supposed.now c.args.uses.now c.take_uses.new.part) c.in-Some.is c.in_ok-place.ensures,
    )

pub judge_part-requires-clause-part : goal.judge_part-requires-clause-part
judge_part-requires-clause-part c =
    let l = c.args.listing.now in
    (subst (AreTaken l.task.now l.supposed.now c.args.uses.now c.take_uses.new.part) c.in-None.is c.in_ok-place.ensures).1

pub returns-in-None : goal.returns-in-None
returns-in-None c =
    let l = c.args.listing.now in
    let task = l.task.now in
    let d = l.supposed.now in
    let part = c.take_uses.new.part in
    let taken = subst (AreTaken task d c.args.uses.now part) c.in-None.is c.in_ok-place.ensures in
    IfOk-weaker c.judge_part.result (IsPartJudged task d part.places c.args.steps.now)
    (IsJudgedOver task d c.args.uses.now c.args.steps.now) (λ x said. inr (part.places, taken.0, said)) c.judge_part.ensures
