use Rattle.std.proofs.Common.{◌∙◌, sym, subst}
use Rattle.std.proofs.lemmas.Bool.{false≢true}
use Rattle.best_first.specs.Answer.{IsSolvableWithin}
use Rattle.transcript_model.specs.declared.outcome.Outcome.TheVariants as outcome
use Rattle.replay_check.proofs.ClaimsLemmas.{no_plan_open, no_plan_said}
use Rattle.replay_check.specs.Claims.{IsJudged}
use Rattle.replay_check.specs.Standings.{limits_by}
use Rattle.replay_check.proofs.claims.judge_no_plan.Goals as goal

pub returns-then-not-branch : goal.returns-then-not-branch
returns-then-not-branch c = λ entries h closed.
    let due = c.in_ok-is_nothing_due.ensures entries h in (
      λ p. false≢true (sym c.if-not-branch.true ∙ due.1 p.closed.finished),
      λ u. false≢true (sym c.if-not-branch.true ∙ due.1 u.0),
    )

pub returns-in-None : goal.returns-in-None
returns-in-None c = λ entries h closed.
    let b = c.args.bounds.now in
    no_plan_open (limits_by b) b.limit b.task.now entries c.args.knowledge.now h
    ((c.in_ok-is_nothing_due.ensures entries h).0 c.if-not-branch.false)
    (subst (IsSolvableWithin b.task.now c.args.knowledge.now.facts.known b.limit) c.in-None.is c.in_ok-is_solvable_within.ensures)

pub returns-in-Some : goal.returns-in-Some
returns-in-Some c = λ entries h closed.
    let b = c.args.bounds.now in
    subst (IsJudged (limits_by b) b.limit b.task.now entries outcome.NoPlan) (sym c.decided.ensures)
    (no_plan_said (limits_by b) b.limit b.task.now entries c.args.knowledge.now h closed
    ((c.in_ok-is_nothing_due.ensures entries h).0 c.if-not-branch.false) c.in-Some.solvable
    (subst (IsSolvableWithin b.task.now c.args.knowledge.now.facts.known b.limit) c.in-Some.is c.in_ok-is_solvable_within.ensures))
