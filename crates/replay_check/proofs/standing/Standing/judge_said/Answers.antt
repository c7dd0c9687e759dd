use Rattle.std.proofs.Common.{◌≡◌, ◌∙◌, rules, sym, subst}
use Rattle.transcript_model.specs.declared.outcome.LimitKind.TheVariants.{Calls, Instances, States}
use Rattle.transcript_model.specs.declared.outcome.Outcome.TheVariants as said
use Rattle.replay_check.specs.Claims.{IsJudged}
use Rattle.replay_check.specs.Findings.{IsRightFinding, IsEndPlaced}
use Rattle.replay_check.specs.Plans.{IsPlanned}
use Rattle.replay_check.specs.Standings.{limits_by}
use Rattle.replay_check.proofs.standing.Standing.judge_said.Goals.{in-NoPlan+in_ok-claim-in-NoPlan, in-Limit-Calls+in_ok-claim-in-Limit-Calls, in-Limit-States+in_ok-claim-in-Limit-States, in-Limit-Instances+in_ok-claim-in-Limit-Instances}
use Rattle.replay_check.proofs.standing.Standing.judge_said.Goals as goal

pub returns-in-Plan : goal.returns-in-Plan
returns-in-Plan c =
    let b = c.args.bounds.now in
    let task = b.task.now in
    let entries = c.args.entries.now in
    let p = c.in-Plan in
    let judged = c.in_ok-found-in-Plan.ensures.said in
    let over_from =
    subst (λ from. IsPlanned b.version task entries c.as_slice.result.now p.cost from c.in_ok-found-in-Plan.found)
    c.as_slice-in-Plan.ensures judged in
    let over_calls =
    subst (λ calls. IsPlanned b.version task entries calls p.cost p.from c.in_ok-found-in-Plan.found) c.as_slice.ensures over_from in
    let placed = subst (IsEndPlaced (limits_by b) b.limit task entries) p.is c.requires.placed in
    let found =
    c.planned.ensures (limits_by b) b.limit task entries p.steps p.cost p.from
    (sym c.len.ensures) c.requires.standing.stands.knowledge.legal placed over_calls in
    subst (λ o. IsRightFinding (limits_by b) b.limit task entries o c.planned.result) (sym p.is) found

pub returns : goal.returns
returns c =
    let b = c.args.bounds.now in
    let task = b.task.now in
    let entries = c.args.entries.now in
    let limit = b.limit in
    let knowledge = c.requires.standing.stands.knowledge in
    elim c.match-outcome.branch [
      | in-NoPlan+in_ok-claim-in-NoPlan w ↦
          let judged = w.in_ok-claim-in-NoPlan.ensures entries knowledge (c.requires.resting (λ e.
          absurd (let both : said.NoPlan ≡ said.Limit Calls = sym w.in-NoPlan.is ∙ e in cc))) in
          let placed = subst (IsEndPlaced (limits_by b) limit task entries) w.in-NoPlan.is c.requires.placed in
          let found =
          c.claimed.ensures (limits_by b) limit task entries said.NoPlan tt placed
          (subst (IsJudged (limits_by b) limit task entries said.NoPlan) (sym w.claim-is) judged) in
          subst (λ o. IsRightFinding (limits_by b) limit task entries o c.claimed.result) (sym w.in-NoPlan.is) found
      | in-Limit-Calls+in_ok-claim-in-Limit-Calls w ↦
          let is : c.args.outcome.now ≡ said.Limit Calls = search rules in
          let judged = w.in_ok-claim-in-Limit-Calls.ensures limit entries knowledge in
          let placed = subst (IsEndPlaced (limits_by b) limit task entries) is c.requires.placed in
          let found =
          c.claimed.ensures (limits_by b) limit task entries (said.Limit Calls) tt placed
          (subst (IsJudged (limits_by b) limit task entries (said.Limit Calls)) (sym w.claim-is) judged) in
          subst (λ o. IsRightFinding (limits_by b) limit task entries o c.claimed.result) (sym is) found
      | in-Limit-States+in_ok-claim-in-Limit-States w ↦
          let is : c.args.outcome.now ≡ said.Limit States = search rules in
          let judged = w.in_ok-claim-in-Limit-States.ensures entries knowledge (c.requires.resting (λ e.
          absurd (let both : said.Limit States ≡ said.Limit Calls = sym is ∙ e in cc))) in
          let placed = subst (IsEndPlaced (limits_by b) limit task entries) is c.requires.placed in
          let found =
          c.claimed.ensures (limits_by b) limit task entries (said.Limit States) tt placed
          (subst (IsJudged (limits_by b) limit task entries (said.Limit States)) (sym w.claim-is) judged) in
          subst (λ o. IsRightFinding (limits_by b) limit task entries o c.claimed.result) (sym is) found
      | in-Limit-Instances+in_ok-claim-in-Limit-Instances w ↦
          let is : c.args.outcome.now ≡ said.Limit Instances = search rules in
          let judged = w.in_ok-claim-in-Limit-Instances.ensures limit entries knowledge in
          let placed = subst (IsEndPlaced (limits_by b) limit task entries) is c.requires.placed in
          let found =
          c.claimed.ensures (limits_by b) limit task entries (said.Limit Instances) tt placed
          (subst (IsJudged (limits_by b) limit task entries (said.Limit Instances)) (sym w.claim-is) judged) in
          subst (λ o. IsRightFinding (limits_by b) limit task entries o c.claimed.result) (sym is) found
    ]
