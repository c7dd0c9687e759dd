use Rattle.std.proofs.Common.{◌≡◌, ◌∙◌, ◌↔◌, IsTrue, true, false, subst, sym}
use Rattle.std.proofs.lemmas.Bool.{false≢true}
use Rattle.task_model.specs.Known.{Known}
use Rattle.task_model.specs.Plans.{IsReached, MoreThan}
use Rattle.transcript_model.specs.declared.outcome.LimitKind.TheVariants.{States}
use Rattle.transcript_model.specs.declared.outcome.Outcome.TheVariants as outcome
use Rattle.replay_check.specs.Claims.{IsJudged}
use Rattle.replay_check.specs.Standings.{limits_by}
use Rattle.replay_check.proofs.ClaimsStateLemmas.{states_decided, states_due, states_few, states_open}
use Rattle.replay_check.proofs.claims.judge_states.Goals as goal

pub returns-then-not-branch : goal.returns-then-not-branch
returns-then-not-branch c = λ entries h waits.
    states_due c.args.bounds.now c.args.bounds.now.limit c.args.bounds.now.task.now entries
    (λ all. false≢true (sym c.if-not-branch.true ∙ (c.in_ok-may_be_past_states.ensures entries h).1 all))

pub returns-then-bounds : goal.returns-then-bounds
returns-then-bounds c = λ entries h waits.
    let b = c.args.bounds.now in
    let task = b.task.now in
    let none = (c.in_ok-may_be_past_states.ensures entries h).0 c.if-not-branch.false in
    let e = subst (λ (k : Known). IsTrue c.in_ok-more.more ↔ MoreThan b.states (IsReached task k)) h.known c.in_ok-more.ensures in
    subst (IsJudged (limits_by b) b.limit task entries (outcome.Limit States))
    (sym c.decided.ensures)
    (states_decided b b.limit task entries
    (λ dreams. record { legal = h.legal; none_open = waits; finished = none dreams }) c.in_ok-more.more c.if-bounds.true e)

pub returns-then-branch : goal.returns-then-branch
returns-then-branch c = λ entries h waits.
    let b = c.args.bounds.now in
    let task = b.task.now in
    let none = (c.in_ok-may_be_past_states.ensures entries h).0 c.if-not-branch.false in
    states_open b b.limit task entries (λ dreams. record { legal = h.legal; none_open = waits; finished = none dreams })
    c.if-bounds.false
    (subst (λ (k : Known). MoreThan b.limit (IsReached task k)) h.known (c.in_ok-exceeds.ensures.0 c.if-branch.true))

pub returns : goal.returns
returns c = λ entries h waits.
    let b = c.args.bounds.now in
    let task = b.task.now in
    states_few b b.limit task entries c.if-bounds.false (λ more.
    let over : c.in_ok-exceeds.field-0 ≡ true =
    c.in_ok-exceeds.ensures.1 (subst (λ (k : Known). MoreThan b.limit (IsReached task k)) (sym h.known) more) in
    let few : c.in_ok-exceeds.field-0 ≡ false = c.if-branch.false in
    absurd (cc))
