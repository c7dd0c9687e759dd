use Rattle.std.proofs.Common.{◌≡◌, ◌∙◌, ◌<◌, length, arith, ap, sym, subst, not, ◌==◌}
use Rattle.std.proofs.lemmas.Grind.{common_steps}
use Rattle.transcript_model.specs.declared.outcome.LimitKind.TheVariants.{Calls}
use Rattle.transcript_model.specs.declared.outcome.Outcome.TheVariants as outcome
use Rattle.replay_check.specs.Claims.{IsJudged, claim_of}
use Rattle.replay_check.specs.Standings.{limits_by}
use Rattle.replay_check.proofs.ClaimsCallLemmas.{other_calls, past_many, past_some, some_wait}
use Rattle.replay_check.proofs.claims.judge_calls.Goals.{then-len-bounds-via-then-len-bounds, then-len-bounds-via-else-len-bounds+then-not-is_empty}
use Rattle.replay_check.proofs.claims.judge_calls.Goals as goal

pub returns-then-len-bounds : goal.returns-then-len-bounds
returns-then-len-bounds c = λ limit entries h.
    let b = c.args.bounds.now in
    let l = c.args.knowledge.now in
    elim c.then-len-bounds.branch [
      | then-len-bounds-via-then-len-bounds w ↦
          other_calls b limit b.task.now entries l h (λ all. grind (arith, common_steps))
      | then-len-bounds-via-else-len-bounds+then-not-is_empty w ↦
          let some : 0 < length l.unanswered.items = grind (arith, common_steps) in
          some_wait b limit b.task.now entries l h some
    ]

pub returns-in_default : goal.returns-in_default
returns-in_default c = λ limit entries h.
    let b = c.args.bounds.now in
    let l = c.args.knowledge.now in
    let all : length l.asked.items ≡ b.calls = grind (arith, common_steps) in
    let empty : length l.unanswered.items ≡ 0 = grind (arith, common_steps) in
    past_many b limit b.task.now entries l h all empty (rw c.in_default.is at c.in_ok-dues.ensures.none)

pub returns : goal.returns
returns c = λ limit entries h.
    let b = c.args.bounds.now in
    let l = c.args.knowledge.now in
    let all : length l.asked.items ≡ b.calls = grind (arith, common_steps) in
    let empty : length l.unanswered.items ≡ 0 = grind (arith, common_steps) in
    let dues = c.in-Some.dues.items in
    let turn = rw c.in-Some.is at c.in_ok-dues.ensures.some in
    let says = ap (λ n. claim_of (not (n == 0))) (sym (ap length c.as_slice-2.ensures.value))
    ∙ sym (c.decided.ensures ∙ ap (λ b. claim_of (not b)) c.is_empty-2.ensures) in
    subst (IsJudged (limits_by b) limit b.task.now entries (outcome.Limit Calls)) says
    (past_some b limit b.task.now entries l h all empty dues turn)
