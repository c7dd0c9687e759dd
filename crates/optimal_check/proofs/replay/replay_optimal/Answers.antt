use Rattle.std.proofs.Common.{inl, inr, ◌≡◌, ◌<◌, ◌^◌, length, subst, arith}
use Rattle.std.proofs.lemmas.Result.{IfOk-weaker}
use Rattle.legal_report.proofs.LinesLemmas.{report_short}
use Rattle.replay_check.specs.Judgings.{HasRight, IsRightOf, verdict_of}
use Rattle.replay_check.specs.Verdicts.{IsVerdict}
use Rattle.replay_check.specs.declared.verdict.Judged.{Judged}
use Rattle.replay_check.specs.declared.verdict.Verdict.TheVariants.{Invalid, Valid}
use Rattle.report_text.specs.Texts.{lines_of_report}
use Rattle.optimal_check.proofs.VerdictLemmas.{right_report}
use Rattle.optimal_check.specs.Verdicts.{IsCostVerdict, IsOutcomeSaid}
use Rattle.optimal_check.proofs.replay.replay_optimal.Goals as goal
use Rattle.optimal_check.proofs.replay.replay_optimal.Goals.{In-Valid}

-- the report that is handed over is right
right_of : (c : In-Valid) → HasRight c.args.task.now c.args.bytes.now c.in-Valid.right
right_of c = subst (IsRightOf c.args.task.now c.args.bytes.now) c.in-Valid.is c.in_ok-right.ensures.right

pub judge_right-requires-clause-lines : goal.judge_right-requires-clause-lines
judge_right-requires-clause-lines c =
    let r = c.in-Valid.right.report in
    let short = report_short r c.args.bytes.now
    (right_of (goal.at.judge_right-requires-clause-lines c).In-Valid).spelled in
    let few : length (lines_of_report r) < 2 ^ 31 = omega (arith, short, c.requires.bytes) in
    few

pub returns-in-Valid : goal.returns-in-Valid
returns-in-Valid c =
    let limit = c.args.limit in
    let task = c.args.task.now in
    let bytes = c.args.bytes.now in
    let right = c.in-Valid.right in
    let has = right_of (goal.at.returns-in-Valid c).In-Valid in
    let said = subst (λ (j : Judged). IsVerdict limit task bytes (verdict_of j)) c.in-Valid.is
    c.in_ok-right.ensures.verdict in
    IfOk-weaker c.judge_right.result (IsOutcomeSaid limit task right.report right.report.outcome)
    (IsCostVerdict limit task bytes) (λ v is. inr (record {
      report = right.report;
      formed = has.formed;
      spelled = has.spelled;
      right = right_report limit task bytes right said has;
      said = is;
    })) c.judge_right.ensures

pub returns-in-Invalid : goal.returns-in-Invalid
returns-in-Invalid c =
    let limit = c.args.limit in
    let task = c.args.task.now in
    let bytes = c.args.bytes.now in
    let said = subst (λ (j : Judged). IsVerdict limit task bytes (verdict_of j)) c.in-Invalid.is
    c.in_ok-right.ensures.verdict in
    inl (said, λ (e : Invalid c.in-Invalid.line c.in-Invalid.kind ≡ Valid). absurd (cc))
