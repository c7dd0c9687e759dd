use Rattle.std.proofs.Common.{arith, subst}
use Rattle.std.proofs.lemmas.Result.{IfOk-weaker}
use Rattle.pddlstream_app.proofs.PlansLemmas.{says_right}
use Rattle.legal_report.proofs.LinesLemmas.{report_short}
use Rattle.replay_check.specs.Judgings.{HasRight, IsRightOf, verdict_of}
use Rattle.replay_check.specs.Verdicts.{IsVerdict}
use Rattle.replay_check.specs.declared.verdict.Verdict.TheVariants as verdict
use Rattle.pddlstream_app.proofs.play.played.Goals as goal

pub right_said-requires : goal.right_said-requires
right_said-requires c =
    let right : HasRight c.args.task.now c.args.bytes.now c.in-Valid.right = subst
    (IsRightOf c.args.task.now c.args.bytes.now) c.in-Valid.is c.in_ok-judged.ensures.right in
    let lines = report_short c.in-Valid.right.report c.args.bytes.now right.spelled in
    omega (arith, lines, c.requires.bytes)

pub returns-in-Valid : goal.returns-in-Valid
returns-in-Valid c =
    let right : HasRight c.args.task.now c.args.bytes.now c.in-Valid.right = subst
    (IsRightOf c.args.task.now c.args.bytes.now) c.in-Valid.is c.in_ok-judged.ensures.right in
    let said : IsVerdict c.args.states c.args.task.now c.args.bytes.now verdict.Valid = subst
    (λ j. IsVerdict c.args.states c.args.task.now c.args.bytes.now (verdict_of j)) c.in-Valid.is c.in_ok-judged.ensures.verdict in
    IfOk-weaker c.right_said.result _ _ (λ s told. says_right c.in-Valid.right said right told) c.right_said.ensures

pub returns-in-Invalid : goal.returns-in-Invalid
returns-in-Invalid c =
    let said : IsVerdict c.args.states c.args.task.now c.args.bytes.now (verdict.Invalid c.in-Invalid.line c.in-Invalid.kind) = subst
    (λ j. IsVerdict c.args.states c.args.task.now c.args.bytes.now (verdict_of j)) c.in-Invalid.is c.in_ok-judged.ensures.verdict in
    IfOk-weaker c.said_of.result _ _ (λ s told. (verdict.Invalid c.in-Invalid.line c.in-Invalid.kind, said, told)) c.said_of.ensures

pub returns-in-Limit : goal.returns-in-Limit
returns-in-Limit c =
    let said : IsVerdict c.args.states c.args.task.now c.args.bytes.now verdict.Limit = subst
    (λ j. IsVerdict c.args.states c.args.task.now c.args.bytes.now (verdict_of j)) c.in-Limit.is c.in_ok-judged.ensures.verdict in
    IfOk-weaker c.said_of-in-Limit.result _ _ (λ s told. (verdict.Limit, said, told)) c.said_of-in-Limit.ensures
