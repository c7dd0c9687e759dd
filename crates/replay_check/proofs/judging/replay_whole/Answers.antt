use Rattle.std.proofs.Common.{◌∙◌, inr, ◌<◌, ◌^◌, length, arith, sym, subst, ap}
use Rattle.legal_report.proofs.LinesLemmas.{report_short}
use Rattle.report_text.specs.Forms.{IsFormed}
use Rattle.report_text.specs.Texts.{lines_of_report, text_of_report}
use Rattle.transcript_model.specs.declared.report.Report.{Report}
use Rattle.replay_check.specs.Judgings.{IsEnded}
use Rattle.replay_check.proofs.judging.replay_whole.Goals as goal

pub judge-requires-clause-formed : goal.judge-requires-clause-formed
judge-requires-clause-formed c =
    subst IsFormed (sym (c.deref.ensures ∙ c.in_ok-report-in-Ok.ensures.ok)) c.in-Ok.ensures.ok.0

pub judge-requires-clause-lines : goal.judge-requires-clause-lines
judge-requires-clause-lines c =
    let lines = report_short c.in-Ok.read c.args.bytes.now c.in-Ok.ensures.ok.1 in
    let few : length (lines_of_report c.in-Ok.read) < 2 ^ 31 = omega (arith, lines, c.requires.bytes) in
    subst (λ (r : Report). length (lines_of_report r) < 2 ^ 31) (sym (c.deref.ensures ∙ c.in_ok-report-in-Ok.ensures.ok)) few

pub returns-in_ok-ended-in-Ok-clause-verdict : goal.returns-in_ok-ended-in-Ok-clause-verdict
returns-in_ok-ended-in-Ok-clause-verdict c =
    let ended = subst (λ (r : Report). IsEnded c.args.limit c.args.task.now r c.in_ok-ended-in-Ok.ended) c.deref.ensures
    c.in_ok-ended-in-Ok.ensures in
    inr (record {
      report = c.in_ok-report-in-Ok.report.value;
      formed = subst IsFormed (sym c.in_ok-report-in-Ok.ensures.ok) c.in-Ok.ensures.ok.0;
      spelled = ap text_of_report c.in_ok-report-in-Ok.ensures.ok ∙ c.in-Ok.ensures.ok.1;
      said = c.judged.ensures.verdict c.args.limit c.args.task.now ended;
    })

pub returns-in_ok-ended-in-Ok-clause-right : goal.returns-in_ok-ended-in-Ok-clause-right
returns-in_ok-ended-in-Ok-clause-right c =
    let ended = subst (λ (r : Report). IsEnded c.args.limit c.args.task.now r c.in_ok-ended-in-Ok.ended) c.deref.ensures
    c.in_ok-ended-in-Ok.ensures in
    c.judged.ensures.right c.args.limit c.args.task.now c.args.bytes.now
    (subst IsFormed (sym c.in_ok-report-in-Ok.ensures.ok) c.in-Ok.ensures.ok.0)
    (ap text_of_report c.in_ok-report-in-Ok.ensures.ok ∙ c.in-Ok.ensures.ok.1) ended
