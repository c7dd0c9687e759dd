use Rattle.std.proofs.Common.{◌≡◌, ◌∙◌, sym, ap, subst}
use Rattle.report_text.specs.Forms.{IsFormed}
use Rattle.report_text.specs.Texts.{text_of_report}
use Rattle.transcript_model.specs.Transcript.{known_of}
use Rattle.transcript_model.specs.declared.report.Report.{Report}
use Rattle.replay_check.specs.Judgings.{IsEnded}
use Rattle.replay_check.specs.Verdicts.{IsRightReport}
use Rattle.replay_check.proofs.judging.judged.Goals as goal

pub returns-in-Valid-clause-right : goal.returns-in-Valid-clause-right
returns-in-Valid-clause-right c = λ limit task bytes formed spelled said.
    let back = sym c.into_inner.ensures in
    let both = subst (IsEnded limit task c.args.report.value) c.in-Valid.is said in
    let facts : c.facts_of.result.known ≡ c.in-Valid.standing.value.knowledge.facts.known = λ k. (c.facts_of.ensures k).known in
    record {
      formed = subst IsFormed back formed;
      spelled = ap text_of_report c.into_inner.ensures ∙ spelled;
      right = subst (IsRightReport task) back both.0.0;
      known = facts ∙ both.1 ∙ ap (λ (r : Report). known_of task r.entries) back;
    }
