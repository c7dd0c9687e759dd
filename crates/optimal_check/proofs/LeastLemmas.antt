-- The transcript of a report that is legal is refused for nothing.
use Rattle.std.proofs.Common.{ℕ, refl}
use Rattle.legal_report.proofs.LawsLemmas.{not_refused}
use Rattle.legal_report.specs.Reports.{IsFlawedAt}
use Rattle.legal_report.specs.Transcripts.{IsSoundTranscript}
use Rattle.legal_report.specs.declared.flaw.ReportFlaw.{ReportFlaw}
use Rattle.legal_report.specs.declared.flaw.ReportFlaw.TheVariants.{Text, Ask, Answer}
use Rattle.report_text.specs.Forms.{IsFormed}
use Rattle.report_text.specs.Texts.{text_of_report}
use Rattle.task_model.specs.declared.task.Task.{Task}
use Rattle.transcript_model.specs.declared.report.Report.{Report}

pub unflawed : (task : Task) (r : Report) → IsFormed r → IsSoundTranscript r.version task r.entries → (line : ℕ)
    (flaw : ReportFlaw) → IsFlawedAt task line flaw r → ⊥
unflawed task r formed sound line Text bad = bad.stops.wrong
unflawed task r formed sound line Ask bad =
    not_refused task (text_of_report r) r.entries line Ask
    (record { report = r; formed = formed; spelled = refl; said = (refl, sound) })
    (record { report = r; formed = formed; spelled = refl; said = bad })
unflawed task r formed sound line Answer bad =
    not_refused task (text_of_report r) r.entries line Answer
    (record { report = r; formed = formed; spelled = refl; said = (refl, sound) })
    (record { report = r; formed = formed; spelled = refl; said = bad })
