-- What a report certifies, or why it certifies nothing.
use Rattle.std.specs.Prelude.{◌≡◌, ℕ, List}
use Rattle.report_text.specs.Faults.{IsFirstFault}
use Rattle.report_text.specs.Forms.{IsFormed}
use Rattle.report_text.specs.Texts.{text_of_report}
use Rattle.task_model.specs.declared.task.Task.{Task}
use Rattle.transcript_model.specs.Transcript.{known_of}
use Rattle.transcript_model.specs.declared.entry.Entry.{Entry}
use Rattle.transcript_model.specs.declared.report.Report.{Report}
use Rattle.legal_report.specs.Lines.{line_of}
use Rattle.legal_report.specs.Transcripts.{IsSoundTranscript, FailsAtEntry}
use Rattle.legal_report.specs.declared.report.Certified.{Certified}
use Rattle.legal_report.specs.declared.report.Certified.TheVariants.{Legal, Flawed}
use Rattle.legal_report.specs.declared.flaw.ReportFlaw.{ReportFlaw}
use Rattle.legal_report.specs.declared.flaw.ReportFlaw.TheVariants.{Text}

-- The bytes are the text of a report of the stated forms, of which this is said.
pub record IsOfReport (bytes : List ℕ) (Says : Report → Type 0) : Type 0 where
  pub report : Report
  pub formed : IsFormed report
  pub spelled : text_of_report report ≡ bytes
  pub said : Says report

-- the report has these entries, which are a legal transcript
abbrev pub HasTranscript : Task → List Entry → Report → Type 0
HasTranscript task entries r = (r.entries ≡ entries) × IsSoundTranscript r.version task entries

-- the bytes are a report with this transcript, which is legal
abbrev pub SpellsTranscript : Task → List ℕ → List Entry → Type 0
SpellsTranscript task bytes entries = IsOfReport bytes (HasTranscript task entries)

-- The first entry of the report that is wrong has its first line here, from 1.
pub record IsFlawedAt (task : Task) (line : ℕ) (flaw : ReportFlaw) (r : Report) : Type 0 where
  pub place : ℕ
  pub stops : FailsAtEntry r.version task r.entries place flaw
  pub is : line ≡ line_of r place

-- The bytes certify nothing, for this flaw in this line: up to it no report begins so; or they are a report, and its
-- first wrong entry stands there.
abbrev pub RefusesReport : Task → List ℕ → ℕ → ReportFlaw → Type 0
RefusesReport task bytes line Text = IsFirstFault bytes line
RefusesReport task bytes line flaw = IsOfReport bytes (IsFlawedAt task line flaw)

-- what the report's transcript certifies is known; or it certifies nothing, for a flaw in a line
abbrev pub IsCertifiedReport : Task → Report → Certified → Type 0
IsCertifiedReport task r (Legal knowledge) =
    IsSoundTranscript r.version task r.entries × (knowledge.facts.known ≡ known_of task r.entries)
IsCertifiedReport task r (Flawed line flaw) = IsFlawedAt task line flaw r

-- the same of a text
abbrev pub IsCertified : Task → List ℕ → Certified → Type 0
IsCertified task bytes (Legal knowledge) =
    (entries : List Entry) × SpellsTranscript task bytes entries × (knowledge.facts.known ≡ known_of task entries)
IsCertified task bytes (Flawed line flaw) = RefusesReport task bytes line flaw
