-- Laws of reports. Each is the contract of a public function of `laws.rt`, and so is proved.
use Rattle.std.specs.Prelude.{◌≡◌, ℕ, List}
use Rattle.task_model.specs.declared.task.Task.{Task}
use Rattle.transcript_model.specs.declared.entry.Entry.{Entry}
use Rattle.legal_report.specs.Reports.{RefusesReport, SpellsTranscript}
use Rattle.legal_report.specs.declared.flaw.ReportFlaw.{ReportFlaw}

-- a text has one legal transcript at most
abbrev pub TextsHaveOneTranscript : Type 0
TextsHaveOneTranscript =
    (task : Task) (bytes : List ℕ) (first second : List Entry) → SpellsTranscript task bytes first
    → SpellsTranscript task bytes second → first ≡ second

-- a text with a legal transcript is refused for nothing
abbrev pub LegalReportsAreNotRefused : Type 0
LegalReportsAreNotRefused =
    (task : Task) (bytes : List ℕ) (entries : List Entry) (line : ℕ) (flaw : ReportFlaw)
    → SpellsTranscript task bytes entries
    → ¬ (RefusesReport task bytes line flaw)

-- a text is refused in one line, for one flaw
abbrev pub ReportsAreRefusedOnce : Type 0
ReportsAreRefusedOnce =
    (task : Task) (bytes : List ℕ) (line other : ℕ) (flaw than : ReportFlaw) → RefusesReport task bytes line flaw
    → RefusesReport task bytes other than → (line ≡ other) × (flaw ≡ than)
