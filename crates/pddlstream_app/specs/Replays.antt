-- What is written of a report that is read, and how the run ends.
use Rattle.std.specs.Prelude.{◌≡◌, ℕ, List, ◌++◌, codes}
use Rattle.std.specs.Fmt.{decimal}
use Rattle.replay_check.specs.Kinds.{breach_number}
use Rattle.replay_check.specs.declared.verdict.BreachKind.TheVariants.{Text}
use Rattle.replay_check.specs.declared.verdict.Verdict.{Verdict}
use Rattle.replay_check.specs.declared.verdict.Verdict.TheVariants as verdict
use Rattle.report_text.specs.Faults.{IsFirstFault}
use Rattle.report_text.specs.Forms.{IsFormed}
use Rattle.report_text.specs.Texts.{in_version, text_of_report}
use Rattle.transcript_model.specs.declared.report.Report.{Report}
use Rattle.command_files.specs.declared.status.Status.{Status}
use Rattle.command_files.specs.declared.status.Status.TheVariants as status

abbrev pub kind_of_verdict : Verdict → Status
kind_of_verdict verdict.Valid = status.Done
kind_of_verdict (verdict.Invalid line kind) = status.Invalid
kind_of_verdict verdict.Limit = status.Limit

-- the verdict's line; a breach is told with its line and the number of its kind
abbrev pub verdict_text : Verdict → List ℕ
verdict_text verdict.Valid = codes "valid\n"
verdict_text (verdict.Invalid line kind) =
    codes "invalid " ++ decimal line ++ codes " " ++ decimal (breach_number kind) ++ codes "\n"
verdict_text verdict.Limit = codes "limit states\n"

-- The bytes are a report, and the text is the same report in version 2; or they are none, and the first line is told up
-- to which no report begins so.
abbrev pub IsMigrated : List ℕ → Status → List ℕ → Type 0
IsMigrated bytes status.Done text =
    (report : Report) × IsFormed report × (text_of_report report ≡ bytes) × (text ≡ text_of_report (in_version 2 report))
IsMigrated bytes status.Invalid text =
    (line : ℕ) × IsFirstFault bytes line × (text ≡ verdict_text (verdict.Invalid line Text))
IsMigrated bytes status text = ⊥
