-- What is said of a report that is printed in version 2.
use Rattle.std.proofs.Common.{◌≡◌, ℕ, List, sym, subst}
use Rattle.replay_check.specs.declared.verdict.BreachKind.TheVariants.{Text}
use Rattle.replay_check.specs.declared.verdict.Verdict.TheVariants.{Invalid}
use Rattle.report_text.specs.Faults.{IsFirstFault}
use Rattle.report_text.specs.Forms.{IsFormed}
use Rattle.report_text.specs.Texts.{in_version, text_of_report}
use Rattle.transcript_model.specs.declared.report.Report.{Report}
use Rattle.pddlstream_app.specs.Replays.{IsMigrated, kind_of_verdict, verdict_text}
use Rattle.command_files.specs.declared.status.Status.{Status}
use Rattle.command_files.specs.declared.status.Status.TheVariants.{Done}

pub migrated : (report : Report) {bytes : List ℕ} → IsFormed report → text_of_report report ≡ bytes → {status : Status}
    {text : List ℕ} → (status ≡ Done) × (text ≡ text_of_report (in_version 2 report)) → IsMigrated bytes status text
migrated report {bytes} formed spelled {status} {text} said =
    subst (λ s. IsMigrated bytes s text) (sym said.0) (report, formed, spelled, said.1)

pub refused : (line : ℕ) {bytes : List ℕ} → IsFirstFault bytes line → {status : Status} {text : List ℕ}
    → (kind_of_verdict (Invalid line Text) ≡ status) × (text ≡ verdict_text (Invalid line Text)) → IsMigrated bytes status text
refused line {bytes} fault {status} {text} said =
    subst (λ s. IsMigrated bytes s text) said.0 (line, fault, said.1)
