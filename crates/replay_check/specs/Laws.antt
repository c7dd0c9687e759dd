-- Laws of the definitions. Each is the contract of a public function of `laws.rt`, and so is proved.
use Rattle.std.specs.Prelude.{◌≡◌, ℕ, List}
use Rattle.task_model.specs.declared.task.Task.{Task}
use Rattle.report_text.specs.Forms.{IsFormed}
use Rattle.report_text.specs.Texts.{text_of_report}
use Rattle.transcript_model.specs.declared.report.Report.{Report}
use Rattle.replay_check.specs.Verdicts.{IsRightReport, IsUndecidedReport, IsVerdict}
use Rattle.replay_check.specs.declared.verdict.Verdict.{Verdict}
use Rattle.replay_check.specs.declared.verdict.Verdict.TheVariants.{Valid}

-- Of the text of a report that is right and whose claim is decided nothing else is said than that it is valid.
abbrev pub RightReportsAreValid : Type 0
RightReportsAreValid =
    (limit : ℕ) (task : Task) (r : Report) (v : Verdict) → IsFormed r → IsRightReport task r
    → ¬ (IsUndecidedReport limit task r) → IsVerdict limit task (text_of_report r) v → v ≡ Valid

-- Of one text, with one limit, one thing is said.
abbrev pub VerdictsAreUnique : Type 0
VerdictsAreUnique =
    (limit : ℕ) (task : Task) (bytes : List ℕ) (v w : Verdict) → IsVerdict limit task bytes v
    → IsVerdict limit task bytes w → v ≡ w
