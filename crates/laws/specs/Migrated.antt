-- A report of version 1 is judged as it is in version 2. Each law is the contract of a public function of `replays.rt`, and
-- so is proved.
use Rattle.std.specs.Prelude.{◌≡◌, ◌↔◌, ℕ}
use Rattle.replay_check.specs.Breaches.{IsBreach}
use Rattle.replay_check.specs.Verdicts.{IsRightReport, IsUndecidedAt, IsVerdict}
use Rattle.replay_check.specs.declared.verdict.BreachKind.{BreachKind}
use Rattle.replay_check.specs.declared.verdict.Verdict.{Verdict}
use Rattle.report_text.specs.Forms.{IsFormed}
use Rattle.report_text.specs.Texts.{in_version, text_of_report}
use Rattle.task_model.specs.declared.task.Task.{Task}
use Rattle.transcript_model.specs.declared.report.Report.{Report}

-- With one task and one limit the same is wrong with two reports, line by line and kind by kind; the same claims aren't
-- decided; and the same is said of their texts.
pub record AreJudgedAlike (limit : ℕ) (task : Task) (r s : Report) : Type 0 where
  pub right : IsRightReport task r ↔ IsRightReport task s
  pub breaches : (line : ℕ) (k : BreachKind) → IsBreach task r line k ↔ IsBreach task s line k
  pub undecided : (line : ℕ) → IsUndecidedAt limit task r line ↔ IsUndecidedAt limit task s line
  pub verdicts : (v : Verdict) → IsVerdict limit task (text_of_report r) v ↔ IsVerdict limit task (text_of_report s) v

-- A report has the stated forms in version 2 too.
abbrev pub MigratedReportsAreFormed : Type 0
MigratedReportsAreFormed = (r : Report) → IsFormed r → IsFormed (in_version 2 r)

-- A report of version 1 is judged as it is in version 2, by each task and with each limit.
abbrev pub MigratedReportsAreJudgedAlike : Type 0
MigratedReportsAreJudgedAlike =
    (limit : ℕ) (task : Task) (r : Report) → IsFormed r → r.version ≡ 1 → AreJudgedAlike limit task r (in_version 2 r)
