-- What is said of a text, and what is kept of the report where that is right.
use Rattle.std.specs.Prelude.{◌≡◌, ℕ, List}
use Rattle.report_text.specs.Forms.{IsFormed}
use Rattle.report_text.specs.Texts.{text_of_report}
use Rattle.task_model.specs.declared.task.Task.{Task}
use Rattle.transcript_model.specs.Transcript.{known_of}
use Rattle.transcript_model.specs.declared.report.Report.{Report}
use Rattle.replay_check.specs.Verdicts.{IsReportVerdict, IsRightReport}
use Rattle.replay_check.specs.declared.judging.Ended.{Ended}
use Rattle.replay_check.specs.declared.judging.Ended.TheVariants as ended
use Rattle.replay_check.specs.declared.verdict.Judged.{Judged}
use Rattle.replay_check.specs.declared.verdict.Judged.TheVariants as judged
use Rattle.replay_check.specs.declared.verdict.RightReport.{RightReport}
use Rattle.replay_check.specs.declared.verdict.Verdict.{Verdict}
use Rattle.replay_check.specs.declared.verdict.Verdict.TheVariants.{Valid, Invalid, Limit}

-- what is said, without the report
abbrev pub verdict_of : Judged → Verdict
verdict_of (judged.Valid right) = Valid
verdict_of (judged.Invalid line k) = Invalid line k
verdict_of judged.Limit = Limit

-- The text is this report's, which is right, and what its answers certify is known.
pub record HasRight (task : Task) (bytes : List ℕ) (r : RightReport) : Type 0 where
  pub formed : IsFormed r.report
  pub spelled : text_of_report r.report ≡ bytes
  pub right : IsRightReport task r.report
  pub known : r.facts.known ≡ known_of task r.report.entries

-- where the text is right, this is its report
abbrev pub IsRightOf : Task → List ℕ → Judged → Type 0
IsRightOf task bytes (judged.Valid right) = HasRight task bytes right
IsRightOf task bytes (judged.Invalid line k) = Unit {0}
IsRightOf task bytes judged.Limit = Unit {0}

-- what is said of the report; and where it is right, what its answers certify is known
abbrev pub IsEnded : ℕ → Task → Report → Ended → Type 0
IsEnded limit task r (ended.Valid standing) =
    IsReportVerdict limit task r Valid × (standing.value.knowledge.facts.known ≡ known_of task r.entries)
IsEnded limit task r (ended.Invalid line k) = IsReportVerdict limit task r (Invalid line k)
IsEnded limit task r ended.Limit = IsReportVerdict limit task r Limit
