-- What a replay may say of a text.
use Rattle.std.specs.Prelude.{◌≡◌, ◌⊎◌, ℕ, ◌<◌, List, take, Some, slice_get}
use Rattle.dream_check.specs.Judged.{IsUndecidedNone}
use Rattle.turn_laws.specs.Modes.{Leaves}
use Rattle.task_model.specs.Plans.{IsReached, MoreThan}
use Rattle.task_model.specs.Streams.{NothingIsDue}
use Rattle.task_model.specs.declared.task.Task.{Task}
use Rattle.report_text.specs.Faults.{IsFirstFault}
use Rattle.transcript_model.specs.Outcomes.{IsTrueOutcome, MayStand}
use Rattle.transcript_model.specs.Rounds.{Limits}
use Rattle.transcript_model.specs.Transcript.{known_of, notes_of}
use Rattle.transcript_model.specs.Turns.{IsModeLegal, Kept, Stage}
use Rattle.transcript_model.specs.declared.entry.Entry.{Entry}
use Rattle.transcript_model.specs.declared.entry.Entry.TheVariants as entry
use Rattle.transcript_model.specs.declared.head.Mode.TheVariants.{Incremental}
use Rattle.transcript_model.specs.declared.outcome.LimitKind.TheVariants.{States}
use Rattle.transcript_model.specs.declared.outcome.Outcome.{Outcome}
use Rattle.transcript_model.specs.declared.outcome.Outcome.TheVariants as outcome
use Rattle.transcript_model.specs.declared.report.Report.{Report}
use Rattle.replay_check.specs.Breaches.{IsBreach}
use Rattle.replay_check.specs.Heads.{IsFitReportHead, reported_limits}
use Rattle.legal_report.specs.Lines.{line_of}
use Rattle.legal_report.specs.Reports.{IsOfReport}
use Rattle.replay_check.specs.Lines.{Precedes, outcome_line}
use Rattle.replay_check.specs.declared.verdict.BreachKind.{BreachKind}
use Rattle.replay_check.specs.declared.verdict.BreachKind.TheVariants as kind
use Rattle.replay_check.specs.declared.verdict.Verdict.{Verdict}
use Rattle.replay_check.specs.declared.verdict.Verdict.TheVariants.{Valid, Invalid, Limit}

-- ---- claims that aren't decided

-- More than so many states are reached. So it isn't decided that there is no plan, where nothing is due; nor, where the
-- report allows more states, that more than those are reached. In the modes that dream that is false where something is
-- due.
abbrev pub IsUndecidedClaim : ℕ → Limits → Task → List Entry → Outcome → Type 0
IsUndecidedClaim limit limits task entries outcome.NoPlan =
    NothingIsDue task (known_of task entries) (notes_of task entries)
    × MoreThan limit (IsReached task (known_of task entries))
IsUndecidedClaim limit limits task entries (outcome.Limit States) =
    (limit < limits.states) × MoreThan limit (IsReached task (known_of task entries))
    × (¬ (limits.mode ≡ Incremental) → NothingIsDue task (known_of task entries) (notes_of task entries))
IsUndecidedClaim limit limits task entries o = ⊥

-- by what whole turns leave it isn't decided that there is no dream
abbrev pub IsOpenNone : ℕ → Limits → Task → List Entry → Type 0
IsOpenNone limit limits task before =
    (k : Kept) × Leaves limits task before k × IsUndecidedNone limits task before k.tried limit

-- in this line it is said that there is no dream, which isn't decided
pub record HasOpenNone (limit : ℕ) (task : Task) (r : Report) (line : ℕ) : Type 0 where
  pub place : ℕ
  pub there : slice_get r.entries place ≡ Some entry.Nothing
  pub unsure : IsOpenNone limit (reported_limits task r) task (take place r.entries)
  pub is : line ≡ line_of r place

-- the claim in this line isn't decided
abbrev pub IsUndecidedAt : ℕ → Task → Report → ℕ → Type 0
IsUndecidedAt limit task r line =
    ((line ≡ outcome_line r) × IsUndecidedClaim limit (reported_limits task r) task r.entries r.outcome)
    ⊎ HasOpenNone limit task r line

abbrev pub IsUndecidedReport : ℕ → Task → Report → Type 0
IsUndecidedReport limit task r = (line : ℕ) × IsUndecidedAt limit task r line

-- ---- reports

-- All that the report says is right: its head fits the task, its transcript is legal and made of whole turns, and its
-- outcome may stand there and is true.
pub record IsRightReport (task : Task) (r : Report) : Type 0 where
  pub head : IsFitReportHead task r
  pub stage : Stage
  pub legal : IsModeLegal (reported_limits task r) task r.entries stage
  pub stands : MayStand stage r.outcome
  pub true : IsTrueOutcome (reported_limits task r) task r.entries r.outcome

-- no breach precedes this one
abbrev pub NonePrecedes : Task → Report → ℕ → BreachKind → Type 0
NonePrecedes task r line k =
    (other : ℕ) (than : BreachKind) → IsBreach task r other than → ¬ (Precedes other than line k)

-- The first breach. A claim that isn't decided would be told with its line and the last kind, and none comes before it.
pub record IsFirstBreach (limit : ℕ) (task : Task) (r : Report) (line : ℕ) (k : BreachKind) : Type 0 where
  pub breach : IsBreach task r line k
  pub first : NonePrecedes task r line k
  pub decided : (other : ℕ) → IsUndecidedAt limit task r other → Precedes line k other kind.Outcome

abbrev pub IsReportVerdict : ℕ → Task → Report → Verdict → Type 0
IsReportVerdict limit task r Valid = IsRightReport task r × ¬ (IsUndecidedReport limit task r)
IsReportVerdict limit task r (Invalid line k) = IsFirstBreach limit task r line k
IsReportVerdict limit task r Limit =
    (line : ℕ) × IsUndecidedAt limit task r line × NonePrecedes task r line kind.Outcome

-- ---- texts

-- The text is no report, and this is its first line that isn't of a form at its place.
abbrev pub IsNoReport : List ℕ → Verdict → Type 0
IsNoReport bytes v = (line : ℕ) × (v ≡ Invalid line kind.Text) × IsFirstFault bytes line

-- what may be said of a text: it is no report, or this is said of the report that it spells
abbrev pub IsVerdict : ℕ → Task → List ℕ → Verdict → Type 0
IsVerdict limit task bytes v = IsNoReport bytes v ⊎ IsOfReport bytes (λ r. IsReportVerdict limit task r v)
