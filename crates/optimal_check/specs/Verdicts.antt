-- What a replay may say of a text where the plan that it shows has to be a cheapest one.
use Rattle.std.specs.Prelude.{◌≡◌, ◌⊎◌, ℕ, ◌+◌, ◌<◌, ◌^◌, List, length}
use Rattle.replay_check.specs.Lines.{outcome_line}
use Rattle.replay_check.specs.Verdicts.{IsReportVerdict, IsVerdict}
use Rattle.replay_check.specs.declared.verdict.BreachKind.TheVariants as kind
use Rattle.replay_check.specs.declared.verdict.RightReport.{RightReport}
use Rattle.replay_check.specs.declared.verdict.Verdict.{Verdict}
use Rattle.replay_check.specs.declared.verdict.Verdict.TheVariants.{Valid, Invalid, Limit}
use Rattle.report_text.specs.Forms.{IsFormed}
use Rattle.report_text.specs.Texts.{lines_of_report, text_of_report}
use Rattle.task_model.specs.Plans.{IsLeastCost, IsReached, IsValid, MoreThan}
use Rattle.task_model.specs.declared.task.GroundAction.{GroundAction}
use Rattle.task_model.specs.declared.task.Task.{Task}
use Rattle.transcript_model.specs.Transcript.{known_of}
use Rattle.transcript_model.specs.declared.entry.Call.{Call}
use Rattle.transcript_model.specs.declared.outcome.Outcome.{Outcome}
use Rattle.transcript_model.specs.declared.outcome.Outcome.TheVariants as outcome
use Rattle.transcript_model.specs.declared.report.Report.{Report}

-- the line of the cost, where the report shows a plan of these steps
abbrev pub place_of_cost : Report → List Call → ℕ
place_of_cost r steps = outcome_line r + length steps + 1

-- a valid plan over what the report certifies costs less
abbrev pub IsDear : Task → Report → ℕ → Type 0
IsDear task r cost =
    (others : List GroundAction) × (other : ℕ) × IsValid task (known_of task r.entries) others other × (other < cost)

-- The report shows a valid plan of these steps, and what its answers certify is known.
pub record ShowsRightPlan (task : Task) (right : RightReport) (steps : List Call) (cost : ℕ) : Type 0 where
  pub known : right.facts.known ≡ known_of task right.report.entries
  pub valid : (taken : List GroundAction) × IsValid task (known_of task right.report.entries) taken cost
  pub lines : length (lines_of_report right.report) < 2 ^ 31
  pub few : length steps < 2 ^ 31

-- No plan costs less; or one does, which is told of the line of the cost; or it isn't decided, and more states are
-- reached.
abbrev pub IsCostSaid : ℕ → Task → Report → List Call → ℕ → Verdict → Type 0
IsCostSaid limit task r steps cost Valid = IsLeastCost task (known_of task r.entries) cost
IsCostSaid limit task r steps cost (Invalid line k) = (line ≡ place_of_cost r steps) × (k ≡ kind.Cost) × IsDear task r cost
IsCostSaid limit task r steps cost Limit = MoreThan limit (IsReached task (known_of task r.entries))

-- the same of a report that shows a plan; nothing is wrong with the cost of another one
abbrev pub IsOutcomeSaid : ℕ → Task → Report → Outcome → Verdict → Type 0
IsOutcomeSaid limit task r (outcome.Plan steps cost from) v = IsCostSaid limit task r steps cost v
IsOutcomeSaid limit task r outcome.NoPlan v = v ≡ Valid
IsOutcomeSaid limit task r (outcome.Limit which) v = v ≡ Valid

-- The text is one of a report that is right, with this said of its cost.
pub record HasCost (limit : ℕ) (task : Task) (bytes : List ℕ) (v : Verdict) : Type 0 where
  pub report : Report
  pub formed : IsFormed report
  pub spelled : text_of_report report ≡ bytes
  pub right : IsReportVerdict limit task report Valid
  pub said : IsOutcomeSaid limit task report report.outcome v

-- what may be said of a text: what a replay says, and where that finds nothing wrong, what there is to say of the cost
abbrev pub IsCostVerdict : ℕ → Task → List ℕ → Verdict → Type 0
IsCostVerdict limit task bytes v = (IsVerdict limit task bytes v × ¬ (v ≡ Valid)) ⊎ HasCost limit task bytes v
