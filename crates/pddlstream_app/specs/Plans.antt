-- What is said of the plan of a right report: what of it must stay in order, and what comes of it on a grid.
use Rattle.std.specs.Prelude.{◌≡◌, ◌⊎◌, ℕ, ◌<◌, ◌≤◌, List, length, codes}
use Rattle.grid_play.specs.Faults.{IsActedOut}
use Rattle.grid_play.specs.Texts.{play_text}
use Rattle.grid_play.specs.declared.play.Play.{Play}
use Rattle.grid_play.specs.declared.play.PlayVerdict.{PlayVerdict}
use Rattle.grid_play.specs.declared.play.PlayVerdict.TheVariants.{Safe}
use Rattle.grid_text.specs.Grids.{GridFile}
use Rattle.order_text.specs.Texts.{order_text}
use Rattle.plan_deorder.specs.Orders.{IsOrder}
use Rattle.plan_deorder.specs.declared.order.Order.{Order}
use Rattle.plan_deorder.specs.declared.order.TheConstants.{MOST_STEPS}
use Rattle.report_text.specs.Forms.{IsFormed}
use Rattle.report_text.specs.Texts.{text_of_report}
use Rattle.replay_check.specs.Verdicts.{IsVerdict}
use Rattle.replay_check.specs.declared.verdict.Verdict.{Verdict}
use Rattle.replay_check.specs.declared.verdict.Verdict.TheVariants as verdict
use Rattle.shown_steps.specs.Plans.{ShowsSteps}
use Rattle.task_model.specs.Known.{Known}
use Rattle.task_model.specs.declared.task.GroundAction.{GroundAction}
use Rattle.task_model.specs.declared.task.Task.{Task}
use Rattle.transcript_model.specs.Transcript.{known_of}
use Rattle.transcript_model.specs.declared.entry.Call.{Call}
use Rattle.transcript_model.specs.declared.outcome.Outcome.{Outcome}
use Rattle.transcript_model.specs.declared.outcome.Outcome.TheVariants as outcome
use Rattle.transcript_model.specs.declared.report.Report.{Report}
use Rattle.pddlstream_app.specs.Replays.{kind_of_verdict, verdict_text}
use Rattle.command_files.specs.declared.status.Status.{Status}
use Rattle.command_files.specs.declared.status.Status.TheVariants.{Done, Invalid, Limit}

-- ---- right reports

-- where the bytes are a right report this is said of it, and else what a replay says of them
abbrev pub SaysBy : (Report → Status → List ℕ → Type 0) → List ℕ → Verdict → Status → List ℕ → Type 0
SaysBy Says bytes verdict.Valid status text =
    (r : Report) × IsFormed r × (text_of_report r ≡ bytes) × Says r status text
SaysBy Says bytes v status text = (kind_of_verdict v ≡ status) × (text ≡ verdict_text v)

abbrev pub SaysOfReport : ℕ → Task → List ℕ → (Report → Status → List ℕ → Type 0) → Status → List ℕ → Type 0
SaysOfReport states task bytes Says status text =
    (v : Verdict) × IsVerdict states task bytes v × SaysBy Says bytes v status text

-- ---- what must stay in order

-- The steps are more than those whose order is told.
pub record IsOrderTooLong (steps : List GroundAction) (status : Status) (text : List ℕ) : Type 0 where
  pub long : MOST_STEPS < length steps
  pub kind : status ≡ Limit
  pub is : text ≡ codes "order too-long\n"

-- The order of the steps is told, which these calls show.
pub record IsOrderTold (task : Task) (calls : List Call) (steps : List GroundAction) (status : Status) (text : List ℕ)
    : Type 0 where
  pub short : length steps ≤ MOST_STEPS
  pub order : Order
  pub right : IsOrder task steps order.pairs order.stages
  pub kind : status ≡ Done
  pub is : text ≡ order_text calls order

-- The calls show these steps over what is known, and what is said is their order, or that they are too many.
pub record SaysOrderOf (task : Task) (known : Known) (calls : List Call) (status : Status) (text : List ℕ) : Type 0 where
  pub steps : List GroundAction
  pub shown : ShowsSteps task known calls steps
  pub said : IsOrderTooLong steps status text ⊎ IsOrderTold task calls steps status text

abbrev pub SaysOrderBy : Task → Known → Outcome → Status → List ℕ → Type 0
SaysOrderBy task known (outcome.Plan calls cost from) status text = SaysOrderOf task known calls status text
SaysOrderBy task known o status text = (status ≡ Done) × (text ≡ codes "order none\n")

-- the order of the report's plan, or that it has none
abbrev pub SaysOrder : Task → Report → Status → List ℕ → Type 0
SaysOrder task r = SaysOrderBy task (known_of task r.entries) r.outcome

-- ---- what comes of it on a grid

abbrev pub play_status : PlayVerdict → Status
play_status Safe = Done
play_status v = Invalid

-- What is said is what comes of the calls on the grid.
pub record SaysPlayOf (grid : GridFile) (calls : List Call) (status : Status) (text : List ℕ) : Type 0 where
  pub play : Play
  pub played : IsActedOut grid calls play
  pub kind : status ≡ play_status play.verdict
  pub is : text ≡ play_text play

abbrev pub SaysPlayBy : GridFile → Outcome → Status → List ℕ → Type 0
SaysPlayBy grid (outcome.Plan calls cost from) status text = SaysPlayOf grid calls status text
SaysPlayBy grid o status text = (status ≡ Done) × (text ≡ codes "play none\n")

-- what comes of the report's plan on the grid, or that it has none
abbrev pub SaysPlay : GridFile → Report → Status → List ℕ → Type 0
SaysPlay grid r = SaysPlayBy grid r.outcome
