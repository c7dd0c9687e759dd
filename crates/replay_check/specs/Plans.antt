-- What is said of a plan as a report shows it.
use Rattle.std.specs.Prelude.{◌≡◌, ℕ, ◌^◌, ◌<◌, List, slice_get}
use Rattle.shown_steps.specs.Plans.{CanRun, IsPlan}
use Rattle.shown_steps.specs.Runs.{StopsAtStep}
use Rattle.task_model.specs.declared.task.Task.{Task}
use Rattle.transcript_model.specs.Outcomes.{AreOrigins, IsTruePlan}
use Rattle.transcript_model.specs.Transcript.{known_of}
use Rattle.transcript_model.specs.declared.entry.Call.{Call}
use Rattle.transcript_model.specs.declared.entry.Entry.{Entry}
use Rattle.transcript_model.specs.declared.outcome.Origin.{Origin}
use Rattle.replay_check.specs.declared.plan.Planned.{Planned}
use Rattle.replay_check.specs.declared.plan.Planned.TheVariants.{Right, Stuck, NoGoal, WrongCost, WrongOrigin}

-- the origin here is the first that isn't the one that is due
pub record DiffersAt (version : ℕ) (entries : List Entry) (calls : List Call) (from : List Origin)
    (place : ℕ) : Type 0 where
  pub due : List Origin
  pub origins : AreOrigins version entries calls due
  pub other : ¬ (slice_get from place ≡ slice_get due place)
  pub before : (k : ℕ) → k < place → slice_get from k ≡ slice_get due k

-- what is said of a plan, by the first thing that is wrong with it
abbrev pub IsPlanned : ℕ → Task → List Entry → List Call → ℕ → List Origin → Planned → Type 0
IsPlanned version task entries calls cost from Right =
    IsTruePlan version task entries calls cost from
IsPlanned version task entries calls cost from (Stuck place) =
    StopsAtStep task (known_of task entries) calls place
IsPlanned version task entries calls cost from NoGoal =
    CanRun task (known_of task entries) calls
    × ((other : ℕ) → ¬ (IsPlan task (known_of task entries) calls other))
IsPlanned version task entries calls cost from WrongCost =
    ((other : ℕ) × IsPlan task (known_of task entries) calls other)
    × ¬ (IsPlan task (known_of task entries) calls cost)
IsPlanned version task entries calls cost from (WrongOrigin place) =
    IsPlan task (known_of task entries) calls cost × DiffersAt version entries calls from place

-- the place that is told is less than 2^62
abbrev pub IsNear : Planned → Type 0
IsNear (Stuck place) = place < 2 ^ 62
IsNear (WrongOrigin place) = place < 2 ^ 62
IsNear other = Unit {0}
