-- Plans whose steps are taken one after another.
use Rattle.std.specs.Prelude.{◌≡◌, ℕ, ◌+◌, ◌^◌, ◌<◌, ◌≤◌, List, [], ◌∷◌, ◌++◌, length, take, Bool, true, false, Option, None, Some}
use Rattle.task_model.specs.Initial.{initial_state}
use Rattle.task_model.specs.Known.{Known}
use Rattle.task_model.specs.Plans.{Executes}
use Rattle.task_model.specs.declared.task.GroundAction.{GroundAction}
use Rattle.task_model.specs.declared.task.Task.{Task}
use Rattle.transcript_model.specs.declared.entry.Call.{Call}
use Rattle.shown_steps.specs.Plans.{CanRun, ShowsSteps}
use Rattle.shown_steps.specs.declared.steps.Ran.{Ran}
use Rattle.shown_steps.specs.declared.steps.Ran.TheVariants.{Stops, Ends}
use Rattle.shown_steps.specs.declared.steps.Run.{Run}

-- the sum, or that it is 2^64 or more
abbrev pub IsSum : ℕ → Option ℕ → Type 0
IsSum total (Some n) = n ≡ total
IsSum total None = 2 ^ 64 ≤ total

-- The steps that these calls show were taken, and lead to the state.
pub record IsRunOf (task : Task) (known : Known) (calls : List Call) (run : Run) : Type 0 where
  pub steps : List GroundAction
  pub shown : ShowsSteps task known calls steps
  pub total : ℕ
  pub runs : Executes task known (initial_state task) steps run.state total
  pub sum : IsSum total run.cost

-- one step more was taken; or it can't be
abbrev pub IsStepTaken : Task → Known → List Call → Call → Run → Bool → Type 0
IsStepTaken task known calls call run true = IsRunOf task known (calls ++ call ∷ []) run
IsStepTaken task known calls call run false = ¬ (CanRun task known (calls ++ call ∷ []))

-- the step here can't be taken, and all before it can
pub record StopsAtStep (task : Task) (known : Known) (calls : List Call) (place : ℕ) : Type 0 where
  pub within : place < length calls
  pub runs : CanRun task known (take place calls)
  pub stuck : ¬ (CanRun task known (take (place + 1) calls))

abbrev pub IsRan : Task → Known → List Call → Ran → Type 0
IsRan task known calls (Stops place) = StopsAtStep task known calls place
IsRan task known calls (Ends run) = IsRunOf task known calls run
