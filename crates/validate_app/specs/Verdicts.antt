-- What is said of a plan by its steps as they are named.
use Rattle.std.specs.Prelude.{◌≡◌, ℕ, ◌+◌, List, [], take, Some, slice_get}
use Rattle.shown_steps.specs.Plans.{IsPlan, ShowsSteps}
use Rattle.task_model.specs.Initial.{initial_state}
use Rattle.task_model.specs.Known.{Known}
use Rattle.task_model.specs.Plans.{Executes, IsGoal}
use Rattle.task_model.specs.State.{Atoms}
use Rattle.task_model.specs.declared.task.GroundAction.{GroundAction}
use Rattle.task_model.specs.declared.task.Task.{Task}
use Rattle.transcript_model.specs.declared.entry.Call.{Call}
use Rattle.validate_app.specs.Parts.{false_text}
use Rattle.validate_app.specs.Steps.{first_flaw}
use Rattle.validate_app.specs.declared.verdict.StepFlaw.{StepFlaw}
use Rattle.validate_app.specs.declared.verdict.Verdict.{Verdict}
use Rattle.validate_app.specs.declared.verdict.Verdict.TheVariants.{Valid, Step, Goal}

module _ (task : Task) (known : Known) where
  -- The calls show steps that can be taken one after another from the initial state, and lead to this one.
  pub record CallsLeadTo (calls : List Call) (state : Atoms) (cost : ℕ) : Type 0 where
    pub steps : List GroundAction
    pub shown : ShowsSteps task known calls steps
    pub runs : Executes task known (initial_state task) steps state cost

  -- The calls before the one of this number, from 1, lead to a state in which it shows a step that can't be taken, for
  -- this reason.
  pub record FailsAtCall (calls : List Call) (number : ℕ) (why : StepFlaw) : Type 0 where
    pub place : ℕ
    pub numbered : number ≡ place + 1
    pub state : Atoms
    pub cost : ℕ
    pub before : CallsLeadTo (take place calls) state cost
    pub call : Call
    pub there : slice_get calls place ≡ Some call
    pub fails : first_flaw task known state call ≡ Some why

  -- the calls lead to a state in which the goal is false, and this is the part that makes it so
  pub record MissesGoal (calls : List Call) (part : List ℕ) : Type 0 where
    pub state : Atoms
    pub cost : ℕ
    pub runs : CallsLeadTo calls state cost
    pub missed : ¬ (IsGoal task known state)
    pub told : part ≡ false_text task known state task.problem.goal []

  -- What is said of the plan that calls show: it is valid at this cost; or a step is the first that can't be taken; or
  -- all can be, and the goal is false behind them.
  abbrev pub IsPlanVerdict : List Call → Verdict → Type 0
  IsPlanVerdict calls (Valid cost) = IsPlan task known calls cost
  IsPlanVerdict calls (Step number why) = FailsAtCall calls number why
  IsPlanVerdict calls (Goal part) = MissesGoal calls part
