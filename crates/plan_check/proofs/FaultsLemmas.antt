-- Steps executed one after another.
use Rattle.std.proofs.Common.{◌≡◌, ℕ, suc, ◌+◌, List, [], ◌∷◌, take, refl, sym, subst, arith, Some, slice_get}
use Rattle.lemmas.proofs.Members.{take_next}
use Rattle.task_model.proofs.StepsLemmas.{whole_of_parts}
use Rattle.task_model.specs.Initial.{initial_state}
use Rattle.task_model.specs.Known.{Known}
use Rattle.task_model.specs.Plans.{Executes}
use Rattle.task_model.specs.State.{Atoms}
use Rattle.task_model.specs.Steps.{IsStep}
use Rattle.task_model.specs.declared.task.GroundAction.{GroundAction}
use Rattle.task_model.specs.declared.task.Task.{Task}
use Rattle.plan_check.specs.Faults.{StepFails, StepsRun, PlanFails, fault_at}
use Rattle.plan_check.specs.declared.fault.CheckFault.{CheckFault}
use Rattle.plan_check.specs.declared.fault.CheckFault.TheVariants as check
use Rattle.plan_check.specs.declared.fault.StepFault.{StepFault}
use Rattle.plan_check.specs.declared.fault.StepFault.TheVariants.{NoAction, Args, Condition, NoCost, Memory}

module _ (task : Task) (known : Known) (steps : List GroundAction) where
  pub next_step : (place : ℕ) (step : GroundAction) (state after : Atoms) (cost more : ℕ)
      → slice_get steps place ≡ Some step
      → Executes task known (initial_state task) (take place steps) state cost
      → IsStep task known state step after more
      → Executes task known (initial_state task) (take (suc place) steps) after (cost + more)
  next_step place step state after cost more at front last =
      let one : Executes task known state (step ∷ []) after more = (after, more, 0, last, (refl, refl), omega arith) in
      let whole =
      whole_of_parts task known (initial_state task) after (take place steps) (step ∷ [])
      (cost + more) (state, cost, more, front, one, refl) in
      subst (λ xs. Executes task known (initial_state task) xs after (cost + more)) (sym (take_next steps place step at)) whole

  pub fails_here : (place : ℕ) (step : GroundAction) (state : Atoms) (cost : ℕ) (fault : StepFault)
      → slice_get steps place ≡ Some step
      → Executes task known (initial_state task) (take place steps) state cost
      → StepFails task known state step fault → StepsRun task known steps (fault_at place fault)
  fails_here place step state cost NoAction at front fails = (state, cost, step, front, at, fails)
  fails_here place step state cost Args at front fails = (state, cost, step, front, at, fails)
  fails_here place step state cost Condition at front fails = (state, cost, step, front, at, fails)
  fails_here place step state cost NoCost at front fails = (state, cost, step, front, at, fails)
  fails_here place step state cost Memory at front fails = tt

  pub run_fails : (fault : CheckFault) → StepsRun task known steps fault
      → PlanFails task known steps fault
  run_fails (check.NoAction place) f = f
  run_fails (check.Args place) f = f
  run_fails (check.Condition place) f = f
  run_fails (check.NoCost place) f = f
  run_fails check.Goal f = absurd f
  run_fails check.Memory f = tt
