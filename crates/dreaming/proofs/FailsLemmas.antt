-- A plan that fails isn't valid.
use Rattle.std.proofs.Common.{◌≡◌, ℕ, suc, List, [], ◌∷◌, take, drop, refl, sym, ap, subst, ◌∙◌}
use Rattle.lemmas.proofs.Bools.{not_both}
use Rattle.plan_check.specs.Faults.{FailsAt, PlanFails}
use Rattle.plan_check.specs.declared.fault.CheckFault.{CheckFault}
use Rattle.plan_check.specs.declared.fault.CheckFault.TheVariants as check
use Rattle.plan_check.specs.declared.fault.StepFault.{StepFault}
use Rattle.plan_check.specs.declared.fault.StepFault.TheVariants.{NoAction, Args, Condition, NoCost, Memory}
use Rattle.shown_steps.proofs.RunsLemmas.{step_fails_not}
use Rattle.task_model.proofs.StepsLemmas.{parts_of_whole, execution_determined}
use Rattle.task_model.specs.Initial.{initial_state}
use Rattle.task_model.specs.Known.{Known}
use Rattle.task_model.specs.Plans.{Executes, IsValid}
use Rattle.task_model.specs.State.{Atoms}
use Rattle.task_model.specs.Steps.{IsStep}
use Rattle.task_model.specs.Truth.{slots_of, is_true}
use Rattle.task_model.specs.declared.task.GroundAction.{GroundAction}
use Rattle.task_model.specs.declared.task.Task.{Task}
use Rattle.transcript_model.proofs.LegalOnceLemmas.{cut_at}

module _ (task : Task) (known : Known) (steps : List GroundAction) where
  stuck : (place : ℕ) (fault : StepFault) → ¬ (fault ≡ Memory) → FailsAt task known steps place fault
      → (end : Atoms) (total : ℕ) → Executes task known (initial_state task) steps end total → ⊥
  stuck place fault other (state, cost, step, front, at, fails) end total runs =
      let parts = parts_of_whole task known (initial_state task) end (take place steps) (step ∷ drop (suc place) steps) total
      (subst (λ xs. Executes task known (initial_state task) xs end total) (cut_at steps place step at) runs) in
      let same = (execution_determined task known (initial_state task) (take place steps) parts.0 state parts.1 cost parts.3 front).0 in
      let next = parts.4 in
      step_fails_not task known state next.0 step next.1 fault other
      (subst (λ s. IsStep task known s step next.0 next.1) same next.3) fails

  pub plan_fails_not : (fault : CheckFault) → ¬ (fault ≡ check.Memory) → PlanFails task known steps fault → (cost : ℕ)
      → ¬ (IsValid task known steps cost)
  plan_fails_not (check.NoAction place) other f cost (end, runs, goal) = stuck place NoAction (λ e. absurd (cc)) f end cost runs
  plan_fails_not (check.Args place) other f cost (end, runs, goal) = stuck place Args (λ e. absurd (cc)) f end cost runs
  plan_fails_not (check.Condition place) other f cost (end, runs, goal) = stuck place Condition (λ e. absurd (cc)) f end cost runs
  plan_fails_not (check.NoCost place) other f cost (end, runs, goal) = stuck place NoCost (λ e. absurd (cc)) f end cost runs
  plan_fails_not check.Goal other (state, paid, ran, wrong) cost (end, runs, goal) =
      let same = (execution_determined task known (initial_state task) steps end state cost paid runs ran).0 in
      not_both _ (sym (ap (λ s. is_true task.domain known s task.problem.goal (slots_of [])) same) ∙ goal) wrong
  plan_fails_not check.Memory other f cost valid = other refl
