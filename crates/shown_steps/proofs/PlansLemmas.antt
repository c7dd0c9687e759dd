-- Plans by their shown steps.
use Rattle.std.proofs.Common.{◌≡◌, ℕ, zero, suc, ◌+◌, ◌<◌, ◌^◌, List, [], ◌∷◌, map, take, drop, Bool, false, ◌↔◌, refl, sym, ap, subst, ◌∙◌, arith, Option, Some, None}
use Rattle.std.proofs.lemmas.List.{take-append-drop}
use Rattle.std.specs.Prelude.{IsTrue}
use Rattle.task_model.proofs.StepsLemmas.{execution_determined, parts_of_whole}
use Rattle.task_model.specs.Fit.{IsFit}
use Rattle.task_model.specs.Initial.{initial_state}
use Rattle.task_model.specs.Known.{Known, IsCoherent}
use Rattle.task_model.specs.Plans.{Executes, IsGoal}
use Rattle.task_model.specs.declared.task.GroundAction.{GroundAction}
use Rattle.task_model.specs.declared.task.Task.{Task}
use Rattle.transcript_model.specs.Calls.{call_of_step}
use Rattle.transcript_model.specs.declared.entry.Call.{Call}
use Rattle.shown_steps.proofs.RunsLemmas.{same_steps}
use Rattle.shown_steps.specs.Plans.{CanRun, IsPlan}
use Rattle.shown_steps.specs.Runs.{IsRunOf, IsSum, StopsAtStep}
use Rattle.shown_steps.specs.declared.steps.Run.{Run}

-- ---- fronts

module _ (task : Task) (known : Known) where
  shown_front : (k : ℕ) (steps : List GroundAction)
      → take k (map (call_of_step task known.names) steps) ≡ map (call_of_step task known.names) (take k steps)
  shown_front zero steps = refl
  shown_front (suc k) [] = refl
  shown_front (suc k) (s ∷ steps) =
      ap (λ cs. call_of_step task known.names s ∷ cs) (shown_front k steps)

  -- a front of calls that can be taken can be taken
  pub front_can : (calls : List Call) (k : ℕ) → CanRun task known calls
      → CanRun task known (take k calls)
  front_can calls k can =
      let whole =
      subst (λ steps. Executes task known (initial_state task) steps can.state can.cost)
      (sym (take-append-drop k can.steps)) can.runs in
      let parts =
      parts_of_whole task known (initial_state task) can.state (take k can.steps) (drop k can.steps) can.cost whole in
      record {
        steps = take k can.steps;
        shown = ap (take k) can.shown ∙ shown_front k can.steps;
        state = parts.0;
        cost = parts.1;
        runs = parts.3;
      }

  -- a plan can be taken
  pub plan_can : (calls : List Call) (cost : ℕ) → IsPlan task known calls cost
      → CanRun task known calls
  plan_can calls cost plan = record { steps = plan.steps; shown = plan.shown; state = plan.valid.0; cost = cost; runs = plan.valid.1 }

  -- calls of which one is stuck are no plan
  pub stuck_no_plan : (calls : List Call) (place : ℕ) → StopsAtStep task known calls place
      → (IsTrue false ↔ ((cost : ℕ) × IsPlan task known calls cost))
  stuck_no_plan calls place stops = (
    λ yes. absurd (cc),
    λ plan. absurd (stops.stuck (front_can calls (place + 1) (plan_can calls plan.0 plan.1))),
  )

-- ---- goals and costs

module _ (task : Task) (fit : IsFit task) (known : Known) (coherent : IsCoherent known) (calls : List Call) (run : Run)
    (r : IsRunOf task known calls run) where
  -- a plan that the calls show ends where the run does, and costs as much
  same_end : (cost : ℕ) (plan : IsPlan task known calls cost)
      → (plan.valid.0 ≡ run.state) × (cost ≡ r.total)
  same_end cost plan =
      let same = same_steps task fit known coherent
      (initial_state task) plan.valid.0 run.state plan.steps r.steps cost r.total plan.valid.1 r.runs (sym plan.shown ∙ r.shown) in
      let ran = subst (λ steps. Executes task known (initial_state task) steps plan.valid.0 cost) same plan.valid.1 in
      execution_determined task known (initial_state task) r.steps plan.valid.0 run.state cost r.total ran r.runs

  -- the calls were taken
  pub run_can : CanRun task known calls
  run_can = record { steps = r.steps; shown = r.shown; state = run.state; cost = r.total; runs = r.runs }

  -- a plan reaches the goal
  pub goal_reached : (cost : ℕ) → IsPlan task known calls cost → IsGoal task known run.state
  goal_reached cost plan = subst (IsGoal task known) (same_end cost plan).0 plan.valid.2

  -- the steps that reach the goal are a plan
  pub plan_at_end : IsGoal task known run.state → IsPlan task known calls r.total
  plan_at_end reached = record { steps = r.steps; shown = r.shown; valid = (run.state, r.runs, reached) }

  -- the calls are a plan where the goal is reached
  pub plan_is_run : (reaches : Bool) → (IsTrue reaches ↔ IsGoal task known run.state)
      → (IsTrue reaches ↔ ((cost : ℕ) × IsPlan task known calls cost))
  plan_is_run reaches are = (
    λ yes. (r.total, plan_at_end (are.0 yes)),
    λ plan. are.1 (goal_reached plan.0 plan.1),
  )

  summed : (sum : Option ℕ) (cost : ℕ) → cost < 2 ^ 64 → cost ≡ r.total → IsSum r.total sum
      → sum ≡ Some cost
  summed None cost few is large = absurd (omega (arith, few, is, large))
  summed (Some n) cost few is same = ap Some (same ∙ sym is)

  -- where they cost another sum, they are no plan of this one
  pub costs_other : (cost : ℕ) → cost < 2 ^ 64 → ¬ (run.cost ≡ Some cost) → ¬ (IsPlan task known calls cost)
  costs_other cost few other plan = other (summed run.cost cost few (same_end cost plan).1 r.sum)

  -- they reach the goal, and cost so much
  pub plan_run : (cost : ℕ) → IsGoal task known run.state → run.cost ≡ Some cost
      → IsPlan task known calls cost
  plan_run cost reached is =
      let total : r.total ≡ cost = sym (subst (IsSum r.total) is r.sum) in
      record {
        steps = r.steps;
        shown = r.shown;
        valid = (run.state, subst (Executes task known (initial_state task) r.steps run.state) total r.runs, reached);
      }
