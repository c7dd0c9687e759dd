-- Steps that are taken one after another.
use Rattle.std.proofs.Common.{◌≡◌, ℕ, ◌+◌, suc, List, [], ◌∷◌, ◌++◌, take, refl, sym, ◌∙◌, arith, Some, slice_get}
use Rattle.std.proofs.lemmas.List.{map-append}
use Rattle.lemmas.proofs.Members.{take_next}
use Rattle.shown_steps.proofs.RunsLemmas.{step_shown}
use Rattle.shown_steps.specs.Steps.{step_named}
use Rattle.task_model.proofs.StepsLemmas.{whole_of_parts}
use Rattle.task_model.specs.Fit.{IsFit}
use Rattle.task_model.specs.Initial.{initial_state}
use Rattle.task_model.specs.Known.{IsCoherent, Known}
use Rattle.task_model.specs.Plans.{Executes, IsGoal}
use Rattle.task_model.specs.State.{Atoms}
use Rattle.task_model.specs.Steps.{IsStep}
use Rattle.task_model.specs.declared.task.GroundAction.{GroundAction}
use Rattle.task_model.specs.declared.task.Task.{Task}
use Rattle.transcript_model.specs.Calls.{call_of_step}
use Rattle.transcript_model.specs.declared.entry.Call.{Call}
use Rattle.shown_steps.specs.Plans.{IsPlan}
use Rattle.validate_app.specs.Verdicts.{CallsLeadTo}

module _ (task : Task) (fit : IsFit task) (known : Known) (coherent : IsCoherent known) where
  -- no step was taken
  pub none_lead : (state : Atoms) → state ≡ initial_state task → CallsLeadTo task known [] state 0
  none_lead state is = record { steps = []; shown = refl; runs = (sym is, refl) }

  -- one step more
  pub one_more : (calls : List Call) (place : ℕ) (call : Call) (before after : Atoms) (cost more : ℕ)
      → slice_get calls place ≡ Some call → CallsLeadTo task known (take place calls) before cost
      → (step : GroundAction) × (step_named task known.names call ≡ Some step)
      × IsStep task known before step after more
      → CallsLeadTo task known (take (suc place) calls) after (cost + more)
  one_more calls place call before after cost more at lead (step, is, taken) =
      let one : Executes task known before (step ∷ []) after more =
      (after, more, 0, taken, (refl, refl), omega arith) in
      record {
        steps = lead.steps ++ step ∷ [];
        shown = take_next calls place call at
            ∙ (λ i. lead.shown i ++ step_shown task fit known.names coherent.names call step is i ∷ [])
            ∙ sym (map-append (call_of_step task known.names) lead.steps (step ∷ []));
        runs = whole_of_parts task known (initial_state task) after lead.steps (step ∷ [])
            (cost + more) (before, cost, more, lead.runs, one, refl);
      }

  -- the calls that reach the goal are a plan
  pub is_plan : (calls : List Call) (state : Atoms) (cost : ℕ) → CallsLeadTo task known calls state cost
      → IsGoal task known state → IsPlan task known calls cost
  is_plan calls state cost lead reached =
      record { steps = lead.steps; shown = lead.shown; valid = (state, lead.runs, reached) }
