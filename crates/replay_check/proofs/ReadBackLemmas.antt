-- Steps that calls show, found again by their names.
use Rattle.std.proofs.Common.{◌≡◌, ℕ, ◌<◌, List, length, take, sym, ap, ◌∙◌, subst, arith, All, None, Some, slice_get, option_map}
use Rattle.std.proofs.lemmas.List.{length-map, take_all}
use Rattle.std.proofs.lemmas.Option.{get_or_from_slice_get, none-some, slice_get-map, slice_get_within}
use Rattle.lemmas.proofs.ListTests.{get_there}
use Rattle.shown_plan.proofs.ShownLemmas.{valid_named}
use Rattle.shown_steps.proofs.RunsLemmas.{step_found}
use Rattle.shown_steps.specs.Plans.{IsPlan}
use Rattle.shown_steps.specs.Steps.{step_named}
use Rattle.task_model.specs.Fit.{IsFit}
use Rattle.task_model.specs.Known.{IsCoherent, IsIn, Known}
use Rattle.task_model.specs.declared.task.GroundAction.{GroundAction}
use Rattle.task_model.specs.declared.task.Task.{Task}
use Rattle.transcript_model.proofs.NamesLemmas.{map_some}
use Rattle.transcript_model.specs.Calls.{call_of_step}
use Rattle.transcript_model.specs.declared.entry.Call.{Call}

module _ (task : Task) (fit : IsFit task) (known : Known) (coherent : IsCoherent known) (calls : List Call) (cost : ℕ)
    (plan : IsPlan task known calls cost) where
  -- a step of the plan stands for itself
  found : (i : ℕ) (s : GroundAction) → slice_get plan.steps i ≡ Some s
      → step_named task known.names (call_of_step task known.names s) ≡ Some s
  found i s at =
      let named = valid_named task known coherent plan.steps cost plan.valid in
      let lt = slice_get_within plan.steps i s at in
      let here = get_or_from_slice_get plan.steps i s s at in
      let action = get_there task.domain.actions s.action
      (subst (λ (x : GroundAction). x.action < length task.domain.actions) here (named.actions i s lt)) in
      step_found task fit known.names coherent.names s action.0 action.1
      (subst (λ (x : GroundAction). All (IsIn known.names) x.args) here (named.objects i s lt))

  -- the call at a place stands for the step there
  pub read_at : (i : ℕ) (call : Call) → slice_get calls i ≡ Some call
      → (s : GroundAction) × (slice_get plan.steps i ≡ Some s) × (step_named task known.names call ≡ Some s)
  read_at i call at =
      let f : GroundAction → Call = call_of_step task known.names in
      let shown : option_map f (slice_get plan.steps i) ≡ Some call =
      sym (slice_get-map f plan.steps i) ∙ ap (λ cs. slice_get cs i) (sym plan.shown) ∙ at in
      let s = map_some f (slice_get plan.steps i) call shown in
      (s.0, s.1, ap (step_named task known.names) (sym s.2) ∙ found i s.0 s.1)

  -- it stands for a step
  pub stands_for_one : (i : ℕ) (call : Call) → slice_get calls i ≡ Some call
      → ¬ (step_named task known.names call ≡ None)
  stands_for_one i call at none = let s = read_at i call at in none-some s.0 (sym none ∙ s.2)

  -- there are as many steps as calls
  pub all_steps : take (length calls) plan.steps ≡ plan.steps
  all_steps =
      let long : length calls ≡ length plan.steps = rw plan.shown (length-map plan.steps (call_of_step task known.names)) in
      take_all (length calls) plan.steps (omega (arith, long))
