-- Why the step that a call shows can't be taken.
use Rattle.std.proofs.Common.{◌≡◌, ℕ, List, length, refl, sym, ap, ◌∙◌, subst, cond, Option, Some, None, Result, Ok, Err, slice_get, option_map, option_and_then, eq-eqb, IfOk}
use Rattle.std.specs.declared.alloc.AllocError.{AllocError}
use Rattle.std.proofs.lemmas.Bool.{ne_eqb}
use Rattle.std.proofs.lemmas.Option.{same_Some, none-some}
use Rattle.lemmas.proofs.Options.{and_then_some}
use Rattle.plan_check.specs.Faults.{StepFails}
use Rattle.plan_check.specs.declared.fault.StepFault.{StepFault}
use Rattle.plan_check.specs.declared.fault.StepFault.TheVariants.{NoAction, Args, Condition, NoCost, Memory}
use Rattle.shown_steps.specs.Steps.{action_named, step_named}
use Rattle.task_model.specs.Known.{Known}
use Rattle.task_model.specs.State.{Atoms}
use Rattle.task_model.specs.declared.domain.Action.{Action}
use Rattle.task_model.specs.declared.task.GroundAction.{GroundAction}
use Rattle.task_model.specs.declared.task.Task.{Task}
use Rattle.transcript_model.proofs.NamesLemmas.{map_some}
use Rattle.transcript_model.specs.Names.{places_of}
use Rattle.transcript_model.specs.declared.entry.Call.{Call}
use Rattle.validate_app.specs.Parts.{false_text}
use Rattle.validate_app.specs.Steps.{IsStepFlawed, IsSmallStep, IsTakenStep, action_called, cost_flaw, first_flaw, flaw_of, flaw_over, flaw_with}
use Rattle.validate_app.specs.declared.step.Taken.{Taken}
use Rattle.validate_app.specs.declared.step.Taken.TheVariants.{Costs, Fails}
use Rattle.validate_app.specs.declared.verdict.StepFlaw.TheVariants as flaw

map_none : {A B : Type 0} (f : A → B) (o : Option A) → option_map f o ≡ None → o ≡ None
map_none f None e = refl
map_none f (Some x) e = absurd (cc)

module _ (task : Task) (names : List (List ℕ)) (call : Call) where
  -- the step that a call names has the call's action and its objects
  pub record IsNamed (step : GroundAction) : Type 0 where
    pub action : action_called task call.name ≡ slice_get task.domain.actions step.action
    pub places : places_of names call.args ≡ Some step.args

  pub named_step : (step : GroundAction) → step_named task names call ≡ Some step → IsNamed step
  named_step step is =
      let action =
      and_then_some (λ a. option_map (λ (args : List ℕ). record { action = a; args = args })
      (places_of names call.args))
      (action_named task call.name) step is in
      let args = map_some (λ (args : List ℕ). record { action = action.0; args = args })
      (places_of names call.args) step action.2 in
      record {
        action = ap (option_and_then (slice_get task.domain.actions)) action.1
            ∙ ap (λ (s : GroundAction). slice_get task.domain.actions s.action) args.2;
        places = args.1 ∙ ap (λ (s : GroundAction). Some s.args) args.2;
      }

  -- a call of an action that names no step has an argument that is the name of no object
  pub no_places : (a : Action) → action_called task call.name ≡ Some a → step_named task names call ≡ None
      → places_of names call.args ≡ None
  no_places a named none =
      let k = and_then_some (slice_get task.domain.actions) (action_named task call.name) a named in
      map_none (λ (args : List ℕ). record { action = k.0; args = args }) (places_of names call.args)
      (sym (ap (option_and_then
      (λ action. option_map (λ (args : List ℕ). record { action = action; args = args })
      (places_of names call.args))) k.1) ∙ none)

module _ (task : Task) (known : Known) (state : Atoms) (call : Call) where
  pub no_action : action_called task call.name ≡ None → first_flaw task known state call ≡ Some flaw.Action
  no_action none = ap (λ o. flaw_of task known state o call.args) none

  module _ (a : Action) (named : action_called task call.name ≡ Some a) where
    pub other_count : ¬ (length call.args ≡ length a.params)
        → first_flaw task known state call ≡ Some flaw.Args
    other_count other =
        ap (λ o. flaw_of task known state o call.args) named
        ∙ ap (λ b. cond b (flaw_over task known state a (places_of known.names call.args)) (Some flaw.Args))
        (ne_eqb _ _ other)

    module _ (count : length call.args ≡ length a.params) where
      over : first_flaw task known state call ≡ flaw_over task known state a (places_of known.names call.args)
      over =
          ap (λ o. flaw_of task known state o call.args) named
          ∙ ap (λ b. cond b (flaw_over task known state a (places_of known.names call.args)) (Some flaw.Args))
          (eq-eqb _ _ count)

      pub no_object : step_named task known.names call ≡ None → first_flaw task known state call ≡ Some flaw.Object
      no_object none =
          over ∙ ap (flaw_over task known state a) (no_places task known.names call a named none)

      module _ (step : GroundAction) (is : step_named task known.names call ≡ Some step) where
        -- what is wrong with the step that the call names
        with_step : (b : Action) → slice_get task.domain.actions step.action ≡ Some b
            → first_flaw task known state call ≡ flaw_with task known state b step.args
        with_step b at =
            let s = named_step task known.names call step is in
            let same : a ≡ b = same_Some a b (sym named ∙ s.action ∙ at) in
            over ∙ ap (flaw_over task known state a) s.places ∙ ap (λ c. flaw_with task known state c step.args) same

        pub types_fail : StepFails task known state step Args → first_flaw task known state call ≡ Some flaw.Sort
        types_fail (b, at, wrong) = with_step b at ∙ rw wrong refl

        pub condition_fails : StepFails task known state step Condition → (b : Action)
            → slice_get task.domain.actions step.action ≡ Some b
            → first_flaw task known state call
            ≡ Some (flaw.Condition (false_text task known state b.condition step.args))
        condition_fails (other, there, typed, wrong) b at =
            let same : other ≡ b = same_Some other b (sym there ∙ at) in
            with_step other there ∙ rw (typed, wrong)
            (ap (λ (o : Action). Some (flaw.Condition (false_text task known state o.condition step.args))) same)

        pub cost_fails : StepFails task known state step NoCost → first_flaw task known state call ≡ Some flaw.Cost
        cost_fails (b, at, typed, holds, wrong) = with_step b at ∙ rw (typed, holds) (ap cost_flaw wrong)

        pub action_there : StepFails task known state step NoAction → ⊥
        action_there none =
            none-some a (sym none ∙ sym (named_step task known.names call step is).action ∙ named)

-- ---- what comes of a step

-- it has the fault in the state that is left too
pub fails_still : (task : Task) (known : Known) (before after : Atoms) (step : GroundAction) (fault : StepFault)
    → (¬ (fault ≡ Memory) → after ≡ before)
    → StepFails task known before step fault → StepFails task known after step fault
fails_still task known before after step Memory same fails = tt
fails_still task known before after step NoAction same fails =
    subst (λ s. StepFails task known s step NoAction) (sym (same (λ e. absurd (cc)))) fails
fails_still task known before after step Args same fails =
    subst (λ s. StepFails task known s step Args) (sym (same (λ e. absurd (cc)))) fails
fails_still task known before after step Condition same fails =
    subst (λ s. StepFails task known s step Condition) (sym (same (λ e. absurd (cc)))) fails
fails_still task known before after step NoCost same fails =
    subst (λ s. StepFails task known s step NoCost) (sym (same (λ e. absurd (cc)))) fails

module _ (task : Task) (known : Known) (before after : Atoms) (fault : StepFault)
    (same : ¬ (fault ≡ Memory) → after ≡ before) where
  -- so it can't be taken, and the state is as before
  pub flawed_taken : (call : Call) (r : Result Taken AllocError) → IfOk r (IsStepFlawed task known after call)
      → IfOk r (λ _. ¬ (fault ≡ Memory))
      → IfOk r (IsTakenStep task known before call after)
  flawed_taken call (Ok (Costs cost)) flawed real = absurd flawed
  flawed_taken call (Ok (Fails why)) flawed real =
      (subst (λ s. first_flaw task known s call ≡ Some why) (same real) flawed, same real)
  flawed_taken call (Err e) flawed real = tt

pub flawed_small : (task : Task) (known : Known) (state : Atoms) (call : Call) (r : Result Taken AllocError)
    → IfOk r (IsStepFlawed task known state call) → IfOk r IsSmallStep
flawed_small task known state call (Ok (Costs cost)) flawed = absurd flawed
flawed_small task known state call (Ok (Fails why)) flawed = tt
flawed_small task known state call (Err e) flawed = tt
