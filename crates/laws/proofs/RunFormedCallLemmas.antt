-- The calls of streams and actions have the stated form, where all names of objects have theirs.
use Rattle.std.proofs.Common.{◌≡◌, ℕ, zero, suc, ◌<◌, List, [], ◌∷◌, length, map, All, refl, ap, ◌∙◌, Option, Some, None, slice_get, IsSome, unwrap_or, arith}
use Rattle.std.proofs.lemmas.List.Elements.{All-contains, All-map, All-weaker}
use Rattle.std.proofs.lemmas.Option.{slice_get-map}
use Rattle.std.specs.Option.{option_map}
use Rattle.lemmas.proofs.ListTests.{all_at, all_by_place}
use Rattle.lemmas.proofs.Members.{member_at}
use Rattle.report_text.specs.Forms.{IsFormedCall, IsName, IsTerm}
use Rattle.laws.proofs.RunStreamNameLemmas.{name_there}
use Rattle.shown_plan.specs.Shown.{AreNamedSteps}
use Rattle.task_model.specs.Fit.{IsFit, is_name}
use Rattle.task_model.specs.Known.{IsIn}
use Rattle.task_model.specs.Streams.{name_at}
use Rattle.task_model.specs.declared.domain.Action.{Action}
use Rattle.task_model.specs.declared.stream.Instance.{Instance}
use Rattle.task_model.specs.declared.task.GroundAction.{GroundAction}
use Rattle.task_model.specs.declared.task.Task.{Task}
use Rattle.transcript_model.specs.Calls.{action_name, call_of_step}
use Rattle.transcript_model.specs.Names.{call_of_instance}

module _ (task : Task) (fit : IsFit task) (names : List (List ℕ)) (terms : All IsTerm names) where
  name_formed : (object : ℕ) → IsIn names object → IsTerm (name_at names object)
  name_formed object within = by (slice_get names object) refl within
    where
      by : (o : Option (List ℕ)) → slice_get names object ≡ o → IsSome o → IsTerm (unwrap_or o [])
      by (Some name) at here = All-contains IsTerm names name terms (member_at names object name at)
      by None at here = absurd (cc)

  args_formed : (objects : List ℕ) → All (IsIn names) objects → All IsTerm (map (name_at names) objects)
  args_formed objects all =
      All-map IsTerm (name_at names) objects
      (All-weaker (IsIn names) (λ o. IsTerm (name_at names o)) (λ o within. name_formed o within) objects all)

  action_formed : (k : ℕ) → k < length task.domain.actions → IsName (action_name task k)
  action_formed k below = by (slice_get task.domain.actions k) refl
    where
      by : (o : Option Action) → slice_get task.domain.actions k ≡ o → IsName (action_name task k)
      by None none = absurd (missing task.domain.actions k below none)
        where
          missing : (xs : List Action) (j : ℕ) → j < length xs → slice_get xs j ≡ None → ⊥
          missing [] j lt e = omega (arith, lt)
          missing (x ∷ xs) zero lt e = absurd (cc)
          missing (x ∷ xs) (suc j) lt e = missing xs j (omega (arith, lt)) e
      by (Some a) at =
          let named : action_name task k ≡ a.name = rw at refl in
          let there = slice_get-map (λ (x : Action). x.name) task.domain.actions k
          ∙ ap (option_map (λ (x : Action). x.name)) at in
          ap is_name named ∙ all_at is_name
          (map (λ (x : Action). x.name) task.domain.actions) k a.name fit.domain.action_names.each there

  -- the steps of a plan
  pub steps_formed : (steps : List GroundAction) → AreNamedSteps task names steps
      → All (IsFormedCall IsTerm) (map (call_of_step task names) steps)
  steps_formed steps named =
      All-map (IsFormedCall IsTerm) (call_of_step task names) steps (all_by_place _ steps one)
    where
      one : (k : ℕ) (s : GroundAction) → slice_get steps k ≡ Some s → IsFormedCall IsTerm (call_of_step task names s)
      one k s at =
          let there = member_at steps k s at in
          record {
            name = action_formed s.action
                (All-contains (λ (x : GroundAction). x.action < length task.domain.actions) steps s named.actions
                there);
            args = args_formed s.args
                (All-contains (λ (x : GroundAction). All (IsIn names) x.args) steps s named.objects there);
          }

  -- an instance of a stream
  pub instance_formed : (i : Instance) → i.stream < length task.streams → All (IsIn names) i.inputs
      → IsFormedCall IsTerm (call_of_instance task names i)
  instance_formed i below inputs =
      record { name = name_there task fit i.stream below; args = args_formed i.inputs inputs }
