-- Plans of the first worked task: none at first, and one once the cup can be gripped.
use Rattle.std.proofs.Common.{◌≡◌, ℕ, zero, suc, true, false, ◌&&◌, List, [], ◌∷◌, refl, sym, ap, subst, ◌∙◌, Some, slice_get}
use Rattle.std.proofs.lemmas.Bool.{false≢true}
use Rattle.std.proofs.lemmas.Option.{same_Some}
use Rattle.lemmas.proofs.Options.{none_at}
use Rattle.task_model.proofs.StateLemmas.{contains-changed, contains-from_list}
use Rattle.task_model.specs.Initial.{initial_state}
use Rattle.task_model.specs.Known.{Known, atom_fact, is_fact}
use Rattle.task_model.specs.Plans.{Executes, IsGoal, IsSolvable, IsValid}
use Rattle.task_model.specs.Roles.{role_of}
use Rattle.task_model.specs.State.{Atoms, contains}
use Rattle.task_model.specs.Steps.{IsStep, effect_of}
use Rattle.task_model.specs.Truth.{is_true, objects_at, slots_of}
use Rattle.task_model.specs.declared.domain.Action.{Action}
use Rattle.task_model.specs.declared.fact.Atom.{Atom}
use Rattle.task_model.specs.declared.task.GroundAction.{GroundAction}
use Rattle.transcript_model.specs.Transcript.{known_of}
use Rattle.witness_laws.specs.Fetch.{both, drop_it, fetch, fetch_domain, take_it}
use Rattle.witness_laws.specs.Level.{cup_entries}
use Rattle.witness_laws.proofs.StateLemmas.{both_true}

abbrev is_held : Atom
is_held = record { pred = 1; args = 0 ∷ 1 ∷ [] }

abbrev is_free : Atom
is_free = record { pred = 3; args = [] }

abbrev is_done : Atom
is_done = record { pred = 4; args = 0 ∷ [] }

abbrev start : Atoms
start = initial_state fetch

-- what is known at first, and after the answer
abbrev first_known : Known
first_known = known_of fetch []

abbrev last_known : Known
last_known = known_of fetch cup_entries

-- ---- at first only the hand is free

held_at_start : (x g : ℕ) → contains start (record { pred = 1; args = x ∷ g ∷ [] }) ≡ false
unfolding role_of
held_at_start x g = contains-from_list (is_free ∷ []) (record { pred = 1; args = x ∷ g ∷ [] })

done_at_start : contains start is_done ≡ false
unfolding role_of
done_at_start = contains-from_list (is_free ∷ []) is_done

free_at_start : contains start is_free ≡ true
unfolding role_of
free_at_start = contains-from_list (is_free ∷ []) is_free

-- ---- no step can be taken at first

abbrev IsStuck : Action → Type 0
IsStuck a =
    (args : List ℕ) → is_true fetch_domain first_known start a.condition (slots_of args) ≡ true → ⊥

take_stuck : IsStuck take_it
unfolding role_of
take_stuck args condition =
    let gripped = is_fact first_known.facts (atom_fact 2 (objects_at (slots_of args) both)) in
    let rest = (both_true (contains start is_free) (gripped && true) condition).1 in
    false≢true (both_true gripped true rest).0

drop_stuck : IsStuck drop_it
unfolding role_of
drop_stuck args condition = false≢true (sym (held_at_start _ _) ∙ condition)

each_stuck : (n : ℕ) (a : Action) → slice_get (take_it ∷ drop_it ∷ []) n ≡ Some a → IsStuck a
each_stuck zero a e = subst IsStuck (same_Some take_it a e) take_stuck
each_stuck (suc zero) a e = subst IsStuck (same_Some drop_it a e) drop_stuck
each_stuck (suc (suc n)) a e = absurd (none_at n a e)

no_step : (step : GroundAction) (after : Atoms) (cost : ℕ) → IsStep fetch first_known start step after cost → ⊥
no_step step after cost is = each_stuck step.action is.action is.named step.args is.condition

goal_is_done : (s : Atoms) → IsGoal fetch first_known s → contains s is_done ≡ true
unfolding role_of
goal_is_done s goal = goal

none_solves : (steps : List GroundAction) (cost : ℕ) (end : Atoms) → Executes fetch first_known start steps end cost
    → IsGoal fetch first_known end → ⊥
none_solves [] cost end run goal =
    false≢true (sym done_at_start ∙ ap (λ s. contains s is_done) run.0 ∙ goal_is_done end goal)
none_solves (step ∷ steps) cost end run goal = no_step step run.0 run.1 run.3

pub no_plan_yet : ¬ (IsSolvable fetch (known_of fetch []))
no_plan_yet solved = none_solves solved.0 solved.1 solved.2.0 solved.2.1 solved.2.2

-- ---- then two steps reach the goal

abbrev pub plan_step : ℕ → GroundAction
plan_step action = record { action = action; args = 0 ∷ 1 ∷ [] }

abbrev taken : Atoms
taken = effect_of take_it (0 ∷ 1 ∷ []) start

abbrev dropped : Atoms
dropped = effect_of drop_it (0 ∷ 1 ∷ []) taken

held_when_taken : contains taken is_held ≡ true
held_when_taken = contains-changed start (is_free ∷ []) (is_held ∷ []) is_held

done_when_dropped : contains dropped is_done ≡ true
done_when_dropped = contains-changed taken (is_held ∷ []) (is_done ∷ is_free ∷ []) is_done

take_cup : IsStep fetch last_known start (plan_step 0) taken 1
unfolding role_of
take_cup = record {
  action = take_it;
  named = refl;
  typed = refl;
  condition = ap (λ b. b && true) free_at_start;
  costs = refl;
  leads = refl;
}

drop_cup : IsStep fetch last_known taken (plan_step 1) dropped 1
unfolding role_of
drop_cup = record {
  action = drop_it;
  named = refl;
  typed = refl;
  condition = held_when_taken;
  costs = refl;
  leads = refl;
}

reaches_goal : IsGoal fetch last_known dropped
unfolding role_of
reaches_goal = done_when_dropped

pub cup_valid : IsValid fetch (known_of fetch cup_entries) (plan_step 0 ∷ plan_step 1 ∷ []) 2
cup_valid = (dropped, (taken, 1, 1, take_cup, (dropped, 1, 0, drop_cup, (refl, refl), refl), refl), reaches_goal)
