-- The bound by the number of goal atoms that are missing is consistent.
use Rattle.std.proofs.Common.{◌≡◌, ℕ, zero, suc, ◌+◌, ◌*◌, ◌≤◌, Bool, true, false, List, [], ◌∷◌, map, length, refl, sym, ap, subst, ◌∙◌, arith, if◌then◌else◌, Option, None, Some, slice_get}
use Rattle.std.proofs.lemmas.List.{length-map}
use Rattle.std.proofs.lemmas.Option.{same_Some}
use Rattle.task_model.specs.Known.{Known}
use Rattle.task_model.specs.State.{Atoms, contains, items}
use Rattle.task_model.specs.Steps.{IsStep, atom_of, sum_of, term_cost, terms_cost}
use Rattle.task_model.specs.Truth.{slots_of}
use Rattle.task_model.specs.declared.domain.Action.{Action}
use Rattle.task_model.specs.declared.domain.CostTerm.{CostTerm}
use Rattle.task_model.specs.declared.domain.CostTerm.TheVariants.{Number, Value}
use Rattle.task_model.specs.declared.task.GroundAction.{GroundAction}
use Rattle.task_model.specs.declared.task.Task.{Task}
use Rattle.optimal_search.specs.BoundsLemmas.{lacking_falls, quotient_falls}
use Rattle.optimal_search.specs.GoalLemmas.{came, distinct_items, goal_missing}
use Rattle.optimal_search.specs.Bounds.{cut, least_cost, least_own, missing, own_cost, own_number, up, widest}
use Rattle.optimal_search.specs.Consistent.{IsConsistent}
use Rattle.optimal_search.specs.Fewest.{IsFewestOf, fewest}
use Rattle.optimal_search.specs.declared.fewest.Fewest.{Fewest}

-- ---- what an action adds, and what it costs

widest_at : (actions : List Action) (i : ℕ) (a : Action) → slice_get actions i ≡ Some a → length a.adds ≤ widest actions
widest_at [] i a at = absurd (cc)
widest_at (b ∷ bs) zero a at = omega (arith, ap (λ (x : Action). length x.adds) (same_Some b a at))
widest_at (b ∷ bs) (suc i) a at = omega (arith, widest_at bs i a at)

least_at : (actions : List Action) (i : ℕ) (a : Action) → slice_get actions i ≡ Some a
    → least_own actions ≤ own_cost a.costs
least_at [] i a at = absurd (cc)
least_at (b ∷ bs) zero a at = omega (arith, ap (λ (x : Action). own_cost x.costs) (same_Some b a at))
least_at (b ∷ bs) (suc i) a at = omega (arith, least_at bs i a at)

pub least_low : (actions : List Action) → least_own actions ≤ 262144000000
least_low [] = omega arith
least_low (a ∷ more) = omega (arith, least_low more)

sum_parts : (x y : Option ℕ) (n : ℕ) → sum_of x y ≡ Some n
    → (a : ℕ) × (b : ℕ) × (x ≡ Some a) × (y ≡ Some b) × (a + b ≡ n)
sum_parts (Some a) (Some b) n e = (a, b, refl, refl, same_Some (a + b) n e)
sum_parts None y n e = absurd (cc)
sum_parts (Some a) None n e = absurd (cc)

own_number_low : (known : Known) (slots : List ℕ) (term : CostTerm) (n : ℕ) → term_cost known slots term ≡ Some n
    → own_number term ≤ n
own_number_low known slots (Number m) n e = omega (arith, same_Some m n e)
own_number_low known slots (Value func args) n e = omega arith

pub own_cost_low : (known : Known) (slots : List ℕ) (terms : List CostTerm) (n : ℕ) → terms_cost known slots terms
    ≡ Some n
    → own_cost terms ≤ n
own_cost_low known slots [] n e = omega arith
own_cost_low known slots (term ∷ terms) n e =
    let p = sum_parts (term_cost known slots term) (terms_cost known slots terms) n e in
    omega (arith, own_number_low known slots term p.0 p.2, own_cost_low known slots terms p.1 p.3, p.4)

-- no step costs less
least_paid : (task : Task) (known : Known) (before after : Atoms) (step : GroundAction) (cost : ℕ)
    → IsStep task known before step after cost → least_cost task ≤ cost
least_paid task known before after step cost is = by task.problem.metric is.costs
  where
    by : (b : Bool)
        → (if b then terms_cost known (slots_of step.args) is.action.costs else Some 1) ≡ Some cost
        → (if b then least_own task.domain.actions else 1) ≤ cost
    by true e =
        omega (
          arith,
          least_at task.domain.actions step.action is.action is.named,
          own_cost_low known (slots_of step.args) is.action.costs cost e,
        )
    by false e = omega (arith, same_Some 1 cost e)

-- ---- the bound

-- of the atoms that are missing a step adds at most `widest`
missing_falls : (task : Task) (known : Known) (goals before after : Atoms) (step : GroundAction) (cost : ℕ)
    → IsStep task known before step after cost
    → missing goals before ≤ missing goals after + widest task.domain.actions
missing_falls task known goals before after step cost is =
    let atom = atom_of (slots_of step.args) in
    let come = map atom is.action.adds in
    let gone = map atom is.action.deletes in
    let few = lacking_falls (items goals) come (contains before) (contains after) (distinct_items goals) (λ a c was now.
    came before gone come a was (subst (λ s. contains s a ≡ true) is.leads now)) in
    omega (arith, few, length-map is.action.adds atom, widest_at task.domain.actions step.action is.action is.named)

up_zero : (n : ℕ) → up 0 n ≡ 0
up_zero zero = refl
up_zero (suc n) = omega arith

pub fewest_consistent : (estimate : Fewest) (task : Task) (known : Known) → IsFewestOf task estimate
    → IsConsistent task known (fewest estimate)
fewest_consistent estimate task known is = record {
  falls = λ before after step cost e.
      let few = subst
      (λ w. missing estimate.goals before ≤ missing estimate.goals after + w) (sym is.width)
      (missing_falls task known estimate.goals before after step cost e) in
      let cheap = subst (λ c. c ≤ cost) (sym is.least) (least_paid task known before after step cost e) in
      let falls = quotient_falls estimate.least estimate.width cost (missing estimate.goals before) (missing estimate.goals after) few cheap in
      omega (arith, falls);
  goal = λ state goal.
      let none : missing estimate.goals state ≡ 0 =
      subst (λ g. missing g state ≡ 0) (sym is.goals) (goal_missing task known state goal) in
      let nothing : estimate.least * 0 ≡ 0 = omega arith in
      ap (λ m. cut (up (estimate.least * m) estimate.width)) none ∙ ap (λ m. cut (up m estimate.width)) nothing
      ∙ ap cut (up_zero estimate.width);
}
