-- What the steps of an action pay for.
use Rattle.std.proofs.Common.{◌≡◌, ℕ, ◌+◌, ◌*◌, ◌≤◌, inl, inr, List, map, length, Bool, ◌==◌, true, false, sym, ap, subst, ◌∙◌, arith, Some, slice_get, Contains, if◌then◌else◌}
use Rattle.std.proofs.lemmas.Bool.{cases_lt, eq-eqb}
use Rattle.std.proofs.lemmas.List.{length-map}
use Rattle.std.proofs.lemmas.Nat.{mul-le}
use Rattle.std.proofs.lemmas.Option.{same_Some}
use Rattle.grounder.proofs.PartsLemmas.{settled_where}
use Rattle.grounder.specs.Candidates.{AreCandidateRows}
use Rattle.lemmas.proofs.Distinct.{from_mapped}
use Rattle.lemmas.proofs.Members.{place_of}
use Rattle.lemmas.specs.Lists.{AreDistinct}
use Rattle.task_model.specs.Known.{Known}
use Rattle.task_model.specs.State.{Atoms, contains}
use Rattle.task_model.specs.Steps.{atom_of, cost_of, terms_cost}
use Rattle.task_model.specs.Truth.{have_types, is_true, slots_of}
use Rattle.task_model.specs.declared.domain.Action.{Action}
use Rattle.task_model.specs.declared.domain.Pattern.{Pattern}
use Rattle.task_model.specs.declared.fact.Atom.{Atom}
use Rattle.task_model.specs.declared.task.Task.{Task}
use Rattle.optimal_search.specs.FewestLemmas.{own_cost_low}
use Rattle.optimal_search.specs.GoalLemmas.{any_there, there_listed}
use Rattle.optimal_search.specs.Bounds.{own_cost}
use Rattle.optimal_search.specs.Share.{AreFair, AreLower, goals_of, is_named, lowered, met}
use Rattle.optimal_search.specs.ShareLemmas.{fair_lower, fair_mapped, few_met}
use Rattle.optimal_search.specs.Shares.{IsSharedStep, PayShares, PaysShares, adds_of, own_least}
use Rattle.optimal_search.specs.declared.share.Share.{Share}
use Rattle.optimal_search.specs.declared.shares.TheConstants.{UNIT}

module _ (task : Task) (known : Known) (action : Action) where
  pub pays_lower : (old new : List Share) → AreLower old new → PaysShares task known action old
      → PaysShares task known action new
  pays_lower old new lower pays before after step cost is same =
      fair_lower (contains (adds_of action step.args)) (cost * UNIT) old new lower (pays before after step cost is same)

  -- where its arguments are all listed, and each pays
  pub rows_pay : (rows : List (List ℕ)) (ss : List Share) → AreCandidateRows task.domain known action rows
      → ((n : ℕ) (args : List ℕ) → slice_get rows n ≡ Some args → IsSharedStep task known action args ss)
      → PaysShares task known action ss
  rows_pay rows ss are each before after step cost is same =
      let typed = subst (λ (a : Action). have_types known step.args a.params ≡ true) same is.typed in
      let holds = subst (λ (a : Action). is_true task.domain known before a.condition (slots_of step.args) ≡ true)
      same is.condition in
      let settled = settled_where task.domain known before (slots_of step.args) action.condition holds in
      let at = place_of rows step.args ((are.each step.args).1 (typed, settled)) in
      each at.0 step.args at.1 cost (subst (λ (a : Action). cost_of task known a step.args ≡ Some cost) same is.costs)

  -- no step of the action costs less
  least_paid : (args : List ℕ) (cost : ℕ) → cost_of task known action args ≡ Some cost → own_least task action ≤ cost
  least_paid args cost costs = by task.problem.metric costs
    where
      by : (b : Bool) → (if b then terms_cost known (slots_of args) action.costs else Some 1) ≡ Some cost
          → (if b then own_cost action.costs else 1) ≤ cost
      by true e = own_cost_low known (slots_of args) action.costs cost e
      by false e = omega (arith, same_Some 1 cost e)

  named_add : (args : List ℕ) (g : Atom) → Contains (map (atom_of (slots_of args)) action.adds) g
      → is_named action.adds g ≡ true
  named_add args g c =
      let at = from_mapped (atom_of (slots_of args)) action.adds g c in
      let place = place_of action.adds at.0 at.1 in
      let same : at.0.pred ≡ g.pred = sym (ap (λ (a : Atom). a.pred) at.2) in
      any_there (λ (p : Pattern). p.pred == g.pred) action.adds place.0 at.0 place.1
      (eq-eqb at.0.pred g.pred same)

  -- where they aren't listed, and what each costs at least is divided by the number of adds
  pub unlisted_pays : (ss : List Share) (most width : ℕ) → AreDistinct (goals_of ss) → length action.adds ≤ width
      → most * width ≤ own_least task action * UNIT
      → PaysShares task known action (map (lowered (is_named action.adds) most) ss)
  unlisted_pays ss most width distinct few paid before after step cost is same =
      let comes = contains (adds_of action step.args) in
      let come = map (atom_of (slots_of step.args)) action.adds in
      let costs = subst (λ (a : Action). cost_of task known a step.args ≡ Some cost) same is.costs in
      let there : (g : Atom) → comes g ≡ true → Contains come g = λ g e. there_listed come g e in
      let fits = few_met ss come comes distinct (λ g c e. there g e) in
      let width_met = mul-le most (met ss comes) most width (omega arith)
      (omega (arith, fits, few, length-map action.adds (atom_of (slots_of step.args)))) in
      let dear = mul-le (own_least task action) UNIT cost UNIT (least_paid step.args cost costs) (omega arith) in
      fair_mapped (is_named action.adds) comes most (cost * UNIT) ss (λ g c e. named_add step.args g (there g e))
      (omega (arith, width_met, paid, dear))

  module _ (args : List ℕ) (come : Atoms) (old new : List Share) (count cost : ℕ) (same : come ≡ adds_of action args)
      (counted : count ≡ met old (contains come)) where
    -- where some of the goal's atoms come, and the cost is divided by how many
    pub shared_some : (most : ℕ) → new ≡ map (lowered (contains come) most) old → most * count ≤ cost * UNIT
        → AreFair new (contains (adds_of action args)) (cost * UNIT)
    shared_some most is paid =
        subst (λ (ss : List Share). AreFair ss (contains (adds_of action args)) (cost * UNIT)) (sym is)
        (subst (λ (cs : Atoms). AreFair (map (lowered (contains come) most) old) (contains cs) (cost * UNIT)) same
        (fair_mapped (contains come) (contains come) most (cost * UNIT) old (λ g c e. e)
        (subst (λ n. most * n ≤ cost * UNIT) counted paid)))

    -- where none comes
    pub shared_none : new ≡ old → count ≤ 0 → AreFair new (contains (adds_of action args)) (cost * UNIT)
    shared_none is few =
        let none : met old (contains come) ≡ 0 = omega (arith, few, counted) in
        let gone : met new (contains (adds_of action args)) ≡ 0 =
        ap (λ (ss : List Share). met ss (contains (adds_of action args))) is
        ∙ sym (ap (λ (cs : Atoms). met old (contains cs)) same) ∙ none in
        λ s there e. subst (λ m. s.part * m ≤ cost * UNIT) (sym gone) (omega arith)

-- one action more
pub pays_next : (task : Task) (known : Known) (number : ℕ) (action : Action) (old new : List Share)
    → slice_get task.domain.actions number ≡ Some action → AreLower old new → PayShares task known number old
    → PaysShares task known action new → PayShares task known (number + 1) new
pays_next task known number action old new named lower before pays n other below at =
    elim (cases_lt n number) [
      | inl earlier ↦ pays_lower task known other old new lower (before n other earlier at)
      | inr from ↦
          let last : number ≡ n = omega (arith, below, from) in
          let same = same_Some action other (sym named ∙ ap (slice_get task.domain.actions) last ∙ at) in
          subst (λ (a : Action). PaysShares task known a new) same pays
    ]
