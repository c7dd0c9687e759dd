-- What no step leads out of, and what is out of reach.
use Rattle.std.proofs.Common.{◌≡◌, ℕ, inl, inr, List, [], ◌∷◌, length, Bool, true, false, not, ◌&&◌, ◌||◌, refl, sym, subst, ◌∙◌, Some, slice_get, suc, ◌+◌, ◌<◌, ◌≤◌, arith}
use Rattle.std.proofs.Math.Nat.{le-suc_iff}
use Rattle.std.proofs.lemmas.Bool.{and_from, or_cases}
use Rattle.std.specs.Cmp.{Equal-is, second_so}
use Rattle.std.specs.FinMap as finite
use Rattle.std.specs.List.{list_all, list_any}
use Rattle.std.specs.Ordering.{eq_by_cmp}
use Rattle.grounder.proofs.PartsLemmas.{settled_where}
use Rattle.grounder.specs.Candidates.{AreCandidateRows}
use Rattle.formula_eval.proofs.ReadableLemmas.{fluent_at}
use Rattle.grounder.specs.Parts.{fluent_as, fluent_in, list_of, tops_of}
use Rattle.lemmas.proofs.Bools.{not_both}
use Rattle.lemmas.proofs.ListTests.{all_at, any_found, one_there}
use Rattle.lemmas.proofs.Members.{place_of}
use Rattle.task_model.proofs.StateLemmas.{atoms_tied, contains-changed}
use Rattle.task_model.specs.AtomOrder.{atom_cmp}
use Rattle.task_model.specs.Condition.{Condition, Conditions, Atom as atom, Equal, All as every, Any, Not, Exists, none, more}
use Rattle.task_model.specs.Initial.{initial_state}
use Rattle.task_model.specs.Known.{Known, objects_of}
use Rattle.task_model.specs.Plans.{Executes, IsSolvable}
use Rattle.task_model.specs.State.{Atoms, contains, items, with_atoms, without_atoms}
use Rattle.task_model.specs.Roles.{role_of}
use Rattle.task_model.specs.Truth.{all_true, atom_at, slots_of, is_true, objects_at}
use Rattle.task_model.specs.declared.domain.Action.{Action}
use Rattle.task_model.specs.declared.domain.Domain.{Domain}
use Rattle.task_model.specs.declared.domain.Role.{Role}
use Rattle.task_model.specs.declared.domain.Role.TheVariants as role
use Rattle.task_model.specs.declared.fact.Atom.{Atom}
use Rattle.task_model.specs.declared.task.GroundAction.{GroundAction}
use Rattle.task_model.specs.declared.task.Task.{Task}
use Rattle.best_first.proofs.SteadyLemmas.{and_grows, steady_grows}
use Rattle.best_first.specs.Reach.{IsClosed, IsMissed, IsWithin, LeadsWithin, StaysWithin}
use Rattle.best_first.specs.Steady.{has_steady_items, is_steady}

-- ---- parts at the top

module _ (domain : Domain) (known : Known) (state : Atoms) (slots : List ℕ) where
  abbrev truth_of : Condition → Bool
  truth_of part = is_true domain known state part slots

  -- where a condition is true, so is each part at its top
  all_tops : (c : Condition) → truth_of c ≡ true → list_all truth_of (tops_of c) ≡ true
  all_tops (atom pred args) h = and_from (truth_of (atom pred args)) true h refl
  all_tops (Equal s t) h = and_from (truth_of (Equal s t)) true h refl
  all_tops (every parts) h = each parts h
    where
      each : (parts : Conditions)
          → all_true (atom_at domain known state (length domain.derived)) (objects_of known.facts) parts slots ≡ true
          → list_all truth_of (list_of parts) ≡ true
      each none h = h
      each (more part parts) h =
          and_grows (truth_of part)
          (all_true (atom_at domain known state (length domain.derived)) (objects_of known.facts) parts slots)
          (truth_of part) (list_all truth_of (list_of parts)) (λ e. e) (each parts) h
  all_tops (Any parts) h = and_from (truth_of (Any parts)) true h refl
  all_tops (Not part) h = and_from (truth_of (Not part)) true h refl
  all_tops (Exists first sorts body) h = and_from (truth_of (Exists first sorts body)) true h refl

-- a condition is false in each state within the atoms where a steady part at its top is false in them
pub part_missed : (domain : Domain) (marks : List Bool) (known : Known) (atoms : Atoms) (c : Condition) (args : List ℕ)
    (i : ℕ) (part : Condition) → has_steady_items domain marks ≡ true → slice_get (tops_of c) i ≡ Some part
    → is_steady domain marks false part ≡ true → is_true domain known atoms part (slots_of args) ≡ false
    → IsMissed domain known atoms c args
part_missed domain marks known atoms c args i part steady at s untrue state within h =
    let slots = slots_of args in
    let here = all_at (truth_of domain known state slots) (tops_of c) i part (all_tops domain known state slots c h) at in
    not_both (is_true domain known atoms part slots) (steady_grows domain marks known state atoms within steady part slots s here) untrue

-- an atom of a fluent that is true is in the state
fluent_there : (domain : Domain) (known : Known) (state : Atoms) (slots : List ℕ) (part : Condition) (a : Atom)
    → fluent_in domain slots part ≡ Some a → is_true domain known state part slots ≡ true → contains state a ≡ true
fluent_there domain known state slots (atom pred args) a is h = by (role_of domain pred) refl is h
  where
    one : Atom
    one = record { pred = pred; args = objects_at slots args }

    by : (r : Role) → role_of domain pred ≡ r → fluent_as r one ≡ Some a
        → is_true domain known state (atom pred args) slots ≡ true → contains state a ≡ true
    by role.Static e f t = absurd (cc)
    by role.Derived e f t = absurd (cc)
    by role.Fluent e f t =
        let same : one ≡ a = cc in
        subst (λ x. contains state x ≡ true) same
        (sym (fluent_at domain known state pred (objects_at slots args) (length domain.derived) e) ∙ t)
fluent_there domain known state slots (Equal s t) a is h = absurd (cc)
fluent_there domain known state slots (every parts) a is h = absurd (cc)
fluent_there domain known state slots (Any parts) a is h = absurd (cc)
fluent_there domain known state slots (Not part) a is h = absurd (cc)
fluent_there domain known state slots (Exists first sorts body) a is h = absurd (cc)

-- the same where an atom of a fluent at its top isn't among them
pub atom_missed : (domain : Domain) (known : Known) (atoms : Atoms) (c : Condition) (args : List ℕ) (i : ℕ) (part : Condition)
    (a : Atom) → slice_get (tops_of c) i ≡ Some part → fluent_in domain (slots_of args) part ≡ Some a
    → contains atoms a ≡ false → IsMissed domain known atoms c args
atom_missed domain known atoms c args i part a at is missing state within h =
    let slots = slots_of args in
    let here = all_at (truth_of domain known state slots) (tops_of c) i part (all_tops domain known state slots c h) at in
    not_both (contains atoms a) (within a (fluent_there domain known state slots part a is here)) missing

-- ---- steps

-- where all that comes is among the atoms, a state within them stays so
pub changed_within : (atoms before : Atoms) (gone come : List Atom) → IsWithin before atoms
    → list_all (λ a. contains atoms a) come ≡ true → IsWithin (with_atoms (without_atoms before gone) come) atoms
changed_within atoms before gone come within all q there =
    let split : (list_any (eq_by_cmp atom_cmp q) come || (not (list_any (eq_by_cmp atom_cmp q) gone) && contains before q)) ≡ true =
    sym (contains-changed before gone come q) ∙ there in
    elim (or_cases (list_any (eq_by_cmp atom_cmp q) come) (not (list_any (eq_by_cmp atom_cmp q) gone) && contains before q) split) [
      | inl new ↦
          let found = any_found (eq_by_cmp atom_cmp q) come new in
          let same : q ≡ found.1 = atoms_tied q found.1 ((Equal-is (atom_cmp q found.1)).0 found.3) in
          subst (λ a. contains atoms a ≡ true) (sym same) (all_at (λ a. contains atoms a) come found.0 found.1 all found.2)
      | inr old ↦ within q (second_so (not (list_any (eq_by_cmp atom_cmp q) gone)) (contains before q) old)
    ]

-- a state is within the atoms where these have all its own
pub all_within : (state atoms : Atoms) → list_all (λ a. contains atoms a) (items state) ≡ true → IsWithin state atoms
all_within state atoms all q there =
    let found = any_found (eq_by_cmp atom_cmp q) (items state) (sym (finite.contains_key-keys state q) ∙ there) in
    let same : q ≡ found.1 = atoms_tied q found.1 ((Equal-is (atom_cmp q found.1)).0 found.3) in
    subst (λ a. contains atoms a ≡ true) (sym same) (all_at (λ a. contains atoms a) (items state) found.0 found.1 all found.2)

-- the rows are all objects with which a step can be taken
pub rows_lead_within : (task : Task) (known : Known) (atoms : Atoms) (action : Action) (rows : List (List ℕ))
    → AreCandidateRows task.domain known action rows
    → ((n : ℕ) (args : List ℕ) → slice_get rows n ≡ Some args → StaysWithin task known atoms action args)
    → LeadsWithin task known atoms action
rows_lead_within task known atoms action rows are each args typed before cost within costs h =
    let there = (are.each args).1 (typed, settled_where task.domain known before (slots_of args) action.condition h) in
    let at = place_of rows args there in
    each at.0 args at.1 before cost within costs h

pub closed_by : (task : Task) (known : Known) (atoms : Atoms) → IsWithin (initial_state task) atoms
    → ((n : ℕ) (action : Action) → slice_get task.domain.actions n ≡ Some action → LeadsWithin task known atoms action)
    → IsClosed task known atoms
closed_by task known atoms start each = record {
  start = start;
  steps = λ before after step cost within is.
      subst (λ s. IsWithin s atoms) (sym is.leads)
      (each step.action is.action is.named step.args is.typed before cost within is.costs is.condition);
}

-- what holds up to a place and at it holds up to the next
pub next_too : {A : Type 0} (P : A → Type 0) (xs : List A) (i : ℕ) (x : A) → slice_get xs i ≡ Some x → P x
    → ((n : ℕ) (y : A) → n < i → slice_get xs n ≡ Some y → P y)
    → (n : ℕ) (y : A) → n < i + 1 → slice_get xs n ≡ Some y → P y
next_too P xs i x at here before n y below there =
    let within : n + 1 ≤ suc i = omega (arith, below) in
    elim (le-suc_iff.0 within) [
      | inl early ↦ before n y (omega (arith, early)) there
      | inr last ↦
          let same : n ≡ i = omega (arith, last) in
          subst P (one_there xs i x y at (subst (λ k. slice_get xs k ≡ Some y) same there)) here
    ]

-- ---- plans

module _ (task : Task) (known : Known) (atoms : Atoms) (closed : IsClosed task known atoms) where
  reached_within : (steps : List GroundAction) (before after : Atoms) (cost : ℕ) → IsWithin before atoms
      → Executes task known before steps after cost → IsWithin after atoms
  reached_within [] before after cost within x = subst (λ s. IsWithin s atoms) x.0 within
  reached_within (step ∷ steps) before after cost within x =
      reached_within steps x.0 after x.2 (closed.steps before x.0 step x.1 within x.3) x.4

  pub none_solves : IsMissed task.domain known atoms task.problem.goal [] → ¬ (IsSolvable task known)
  none_solves missing solvable =
      let valid = solvable.2 in
      missing valid.0 (reached_within solvable.0 (initial_state task) valid.0 solvable.1 closed.start valid.1) valid.2
