-- The states that are reached in the first worked task: few, where only the cup can be gripped, and that from one side.
use Rattle.std.proofs.Common.{◌≡◌, ℕ, zero, suc, ◌≤◌, Bool, true, false, ◌&&◌, ◌||◌, not, List, [], ◌∷◌, map, length, refl, sym, ap, subst, ◌∙◌, arith, Some, slice_get, Contains, ◌⊎◌, inl, inr}
use Rattle.std.proofs.lemmas.Bool.{false≢true}
use Rattle.std.proofs.lemmas.Option.{same_Some}
use Rattle.std.specs.Cmp.{Equal-is}
use Rattle.std.specs.List.{list_any}
use Rattle.std.specs.Ordering.{eq_by_cmp}
use Rattle.lemmas.proofs.ListTests.{any_found}
use Rattle.lemmas.proofs.Members.{member_at, place_of}
use Rattle.lemmas.proofs.Options.{none_at}
use Rattle.lemmas.proofs.Pigeonhole.{pigeons}
use Rattle.lemmas.specs.Lists.{AreDistinct}
use Rattle.task_model.proofs.StateLemmas.{atoms_tied, contains-changed, contains-from_list, same_atoms}
use Rattle.task_model.specs.AtomOrder.{atom_cmp}
use Rattle.task_model.specs.Initial.{initial_state}
use Rattle.task_model.specs.Known.{Known, atom_fact, is_fact}
use Rattle.task_model.specs.Plans.{Executes, IsReached, MoreThan}
use Rattle.task_model.specs.Roles.{role_of}
use Rattle.task_model.specs.State.{Atoms, contains, with_atoms, without_atoms}
use Rattle.task_model.specs.Steps.{IsStep, effect_of}
use Rattle.task_model.specs.Truth.{has_type, have_types, is_true, slots_of}
use Rattle.task_model.specs.declared.domain.Action.{Action}
use Rattle.task_model.specs.declared.fact.Atom.{Atom}
use Rattle.task_model.specs.declared.task.GroundAction.{GroundAction}
use Rattle.witness_laws.specs.Fetch.{drop_it, fetch, fetch_domain, take_it}

-- ---- tests

pub both_true : (a b : Bool) → (a && b) ≡ true → (a ≡ true) × (b ≡ true)
both_true true b e = (refl, e)
both_true false b e = absurd (cc)

one_true : (a b : Bool) → (a || b) ≡ true → (a ≡ true) ⊎ (b ≡ true)
one_true true b e = inl refl
one_true false b e = inr e

same_tests : (a b : Bool) → (a ≡ true → b ≡ true) → (b ≡ true → a ≡ true) → a ≡ b
same_tests true b to from = sym (to refl)
same_tests false true to from = from refl
same_tests false false to from = refl

-- ---- the atoms of which states are made

abbrev held_by : ℕ → ℕ → Atom
held_by x g = record { pred = 1; args = x ∷ g ∷ [] }

abbrev cup_held : Atom
cup_held = held_by 0 1

abbrev hand_free : Atom
hand_free = record { pred = 3; args = [] }

abbrev cup_done : Atom
cup_done = record { pred = 4; args = 0 ∷ [] }

abbrev few : List Atom
few = cup_held ∷ hand_free ∷ cup_done ∷ []

abbrev is_few : Atom → Bool
is_few q = list_any (eq_by_cmp atom_cmp q) few

abbrev OnlyFew : Atoms → Type 0
OnlyFew s = (q : Atom) → contains s q ≡ true → is_few q ≡ true

-- it is one of them
few_at : (q : Atom) → is_few q ≡ true → (k : ℕ) × (slice_get few k ≡ Some q)
few_at q e =
    let found = any_found (eq_by_cmp atom_cmp q) few e in
    let same : q ≡ found.1 = atoms_tied q found.1 ((Equal-is (atom_cmp q found.1)).0 found.3) in
    (found.0, subst (λ k. slice_get few found.0 ≡ Some k) (sym same) found.2)

-- of atoms that are held only this
only_held : (x g k : ℕ) → slice_get few k ≡ Some (held_by x g)
    → x ∷ g ∷ [] ≡ 0 ∷ 1 ∷ []
only_held x g zero e = ap (λ (a : Atom). a.args) (sym (same_Some cup_held (held_by x g) e))
only_held x g (suc zero) e =
    let p : 3 ≡ 1 = ap (λ (a : Atom). a.pred) (same_Some hand_free (held_by x g) e) in absurd (omega (arith, p))
only_held x g (suc (suc zero)) e =
    let p : 4 ≡ 1 = ap (λ (a : Atom). a.pred) (same_Some cup_done (held_by x g) e) in absurd (omega (arith, p))
only_held x g (suc (suc (suc k))) e = absurd (none_at k (held_by x g) e)

same_pair : (x g : ℕ) → x ≡ 0 → g ≡ 1 → x ∷ g ∷ [] ≡ 0 ∷ 1 ∷ []
same_pair x g e f = ap (λ n. n ∷ g ∷ []) e ∙ ap (λ n. 0 ∷ n ∷ []) f

kept_few : (s : Atoms) (outs ins : List Atom) → OnlyFew s
    → ((q : Atom) → list_any (eq_by_cmp atom_cmp q) ins ≡ true → is_few q ≡ true)
    → OnlyFew (with_atoms (without_atoms s outs) ins)
kept_few s outs ins only put q there =
    let added = list_any (eq_by_cmp atom_cmp q) ins in
    let deleted = list_any (eq_by_cmp atom_cmp q) outs in
    elim (one_true added (not deleted && contains s q) (sym (contains-changed s outs ins q) ∙ there)) [
      | inl new ↦ put q new
      | inr old ↦ only q (both_true (not deleted) (contains s q) old).1
    ]

first_few : (a b c : Bool) → (a || false) ≡ true → (a || (b || (c || false))) ≡ true
first_few true b c e = refl
first_few false b c e = absurd (cc)

last_few : (a b c : Bool) → (c || (b || false)) ≡ true → (a || (b || (c || false))) ≡ true
last_few true b c e = refl
last_few false true c e = refl
last_few false false true e = refl
last_few false false false e = e

middle_few : (a b c : Bool) → (b || false) ≡ true → (a || (b || (c || false))) ≡ true
middle_few true b c e = refl
middle_few false true c e = refl
middle_few false false c e = absurd (cc)

-- ---- steps

abbrev pub OnlyCup : Known → Type 0
OnlyCup known = (x g : ℕ) → is_fact known.facts (atom_fact 2 (x ∷ g ∷ [])) ≡ true → (x ≡ 0) × (g ≡ 1)

module _ (known : Known) (only : OnlyCup known) where
  pair_of : (args : List ℕ) → have_types known args (0 ∷ 0 ∷ []) ≡ true
      → (x : ℕ) × (g : ℕ) × (args ≡ x ∷ g ∷ [])
  pair_of [] e = absurd (false≢true e)
  pair_of (x ∷ []) e = absurd (false≢true (both_true (has_type known x 0) false e).1)
  pair_of (x ∷ g ∷ []) e = (x, g, refl)
  pair_of (x ∷ g ∷ y ∷ ys) e =
      let more = (both_true (has_type known x 0) (has_type known g 0 && false) e).1 in
      absurd (false≢true (both_true (has_type known g 0) false more).1)

  take_pair : (x g : ℕ) (s : Atoms)
      → is_true fetch_domain known s take_it.condition (slots_of (x ∷ g ∷ [])) ≡ true → OnlyFew s
      → OnlyFew (effect_of take_it (x ∷ g ∷ []) s)
  unfolding role_of
  take_pair x g s condition inside =
      let gripped = is_fact known.facts (atom_fact 2 (x ∷ g ∷ [])) in
      let rest = (both_true (contains s hand_free) (gripped && true) condition).1 in
      let cup = only x g (both_true gripped true rest).0 in
      subst (λ args. OnlyFew (effect_of take_it args s)) (sym (same_pair x g cup.0 cup.1))
      (kept_few s (hand_free ∷ []) (cup_held ∷ []) inside (λ q e.
      first_few (eq_by_cmp atom_cmp q cup_held) (eq_by_cmp atom_cmp q hand_free) (eq_by_cmp atom_cmp q cup_done) e))

  drop_pair : (x g : ℕ) (s : Atoms)
      → is_true fetch_domain known s drop_it.condition (slots_of (x ∷ g ∷ [])) ≡ true → OnlyFew s
      → OnlyFew (effect_of drop_it (x ∷ g ∷ []) s)
  unfolding role_of
  drop_pair x g s condition inside =
      let at = few_at (held_by x g) (inside (held_by x g) condition) in
      subst (λ args. OnlyFew (effect_of drop_it args s)) (sym (only_held x g at.0 at.1))
      (kept_few s (cup_held ∷ []) (cup_done ∷ hand_free ∷ []) inside (λ q e.
      last_few (eq_by_cmp atom_cmp q cup_held) (eq_by_cmp atom_cmp q hand_free) (eq_by_cmp atom_cmp q cup_done) e))

  abbrev StepsWithin : Action → Type 0
  StepsWithin a =
      (args : List ℕ) (s : Atoms) → have_types known args a.params ≡ true
      → is_true fetch_domain known s a.condition (slots_of args) ≡ true → OnlyFew s → OnlyFew (effect_of a args s)

  take_step : StepsWithin take_it
  take_step args s typed =
      let pair = pair_of args typed in
      subst (λ xs. is_true fetch_domain known s take_it.condition (slots_of xs) ≡ true → OnlyFew s → OnlyFew (effect_of take_it xs s))
      (sym pair.2) (take_pair pair.0 pair.1 s)

  drop_step : StepsWithin drop_it
  drop_step args s typed =
      let pair = pair_of args typed in
      subst (λ xs. is_true fetch_domain known s drop_it.condition (slots_of xs) ≡ true → OnlyFew s → OnlyFew (effect_of drop_it xs s))
      (sym pair.2) (drop_pair pair.0 pair.1 s)

  each_action : (n : ℕ) (a : Action) → slice_get (take_it ∷ drop_it ∷ []) n ≡ Some a → StepsWithin a
  each_action zero a e = subst StepsWithin (same_Some take_it a e) take_step
  each_action (suc zero) a e = subst StepsWithin (same_Some drop_it a e) drop_step
  each_action (suc (suc n)) a e = absurd (none_at n a e)

  step_few : (s t : Atoms) (step : GroundAction) (cost : ℕ) → IsStep fetch known s step t cost → OnlyFew s → OnlyFew t
  step_few s t step cost is inside =
      subst OnlyFew (sym is.leads) (each_action step.action is.action is.named step.args s is.typed is.condition inside)

  run_few : (steps : List GroundAction) (s t : Atoms) (cost : ℕ) → Executes fetch known s steps t cost → OnlyFew s
      → OnlyFew t
  run_few [] s t cost run inside = subst OnlyFew run.0 inside
  run_few (step ∷ steps) s t cost run inside =
      run_few steps run.0 t run.2 run.4 (step_few s run.0 step run.1 run.3 inside)

  starts_few : OnlyFew (initial_state fetch)
  unfolding role_of
  starts_few q there =
      middle_few (eq_by_cmp atom_cmp q cup_held) (eq_by_cmp atom_cmp q hand_free) (eq_by_cmp atom_cmp q cup_done)
      (sym (contains-from_list (hand_free ∷ []) q) ∙ there)

  reached_few : (s : Atoms) → IsReached fetch known s → OnlyFew s
  reached_few s reached = run_few reached.0 (initial_state fetch) s reached.1 reached.2 starts_few

-- ---- counting

abbrev code : Atoms → List Bool
code s = contains s cup_held ∷ contains s hand_free ∷ contains s cup_done ∷ []

abbrev codes : List (List Bool)
codes = (true ∷ true ∷ true ∷ []) ∷ (true ∷ true ∷ false ∷ []) ∷ (true ∷ false ∷ true ∷ []) ∷ (true ∷ false ∷ false ∷ [])
    ∷ (false ∷ true ∷ true ∷ []) ∷ (false ∷ true ∷ false ∷ []) ∷ (false ∷ false ∷ true ∷ [])
    ∷ (false ∷ false ∷ false ∷ []) ∷ []

listed : (a b c : Bool) → Contains codes (a ∷ b ∷ c ∷ [])
listed true true true = member_at codes 0 _ refl
listed true true false = member_at codes 1 _ refl
listed true false true = member_at codes 2 _ refl
listed true false false = member_at codes 3 _ refl
listed false true true = member_at codes 4 _ refl
listed false true false = member_at codes 5 _ refl
listed false false true = member_at codes 6 _ refl
listed false false false = member_at codes 7 _ refl

coded_at : (s t : Atoms) → code s ≡ code t → (k : ℕ) (q : Atom) → slice_get few k ≡ Some q → contains s q ≡ contains t q
coded_at s t e zero q at =
    subst (λ w. contains s w ≡ contains t w) (same_Some cup_held q at)
    (same_Some (contains s cup_held) (contains t cup_held) (ap (λ c. slice_get c 0) e))
coded_at s t e (suc zero) q at =
    subst (λ w. contains s w ≡ contains t w) (same_Some hand_free q at)
    (same_Some (contains s hand_free) (contains t hand_free) (ap (λ c. slice_get c 1) e))
coded_at s t e (suc (suc zero)) q at =
    subst (λ w. contains s w ≡ contains t w) (same_Some cup_done q at)
    (same_Some (contains s cup_done) (contains t cup_done) (ap (λ c. slice_get c 2) e))
coded_at s t e (suc (suc (suc k))) q at = absurd (none_at k q at)

carried : (s t : Atoms) → OnlyFew s → code s ≡ code t → (q : Atom) → contains s q ≡ true → contains t q ≡ true
carried s t inside e q there =
    let at = few_at q (inside q there) in sym (coded_at s t e at.0 q at.1) ∙ there

one_code : (s t : Atoms) → OnlyFew s → OnlyFew t → code s ≡ code t → s ≡ t
one_code s t first second e =
    same_atoms s t (λ q. same_tests (contains s q) (contains t q) (carried s t first e q) (carried t s second (sym e) q))

from_map : {A B : Type 0} (f : A → B) (xs : List A) (k : ℕ) (y : B) → slice_get (map f xs) k ≡ Some y
    → (x : A) × (slice_get xs k ≡ Some x) × (f x ≡ y)
from_map f [] k y e = absurd (none_at k y e)
from_map f (x ∷ xs) zero y e = (x, refl, same_Some (f x) y e)
from_map f (x ∷ xs) (suc k) y e = from_map f xs k y e

codes_differ : (xs : List Atoms) → AreDistinct xs → ((s : Atoms) → Contains xs s → OnlyFew s) → AreDistinct (map code xs)
codes_differ xs distinct inside i j c at_i at_j =
    let a = from_map code xs i c at_i in
    let b = from_map code xs j c at_j in
    let same : a.0 ≡ b.0 =
    one_code a.0 b.0 (inside a.0 (member_at xs i a.0 a.1)) (inside b.0 (member_at xs j b.0 b.1)) (a.2 ∙ sym b.2) in
    distinct i j b.0 (subst (λ s. slice_get xs i ≡ Some s) same a.1) b.1

length_mapped : {A B : Type 0} (f : A → B) (xs : List A) → length (map f xs) ≡ length xs
length_mapped f [] = refl
length_mapped f (x ∷ xs) = ap suc (length_mapped f xs)

coded : (xs : List Atoms) (c : List Bool) → Contains (map code xs) c → Contains codes c
coded xs c m =
    let at = place_of (map code xs) c m in
    let s = from_map code xs at.0 c at.1 in
    subst (Contains codes) s.2 (listed (contains s.0 cup_held) (contains s.0 hand_free) (contains s.0 cup_done))

pub few_states : (known : Known) → OnlyCup known → ¬ (MoreThan 8 (IsReached fetch known))
few_states known only many =
    let states = many.0 in
    let inside : (s : Atoms) → Contains states s → OnlyFew s =
    λ s m. reached_few known only s (subst (IsReached fetch known) m.2 (many.3 m.0 s m.1)) in
    let bound : length (map code states) ≤ 8 = pigeons (map code states) codes (codes_differ states many.2 inside) (coded states) in
    omega (arith, many.1, bound, length_mapped code states)
