-- What the steps of the grid's domain ask for, and what they do.
use Rattle.std.proofs.Common.{◌≡◌, ◌≢◌, ℕ, zero, suc, ◌⊎◌, inl, inr, Bool, true, false, not, ◌&&◌, ◌||◌, ◌==◌, List, [], ◌∷◌, refl, sym, subst, ap, ◌∙◌, Some, slice_get, ne_eqb}
use Rattle.std.proofs.lemmas.Bool.{and_from, not_from_false, or_from}
use Rattle.std.specs.Cmp.{first_so, second_so}
use Rattle.std.specs.List.{list_any}
use Rattle.std.specs.Ordering.{eq_by_cmp}
use Rattle.lemmas.proofs.Bools.{from_or_false, left_false, not_both, right_false}
use Rattle.lemmas.proofs.ListTests.{any_found}
use Rattle.play_laws.proofs.FirstLemmas.{made}
use Rattle.play_laws.proofs.FoundLemmas.{any_mapped, atom_is, atom_itself}
use Rattle.play_laws.specs.GridTasks.{grid_domain, pick, put}
use Rattle.task_model.proofs.KnownLemmas.{fact_decided, object_itself}
use Rattle.task_model.proofs.StateLemmas.{contains-changed}
use Rattle.task_model.specs.AtomOrder.{atom_cmp}
use Rattle.task_model.specs.Known.{Known, atom_fact, is_fact, object_with, objects_of, same_fact, type_fact}
use Rattle.task_model.specs.Roles.{role_of}
use Rattle.task_model.specs.State.{Atoms, contains}
use Rattle.task_model.specs.Steps.{IsStep, effect_of}
use Rattle.task_model.specs.Truth.{atom_as, atom_at, has_type, have_types, is_true, slots_of}
use Rattle.task_model.specs.declared.domain.Action.{Action}
use Rattle.task_model.specs.declared.domain.Role.{Role}
use Rattle.task_model.specs.declared.domain.Role.TheVariants.{Static, Fluent, Derived}
use Rattle.task_model.specs.declared.fact.Atom.{Atom}
use Rattle.task_model.specs.declared.task.GroundAction.{GroundAction}
use Rattle.task_model.specs.declared.task.Problem.{Problem}

-- ---- atoms

abbrev pub at_atom : ℕ → ℕ → Atom
at_atom b p = record { pred = 6; args = b ∷ p ∷ [] }

abbrev pub free_atom : Atom
free_atom = record { pred = 7; args = [] }

abbrev pub holding_atom : ℕ → ℕ → Atom
holding_atom b g = record { pred = 8; args = b ∷ g ∷ [] }

-- ---- roles

reach_role : role_of grid_domain 4 ≡ Static
unfolding role_of
reach_role = refl

clear_role : role_of grid_domain 5 ≡ Static
unfolding role_of
clear_role = refl

at_role : role_of grid_domain 6 ≡ Fluent
unfolding role_of
at_role = refl

free_role : role_of grid_domain 7 ≡ Fluent
unfolding role_of
free_role = refl

holding_role : role_of grid_domain 8 ≡ Fluent
unfolding role_of
holding_role = refl

unsafe_role : role_of grid_domain 9 ≡ Derived
unfolding role_of
unsafe_role = refl

-- ---- changed states

abbrev any_in : Atom → List Atom → Bool
any_in q atoms = list_any (eq_by_cmp atom_cmp q) atoms

either : (a b c : Bool) → (a || (not b && c)) ≡ true → (a ≡ true) ⊎ ((b ≡ false) × (c ≡ true))
either true b c e = inl refl
either false true c e = absurd (cc)
either false false c e = inr (refl, e)

in_one : (q x : Atom) → any_in q (x ∷ []) ≡ true → q ≡ x
in_one q x e = atom_is q x (from_or_false (eq_by_cmp atom_cmp q x) e)

in_two : (q x y : Atom) → any_in q (x ∷ y ∷ []) ≡ true → (q ≡ x) ⊎ (q ≡ y)
in_two q x y e = by (eq_by_cmp atom_cmp q x) refl e
  where
    by : (b : Bool) → eq_by_cmp atom_cmp q x ≡ b → (b || (eq_by_cmp atom_cmp q y || false)) ≡ true → (q ≡ x) ⊎ (q ≡ y)
    by true is any = inl (atom_is q x is)
    by false is any = inr (atom_is q y (from_or_false (eq_by_cmp atom_cmp q y) any))

other_atom : (q x : Atom) → q ≢ x → eq_by_cmp atom_cmp q x ≡ false
other_atom q x apart = by (eq_by_cmp atom_cmp q x) refl
  where
    by : (b : Bool) → eq_by_cmp atom_cmp q x ≡ b → b ≡ false
    by true is = absurd (apart (atom_is q x is))
    by false is = refl

not_first : (q x : Atom) (rest : Bool) → (eq_by_cmp atom_cmp q x || rest) ≡ false → q ≢ x
not_first q x rest e same =
    let is = ap (eq_by_cmp atom_cmp q) (sym same) ∙ atom_itself q in
    not_both (eq_by_cmp atom_cmp q x) is (left_false (eq_by_cmp atom_cmp q x) rest e)

kept_on : (a b c : Bool) → b ≡ false → c ≡ true → (a || (not b && c)) ≡ true
kept_on true b c out there = refl
kept_on false true c out there = absurd (cc)
kept_on false false c out there = there

not_true_so : (b : Bool) → not b ≡ true → b ≡ false
not_true_so true e = absurd (cc)
not_true_so false e = refl

-- ---- objects of a type

any_object : (known : Known) (sort o : ℕ) (p : ℕ → Bool) → has_type known o sort ≡ true → p o ≡ true
    → list_any p (objects_of known.facts sort) ≡ true
any_object known sort o p typed passes =
    let found = any_found (same_fact (type_fact sort o)) known.facts typed in
    let is : type_fact sort o ≡ found.1 = (fact_decided (type_fact sort o) found.1).0 found.3 in
    let shown : object_with sort found.1 ≡ Some o = ap (object_with sort) (sym is) ∙ object_itself sort o in
    any_mapped (object_with sort) p known.facts found.0 found.1 o found.2 shown passes

-- ---- steps

abbrev pub arguments : ℕ → ℕ → ℕ → ℕ → List ℕ
arguments b p g c = b ∷ p ∷ g ∷ c ∷ []

-- The step takes up a block b from a pose p, by a side g from a cell c.
pub record Picks (known : Known) (before after : Atoms) (step : GroundAction) : Type 0 where
  pub b : ℕ
  pub p : ℕ
  pub g : ℕ
  pub c : ℕ
  pub action : step.action ≡ 0
  pub args : step.args ≡ arguments b p g c
  pub free : contains before free_atom ≡ true
  pub at : contains before (at_atom b p) ≡ true
  pub has : (q : Atom) → contains after q ≡ true
      → (q ≡ holding_atom b g) ⊎ ((q ≢ at_atom b p) × (q ≢ free_atom) × (contains before q ≡ true))
  pub keeps : (q : Atom) → q ≢ at_atom b p → q ≢ free_atom → contains before q ≡ true → contains after q ≡ true

-- The step lays down a block b at a pose p, where nothing makes it unsafe.
pub record Puts (known : Known) (before after : Atoms) (step : GroundAction) : Type 0 where
  pub b : ℕ
  pub p : ℕ
  pub g : ℕ
  pub c : ℕ
  pub action : step.action ≡ 1
  pub args : step.args ≡ arguments b p g c
  pub block : has_type known b 1 ≡ true
  pub pose : has_type known p 3 ≡ true
  pub holding : contains before (holding_atom b g) ≡ true
  pub reach : is_fact known.facts (atom_fact 4 (arguments b p g c)) ≡ true
  pub clear : (o q : ℕ) → has_type known o 1 ≡ true → has_type known q 3 ≡ true → o ≢ b
      → contains before (at_atom o q) ≡ true → is_fact known.facts (atom_fact 5 (arguments b p o q)) ≡ true
  pub has : (q : Atom) → contains after q ≡ true
      → (q ≡ at_atom b p) ⊎ ((q ≡ free_atom) ⊎ ((q ≢ holding_atom b g) × (contains before q ≡ true)))
  pub adds : contains after (at_atom b p) ≡ true
  pub keeps : (q : Atom) → q ≢ holding_atom b g → contains before q ≡ true → contains after q ≡ true

four_typed : (known : Known) (args : List ℕ) → have_types known args (1 ∷ 3 ∷ 4 ∷ 5 ∷ []) ≡ true
    → (b : ℕ) × (p : ℕ) × (g : ℕ) × (c : ℕ) × (args ≡ arguments b p g c)
    × (has_type known b 1 ≡ true) × (has_type known p 3 ≡ true)
four_typed known [] e = absurd (cc)
four_typed known (b ∷ []) e =
    absurd (not_both false (second_so (has_type known b 1) false e) refl)
four_typed known (b ∷ p ∷ []) e =
    absurd (not_both false (second_so (has_type known p 3) false (second_so (has_type known b 1) (has_type known p 3 && false) e)) refl)
four_typed known (b ∷ p ∷ g ∷ []) e =
    absurd (not_both false (second_so (has_type known g 4) false (second_so (has_type known p 3) (has_type known g 4 && false)
    (second_so (has_type known b 1) (has_type known p 3 && (has_type known g 4 && false)) e))) refl)
four_typed known (b ∷ p ∷ g ∷ c ∷ []) e =
    let rest = second_so (has_type known b 1) (have_types known (p ∷ g ∷ c ∷ []) (3 ∷ 4 ∷ 5 ∷ [])) e in (
      b,
      p,
      g,
      c,
      refl,
      first_so (has_type known b 1) (have_types known (p ∷ g ∷ c ∷ []) (3 ∷ 4 ∷ 5 ∷ [])) e,
      first_so (has_type known p 3) (have_types known (g ∷ c ∷ []) (4 ∷ 5 ∷ [])) rest,
    )
four_typed known (b ∷ p ∷ g ∷ c ∷ d ∷ more) e =
    absurd (not_both false (second_so (has_type known c 5) false (second_so (has_type known g 4) (has_type known c 5 && false)
    (second_so (has_type known p 3) (has_type known g 4 && (has_type known c 5 && false))
    (second_so (has_type known b 1) (has_type known p 3 && (has_type known g 4 && (has_type known c 5 && false))) e)))) refl)

action_cases : (k : ℕ) (action : Action) → slice_get grid_domain.actions k ≡ Some action
    → ((k ≡ 0) × (action ≡ pick)) ⊎ ((k ≡ 1) × (action ≡ put))
action_cases zero action e = let same : pick ≡ action = cc in inl (refl, sym same)
action_cases (suc zero) action e = let same : put ≡ action = cc in inr (refl, sym same)
action_cases (suc (suc k)) action e = absurd (cc)

module _ (problem : Problem) (known : Known) (before after : Atoms) (step : GroundAction) (cost : ℕ)
    (is : IsStep (made problem) known before step after cost) where
  abbrev truth_at : Role → ℕ → List ℕ → Bool
  truth_at role pred args = atom_as grid_domain known before 2 role pred args

  abbrev inner : ℕ → List ℕ → Bool
  inner pred args = atom_as grid_domain known before 1 (role_of grid_domain pred) pred args

  -- the body of `unsafe`, for other objects
  abbrev body : ℕ → ℕ → ℕ → ℕ → Bool
  body b p x y = inner 6 (x ∷ y ∷ []) && (not (x == b) && (not (inner 5 (arguments b p x y)) && true))

  abbrev some : ℕ → ℕ → Bool
  some b p = list_any (λ x. list_any (λ y. body b p x y) (objects_of known.facts 3)) (objects_of known.facts 1)

  -- `(not (unsafe b p))` is that other blocks stand clear
  safe_means : (b p : ℕ) → has_type known b 1 ≡ true → has_type known p 3 ≡ true
      → atom_at grid_domain known before 2 9 (b ∷ p ∷ []) ≡ false → (o q : ℕ) → has_type known o 1 ≡ true
      → has_type known q 3 ≡ true → o ≢ b → contains before (at_atom o q) ≡ true
      → is_fact known.facts (atom_fact 5 (arguments b p o q)) ≡ true
  safe_means b p block pose safe o q other place apart there =
      by (is_fact known.facts (atom_fact 5 (arguments b p o q))) refl
    where
      none : some b p ≡ false
      none =
          let derived : atom_as grid_domain known before 2 Derived 9 (b ∷ p ∷ []) ≡ false =
          ap (λ r. atom_as grid_domain known before 2 r 9 (b ∷ p ∷ [])) (sym unsafe_role) ∙ safe in
          let first : (true && (has_type known b 1 && (has_type known p 3 && true)) && some b p) ≡ false =
          left_false (true && (has_type known b 1 && (has_type known p 3 && true)) && some b p) _ derived in
          let typed : (true && (has_type known b 1 && (has_type known p 3 && true))) ≡ true =
          and_from true (has_type known b 1 && (has_type known p 3 && true)) refl
          (and_from (has_type known b 1) (has_type known p 3 && true) block (and_from (has_type known p 3) true pose refl)) in
          sym (ap (λ x. x && some b p) typed) ∙ first

      by : (x : Bool) → is_fact known.facts (atom_fact 5 (arguments b p o q)) ≡ x
          → is_fact known.facts (atom_fact 5 (arguments b p o q)) ≡ true
      by true e = e
      by false e =
          let at_here : inner 6 (o ∷ q ∷ []) ≡ true = ap (λ r. atom_as grid_domain known before 1 r 6 (o ∷ q ∷ [])) at_role ∙ there in
          let clear_not : inner 5 (arguments b p o q) ≡ false = ap (λ r. atom_as grid_domain known before 1 r 5 (arguments b p o q)) clear_role ∙ e in
          let holds : body b p o q ≡ true =
          and_from (inner 6 (o ∷ q ∷ [])) _ at_here
          (and_from (not (o == b)) _ (not_from_false (o == b) (ne_eqb o b apart))
          (and_from (not (inner 5 (arguments b p o q))) true (not_from_false (inner 5 (arguments b p o q)) clear_not) refl)) in
          let any : some b p ≡ true =
          any_object known 1 o (λ x. list_any (λ y. body b p x y) (objects_of known.facts 3)) other
          (any_object known 3 q (λ y. body b p o y) place holds) in
          absurd (not_both (some b p) any none)

  picks : step.action ≡ 0 → is.action ≡ pick → Picks known before after step
  picks place same =
      let typed = four_typed known step.args (subst (λ (a : Action). have_types known step.args a.params ≡ true) same is.typed) in
      let b = typed.0 in
      let p = typed.1 in
      let g = typed.2 in
      let c = typed.3 in
      let holds : is_true grid_domain known before pick.condition (slots_of (arguments b p g c)) ≡ true =
      subst (λ args. is_true grid_domain known before pick.condition (slots_of args) ≡ true) typed.4
      (subst (λ (a : Action). is_true grid_domain known before a.condition (slots_of step.args) ≡ true) same is.condition) in
      let seven = truth_at (role_of grid_domain 7) 7 [] in
      let six = truth_at (role_of grid_domain 6) 6 (b ∷ p ∷ []) in
      let four = truth_at (role_of grid_domain 4) 4 (arguments b p g c) in
      let rest : (six && (four && true)) ≡ true = second_so seven (six && (four && true)) holds in
      let changed : (q : Atom) → contains after q ≡ (any_in q (holding_atom b g ∷ []) || (not (any_in q (at_atom b p ∷ free_atom ∷ [])) && contains before q)) =
      λ q. ap (λ s. contains s q) is.leads
      ∙ ap (λ (a : Action). contains (effect_of a step.args before) q) same
      ∙ ap (λ args. contains (effect_of pick args before) q) typed.4
      ∙ contains-changed before (at_atom b p ∷ free_atom ∷ []) (holding_atom b g ∷ []) q in
      record {
        b = b;
        p = p;
        g = g;
        c = c;
        action = place;
        args = typed.4;
        free = ap (λ r. truth_at r 7 []) (sym free_role) ∙ first_so seven (six && (four && true)) holds;
        at = ap (λ r. truth_at r 6 (b ∷ p ∷ [])) (sym at_role) ∙ first_so six (four && true) rest;
        has = λ q there. elim (either (any_in q (holding_atom b g ∷ [])) (any_in q (at_atom b p ∷ free_atom ∷ [])) (contains before q) (sym (changed q) ∙ there)) [
          | inl new ↦ inl (in_one q (holding_atom b g) new)
          | inr old ↦ inr (
            not_first q (at_atom b p) (eq_by_cmp atom_cmp q free_atom || false) old.0,
            not_first q free_atom false (right_false (eq_by_cmp atom_cmp q (at_atom b p)) (eq_by_cmp atom_cmp q free_atom || false) old.0),
            old.1,
          )
        ];
        keeps = λ q not_at not_free there.
            let out : any_in q (at_atom b p ∷ free_atom ∷ []) ≡ false =
            or_from (eq_by_cmp atom_cmp q (at_atom b p)) _ (other_atom q (at_atom b p) not_at)
            (or_from (eq_by_cmp atom_cmp q free_atom) false (other_atom q free_atom not_free) refl) in
            changed q ∙ kept_on (any_in q (holding_atom b g ∷ [])) (any_in q (at_atom b p ∷ free_atom ∷ [])) (contains before q) out there;
      }

  puts : step.action ≡ 1 → is.action ≡ put → Puts known before after step
  puts place same =
      let typed = four_typed known step.args (subst (λ (a : Action). have_types known step.args a.params ≡ true) same is.typed) in
      let b = typed.0 in
      let p = typed.1 in
      let g = typed.2 in
      let c = typed.3 in
      let holds : is_true grid_domain known before put.condition (slots_of (arguments b p g c)) ≡ true =
      subst (λ args. is_true grid_domain known before put.condition (slots_of args) ≡ true) typed.4
      (subst (λ (a : Action). is_true grid_domain known before a.condition (slots_of step.args) ≡ true) same is.condition) in
      let eight = truth_at (role_of grid_domain 8) 8 (b ∷ g ∷ []) in
      let four = truth_at (role_of grid_domain 4) 4 (arguments b p g c) in
      let nine = truth_at (role_of grid_domain 9) 9 (b ∷ p ∷ []) in
      let rest : (four && (not nine && true)) ≡ true = second_so eight (four && (not nine && true)) holds in
      let last : (not nine && true) ≡ true = second_so four (not nine && true) rest in
      let safe : nine ≡ false = not_true_so nine (first_so (not nine) true last) in
      let changed : (q : Atom) → contains after q ≡ (any_in q (at_atom b p ∷ free_atom ∷ []) || (not (any_in q (holding_atom b g ∷ [])) && contains before q)) =
      λ q. ap (λ s. contains s q) is.leads
      ∙ ap (λ (a : Action). contains (effect_of a step.args before) q) same
      ∙ ap (λ args. contains (effect_of put args before) q) typed.4
      ∙ contains-changed before (holding_atom b g ∷ []) (at_atom b p ∷ free_atom ∷ []) q in
      record {
        b = b;
        p = p;
        g = g;
        c = c;
        action = place;
        args = typed.4;
        block = typed.5;
        pose = typed.6;
        holding = ap (λ r. truth_at r 8 (b ∷ g ∷ [])) (sym holding_role) ∙ first_so eight (four && (not nine && true)) holds;
        reach = ap (λ r. truth_at r 4 (arguments b p g c)) (sym reach_role) ∙ first_so four (not nine && true) rest;
        clear = λ o q other place apart there. safe_means b p typed.5 typed.6 safe o q other place apart there;
        has = λ q there. elim (either (any_in q (at_atom b p ∷ free_atom ∷ [])) (any_in q (holding_atom b g ∷ [])) (contains before q) (sym (changed q) ∙ there)) [
          | inl new ↦ elim (in_two q (at_atom b p) free_atom new) [ inl one ↦ inl one | inr two ↦ inr (inl two) ]
          | inr old ↦ inr (inr (not_first q (holding_atom b g) false old.0, old.1))
        ];
        adds = changed (at_atom b p)
            ∙ ap (λ x. (x || (eq_by_cmp atom_cmp (at_atom b p) free_atom || false))
            || (not (any_in (at_atom b p) (holding_atom b g ∷ [])) && contains before (at_atom b p))) (atom_itself (at_atom b p));
        keeps = λ q not_held there.
            let out : any_in q (holding_atom b g ∷ []) ≡ false =
            or_from (eq_by_cmp atom_cmp q (holding_atom b g)) false (other_atom q (holding_atom b g) not_held) refl in
            changed q ∙ kept_on (any_in q (at_atom b p ∷ free_atom ∷ [])) (any_in q (holding_atom b g ∷ [])) (contains before q) out there;
      }

  -- a step of the grid's domain takes a block up or lays it down
  pub step_is : Picks known before after step ⊎ Puts known before after step
  step_is = elim (action_cases step.action is.action is.named) [
    | inl one ↦ inl (picks one.0 one.1)
    | inr two ↦ inr (puts two.0 two.1)
  ]
