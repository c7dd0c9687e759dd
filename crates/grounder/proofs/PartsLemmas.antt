-- The static atoms of conditions.
use Rattle.std.proofs.Common.{MatchOption, Option, None, is_some, ◌≡◌, ℕ, Bool, true, false, not, ◌&&◌, ◌||◌, List, [], ◌∷◌, ◌++◌, length, refl, sym, ap, ◌∙◌, Some, nat_le}
use Rattle.std.specs.Cmp.{first_so, second_so}
use Rattle.std.specs.List.{list_all}
use Rattle.std.proofs.lemmas.Bool.{and_from}
use Rattle.std.proofs.lemmas.List.Folds.{list_all-append}
use Rattle.formula_eval.proofs.ReadableLemmas.{static_at}
use Rattle.formula_eval.specs.Readable.{is_readable, are_readable}
use Rattle.lemmas.proofs.ListTests.{all_push}
use Rattle.lemmas.specs.Lists.{numbers_from}
use Rattle.task_model.specs.Condition.{Condition, Conditions, Atom, Equal, All as every, Any, Not, Exists, none, more, parts_of}
use Rattle.task_model.specs.Fit.{IsFitDomain, are_sound, count_of, depth_of, is_static_role, is_fit_action, are_fit_params, is_fit_condition, are_fit_effects, param_slots}
use Rattle.task_model.specs.declared.domain.Action.{Action}
use Rattle.task_model.specs.Known.{Known, is_fact, atom_fact, objects_of}
use Rattle.task_model.specs.Roles.{role_of}
use Rattle.task_model.specs.State.{Atoms}
use Rattle.task_model.specs.Truth.{objects_at, is_true, all_true, atom_at}
use Rattle.task_model.specs.declared.domain.Domain.{Domain}
use Rattle.task_model.specs.declared.domain.Role.{Role}
use Rattle.task_model.specs.declared.domain.Role.TheVariants as role
use Rattle.fact_join.proofs.FitLemmas.{fit_terms}
use Rattle.fact_join.specs.Answers.{is_known, is_atom_over}
use Rattle.fact_join.specs.declared.query.QueryAtom.{QueryAtom}
use Rattle.grounder.specs.Candidates.{is_part_open}
use Rattle.grounder.specs.Parts.{AreNeeded, IsNeeded, list_of, tops_of, is_static_part, is_known_atom, is_settled, is_sound_over}

-- ---- parts as a list

pub listed_parts : (cs : List Condition) → list_of (parts_of cs) ≡ cs
listed_parts [] = refl
listed_parts (c ∷ cs) = ap (λ xs. c ∷ xs) (listed_parts cs)

pub readable_tops : (domain : Domain) (c : Condition) → is_readable domain c ≡ true
    → list_all (is_readable domain) (tops_of c) ≡ true
readable_tops domain (Atom pred args) e = and_from (is_readable domain (Atom pred args)) true e refl
readable_tops domain (Equal s t) e = and_from (is_readable domain (Equal s t)) true e refl
readable_tops domain (every parts) e = sym (each parts) ∙ e
  where
    each : (parts : Conditions)
        → are_readable domain parts ≡ list_all (is_readable domain) (list_of parts)
    each none = refl
    each (more part parts) = ap (λ b. is_readable domain part && b) (each parts)
readable_tops domain (Any parts) e = and_from (is_readable domain (Any parts)) true e refl
readable_tops domain (Not part) e = and_from (is_readable domain (Not part)) true e refl
readable_tops domain (Exists first sorts body) e = and_from (is_readable domain (Exists first sorts body)) true e refl

pub sound_tops : (domain : Domain) (width : ℕ) (c : Condition) → is_sound_over domain width c ≡ true
    → list_all (is_sound_over domain width) (tops_of c) ≡ true
sound_tops domain width (Atom pred args) e = and_from (is_sound_over domain width (Atom pred args)) true e refl
sound_tops domain width (Equal s t) e = and_from (is_sound_over domain width (Equal s t)) true e refl
sound_tops domain width (every parts) e =
    sym (each parts)
    ∙ second_so (nat_le (count_of parts) 8388608) (are_sound domain (length domain.constants) parts (numbers_from 0 width)) e
  where
    each : (parts : Conditions)
        → are_sound domain (length domain.constants) parts (numbers_from 0 width) ≡ list_all (is_sound_over domain width) (list_of parts)
    each none = refl
    each (more part parts) = ap (λ b. is_sound_over domain width part && b) (each parts)
sound_tops domain width (Any parts) e = and_from (is_sound_over domain width (Any parts)) true e refl
sound_tops domain width (Not part) e = and_from (is_sound_over domain width (Not part)) true e refl
sound_tops domain width (Exists first sorts body) e = and_from (is_sound_over domain width (Exists first sorts body)) true e refl

-- the static atoms of an action have their slots among its parameters
pub sound_action : (domain : Domain) (action : Action) → is_fit_action domain action ≡ true
    → list_all (is_sound_over domain (length action.params)) (tops_of action.condition) ≡ true
sound_action domain a e =
    let slots = param_slots a in
    let p1 = are_fit_params domain a.params in
    let p2 = is_fit_condition domain (length domain.constants) slots a.condition in
    let p3 = are_fit_effects domain slots a.adds in
    let p4 = are_fit_effects domain slots a.deletes in
    let p5 = nat_le (length a.costs) 262144 in
    let e5 = first_so (p1 && p2 && p3 && p4 && p5) _ e in
    let e2 = first_so (p1 && p2) p3 (first_so (p1 && p2 && p3) p4 (first_so (p1 && p2 && p3 && p4) p5 e5)) in
    sound_tops domain (length a.params) a.condition
    (first_so (is_sound_over domain (length a.params) a.condition) (nat_le (depth_of a.condition) 64) (second_so p1 p2 e2))

-- ---- answers that may be wanting

pub match_none : {A P : Type 0} (Q : A → Type 0) (o : Option A) → MatchOption o P Q
    → is_some o ≡ false → P
match_none Q None m e = m
match_none Q (Some x) m e = absurd (cc)

pub match_some : {A : Type 0} (P : Type 0) {Q : A → Type 0} (o : Option A) → MatchOption o P Q
    → is_some o ≡ true → (x : A) × Q x
match_some P None m e = absurd (cc)
match_some P (Some x) m e = (x, m)

-- ---- what is settled and what is open

and_true : (b : Bool) → b ≡ (b && true)
and_true true = refl
and_true false = refl

module _ (domain : Domain) (known : Known) (state : Atoms) (slots : List ℕ) where
  abbrev truth_of : Condition → Bool
  truth_of part = is_true domain known state part slots

  true_tops : (c : Condition) → truth_of c ≡ list_all truth_of (tops_of c)
  true_tops (Atom pred args) = and_true (truth_of (Atom pred args))
  true_tops (Equal s t) = and_true (truth_of (Equal s t))
  true_tops (every parts) = each parts
    where
      each : (parts : Conditions)
          → all_true (atom_at domain known state (length domain.derived)) (objects_of known.facts) parts slots
          ≡ list_all truth_of (list_of parts)
      each none = refl
      each (more part parts) = ap (λ b. truth_of part && b) (each parts)
  true_tops (Any parts) = and_true (truth_of (Any parts))
  true_tops (Not part) = and_true (truth_of (Not part))
  true_tops (Exists first sorts body) = and_true (truth_of (Exists first sorts body))

  true_atom : (pred : ℕ) (args : List ℕ) (r : Role) → role_of domain pred ≡ r
      → atom_at domain known state (length domain.derived) pred args
      ≡ ((not (is_static_role r) || is_fact known.facts (atom_fact pred args))
      && (is_static_role r || atom_at domain known state (length domain.derived) pred args))
  true_atom pred args role.Static is =
      static_at domain known state pred args (length domain.derived) is ∙ and_true (is_fact known.facts (atom_fact pred args))
  true_atom pred args role.Fluent is = refl
  true_atom pred args role.Derived is = refl

  true_part : (part : Condition)
      → truth_of part ≡ (is_settled domain known slots part && is_part_open domain known state slots part)
  true_part (Atom pred args) = true_atom pred (objects_at slots args) (role_of domain pred) refl
  true_part (Equal s t) = refl
  true_part (every parts) = refl
  true_part (Any parts) = refl
  true_part (Not part) = refl
  true_part (Exists first sorts body) = refl

  all_split : (parts : List Condition)
      → list_all truth_of parts ≡ (list_all (is_settled domain known slots) parts && list_all (is_part_open domain known state slots) parts)
  all_split [] = refl
  all_split (part ∷ parts) =
      ap (λ b. b && list_all truth_of parts) (true_part part)
      ∙ ap (λ b. (is_settled domain known slots part && is_part_open domain known state slots part) && b) (all_split parts)
      ∙ and_swap (is_settled domain known slots part) (is_part_open domain known state slots part)
      (list_all (is_settled domain known slots) parts) (list_all (is_part_open domain known state slots) parts)
    where
      and_swap : (a b c d : Bool) → ((a && b) && (c && d)) ≡ ((a && c) && (b && d))
      and_swap true true c d = refl
      and_swap true false true d = refl
      and_swap true false false d = refl
      and_swap false b c d = refl

  -- a condition is true exactly where its static atoms are known facts, and its other parts are true
  pub true_where : (c : Condition)
      → truth_of c ≡ (list_all (is_settled domain known slots) (tops_of c) && list_all (is_part_open domain known state slots) (tops_of c))
  true_where c = true_tops c ∙ all_split (tops_of c)

  pub settled_where : (c : Condition) → truth_of c ≡ true
      → list_all (is_settled domain known slots) (tops_of c) ≡ true
  settled_where c t =
      first_so (list_all (is_settled domain known slots) (tops_of c))
      (list_all (is_part_open domain known state slots) (tops_of c)) (sym (true_where c) ∙ t)

-- ---- the atoms that are needed

pub needed_atom : (domain : Domain) → IsFitDomain domain → (atom : QueryAtom)
    → role_of domain atom.pred ≡ role.Static
    → IsNeeded domain (Atom atom.pred atom.terms.now) atom
needed_atom domain fit atom static = record {
  static = ap is_static_role static;
  slots = λ width sound. fit_terms domain.predicates fit.predicates.arities (length domain.constants) width atom.pred atom.terms.now sound;
  known = λ known slots. sym (ap (λ r. not (is_static_role r) || is_known known slots atom) static);
}

pub needed_none : (domain : Domain) → AreNeeded domain [] []
needed_none domain = record { slots = λ width sound. refl; known = λ known slots. refl }

module _ (domain : Domain) (parts : List Condition) (atoms : List QueryAtom) (part : Condition) where
  sound_front : (width : ℕ) → list_all (is_sound_over domain width) (parts ++ part ∷ []) ≡ true
      → (list_all (is_sound_over domain width) parts ≡ true) × (is_sound_over domain width part ≡ true)
  sound_front width e =
      both (list_all (is_sound_over domain width) parts)
      (is_sound_over domain width part) (sym (list_all-append (is_sound_over domain width) parts (part ∷ [])) ∙ e)
    where
      both : (a b : Bool) → (a && (b && true)) ≡ true → (a ≡ true) × (b ≡ true)
      both true true e = (refl, refl)
      both true false e = absurd (cc)
      both false b e = absurd (cc)

  -- one part more, which is a static atom
  pub needed_next : (atom : QueryAtom) → AreNeeded domain parts atoms → IsNeeded domain part atom
      → AreNeeded domain (parts ++ part ∷ []) (atoms ++ atom ∷ [])
  needed_next atom before one = record {
    slots = λ width sound.
        let front = sound_front width sound in
        all_push (is_atom_over width) atoms atom (before.slots width front.0) (one.slots width front.1);
    known = λ known slots.
        list_all-append (is_known known slots) atoms (atom ∷ [])
        ∙ ap (λ b. b && (is_known known slots atom && true)) (before.known known slots)
        ∙ ap (λ b. list_all (is_settled domain known slots) parts && (b && true)) (one.known known slots)
        ∙ sym (list_all-append (is_settled domain known slots) parts (part ∷ []));
  }

  -- one part more, which isn't
  pub needed_past : is_static_part domain part ≡ false → AreNeeded domain parts atoms
      → AreNeeded domain (parts ++ part ∷ []) atoms
  needed_past other before = record {
    slots = λ width sound. before.slots width (sound_front width sound).0;
    known = λ known slots.
        before.known known slots ∙ and_true (list_all (is_settled domain known slots) parts)
        ∙ ap (λ b. list_all (is_settled domain known slots) parts && ((not b || is_known_atom known slots part) && true)) (sym other)
        ∙ sym (list_all-append (is_settled domain known slots) parts (part ∷ []));
  }
