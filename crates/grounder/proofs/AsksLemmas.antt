-- What conditions ask of the atoms of a state.
use Rattle.std.proofs.Common.{◌≡◌, ℕ, ◌<◌, ◌≤◌, zero, suc, Bool, true, false, not, ◌||◌, List, [], ◌∷◌, ◌++◌, length, map, All, get_or, set, nat_lt, length-append, inl, inr, Option, Some, None, option_map, slice_get, Contains, true≢false, refl, sym, ap, ◌∙◌, subst, arith}
use Rattle.std.proofs.lemmas.Bool.{and_from, or_left, or_right, lt-ltb}
use Rattle.std.proofs.lemmas.Option.{slice_get-map, slice_get-get_or, slice_get_within, get_or_from_slice_get, same_Some}
use Rattle.std.specs.Cmp.{Equal-is, eq_by_cmp_equiv}
use Rattle.std.specs.List.{list_all, list_any}
use Rattle.std.specs.Ordering.{eq_by_cmp}
use Rattle.formula_eval.proofs.ReadableLemmas.{fluent_at}
use Rattle.lemmas.proofs.Ascending.{contains_later}
use Rattle.lemmas.proofs.Bools.{or_assoc, or_false}
use Rattle.lemmas.proofs.Distinct.{distinct_tail, head_is_new}
use Rattle.lemmas.proofs.ListTests.{all_at, all_from, get_there}
use Rattle.lemmas.proofs.Members.{member_at, push_cases}
use Rattle.lemmas.specs.Lists.{AreDistinct}
use Rattle.state_store.proofs.RowsLemmas.{atoms_of-grown, known_grown}
use Rattle.state_store.specs.Rows.{AddsAtoms, no_atom, row_atoms}
use Rattle.task_model.proofs.StateLemmas.{atoms_tied, atoms_total}
use Rattle.task_model.proofs.TruthLemmas.{have_types-length}
use Rattle.task_model.specs.AtomOrder.{atom_cmp}
use Rattle.task_model.specs.Condition.{Condition, Atom, Equal, All as every, Any, Not, Exists}
use Rattle.task_model.specs.Fit.{is_static_role}
use Rattle.task_model.specs.Known.{Known}
use Rattle.task_model.specs.Roles.{role_of}
use Rattle.task_model.specs.State.{Atoms, contains}
use Rattle.task_model.specs.Truth.{is_true, objects_at, slots_of}
use Rattle.task_model.specs.declared.domain.Action.{Action}
use Rattle.task_model.specs.declared.domain.Domain.{Domain}
use Rattle.task_model.specs.declared.domain.Role.{Role}
use Rattle.task_model.specs.declared.domain.Role.TheVariants as role
use Rattle.task_model.specs.declared.fact.Atom as facts
use Rattle.grounder.specs.Asks.{AreAsks, AreMet, AreNumbers, IsAsk, IsMetBy, is_judged, is_met, is_number_within, is_within}
use Rattle.grounder.specs.Candidates.{AreCandidateRows, is_part_open}
use Rattle.grounder.specs.Parts.{fluent_as, fluent_in, is_static_part}
use Rattle.grounder.specs.declared.asks.Ask.{Ask}
use Rattle.grounder.specs.declared.asks.Ask.TheVariants.{Nothing, There, Missing, Judged}

-- ---- more atoms with numbers

module _ (domain : Domain) (rows : List (List ℕ)) (old new : List facts.Atom) (grows : AddsAtoms old new) where
  numbers_grown : (condition : Condition) (numbers : List ℕ) → AreNumbers domain condition rows old numbers
      → AreNumbers domain condition rows new numbers
  numbers_grown condition numbers are = record {
    known = subst (λ atoms. All (λ n. n < length atoms) numbers) (sym grows.1) (known_grown old grows.0 numbers are.known);
    atoms =
        ap (map Some) (ap (λ atoms. row_atoms atoms numbers) grows.1 ∙ atoms_of-grown old grows.0 numbers are.known)
        ∙ are.atoms;
  }

  pub ask_grown : (part : Condition) (ask : Ask) → IsAsk domain part rows old ask → IsAsk domain part rows new ask
  ask_grown part Nothing is = is
  ask_grown part (There numbers) is = numbers_grown part numbers is
  ask_grown part (Missing numbers) is =
      record { inner = is.inner; negated = is.negated; asked = numbers_grown is.inner numbers is.asked }
  ask_grown part Judged is = is

  pub asks_grown : (parts : List Condition) (asks : List Ask) → AreAsks domain parts rows old asks
      → AreAsks domain parts rows new asks
  asks_grown parts asks are =
      record { places = are.places; each = λ k part ask p a. ask_grown part ask (are.each k part ask p a) }

-- ---- one more part

pub asks_next : (domain : Domain) (rows : List (List ℕ)) (numbered : List facts.Atom) (parts : List Condition)
    (asks : List Ask) (part : Condition) (ask : Ask) → AreAsks domain parts rows numbered asks
    → IsAsk domain part rows numbered ask → AreAsks domain (parts ++ part ∷ []) rows numbered (asks ++ ask ∷ [])
asks_next domain rows numbered parts asks part ask are is = record {
  places = omega (arith, length-append asks (ask ∷ []), length-append parts (part ∷ []), are.places);
  each = λ k p a at_p at_a. elim (push_cases parts part k p at_p) [
    | inl hp ↦ elim (push_cases asks ask k a at_a) [
      | inl ha ↦ are.each k p a hp ha
      | inr ha ↦ absurd (omega (arith, slice_get_within parts k p hp, are.places, ha.0))
    ]
    | inr hp ↦ elim (push_cases asks ask k a at_a) [
      | inl ha ↦ absurd (omega (arith, slice_get_within asks k a ha, are.places, hp.0))
      | inr ha ↦
          subst (λ q. IsAsk domain q rows numbered a) (sym hp.1)
          (subst (IsAsk domain part rows numbered) (sym ha.1) is)
    ]
  ];
}

-- ---- what is judged and what isn't

module _ (domain : Domain) (known : Known) (state : Atoms) (slots : List ℕ) (part : Condition) where
  pub judged_part : (ask : Ask) → IsMetBy domain known state slots part ask → is_judged ask ≡ true
      → is_static_part domain part ≡ false
  judged_part Nothing met e = absurd (true≢false (sym e))
  judged_part (There numbers) met e = absurd (true≢false (sym e))
  judged_part (Missing numbers) met e = absurd (true≢false (sym e))
  judged_part Judged met e = met

  pub met_part : (ask : Ask) → IsMetBy domain known state slots part ask → is_judged ask ≡ false
      → is_part_open domain known state slots part ≡ true
  met_part Nothing met e = met
  met_part (There numbers) met e = met
  met_part (Missing numbers) met e = met
  met_part Judged met e = absurd (true≢false e)

-- ---- marks of atoms

pub any_pushed : {A : Type 0} (p : A → Bool) (xs : List A) (x : A)
    → list_any p (xs ++ x ∷ []) ≡ (list_any p xs || p x)
any_pushed p [] x = or_false (p x)
any_pushed p (y ∷ ys) x = ap (λ b. p y || b) (any_pushed p ys x) ∙ or_assoc (p y) (list_any p ys) (p x)

module _ (atom : facts.Atom) (g h : facts.Atom → Bool) (next : (a : facts.Atom) → h a ≡ (g a || eq_by_cmp atom_cmp a atom)) where
  same_else : (k : facts.Atom) → ¬ (k ≡ atom) → h k ≡ g k
  same_else k other = next k ∙ by (eq_by_cmp atom_cmp k atom) refl
    where
      by : (b : Bool) → eq_by_cmp atom_cmp k atom ≡ b → (g k || b) ≡ g k
      by true e = absurd (other (atoms_tied k atom ((Equal-is (atom_cmp k atom)).0 e)))
      by false e = or_false (g k)

  pub mark_none : (keys : List facts.Atom) → ¬ (Contains keys atom) → map h keys ≡ map g keys
  mark_none [] absent = refl
  mark_none (k ∷ ks) absent =
      let here : h k ≡ g k = same_else k (λ e. absent (member_at (k ∷ ks) 0 atom (ap Some e))) in
      let rest : map h ks ≡ map g ks = mark_none ks (λ c. absent (contains_later k ks atom c)) in
      λ i. here i ∷ rest i

  pub mark_there : (keys : List facts.Atom) → AreDistinct keys → (place : ℕ) → slice_get keys place ≡ Some atom
      → map h keys ≡ set (map g keys) place true
  mark_there [] distinct place at = absurd (cc)
  mark_there (k ∷ ks) distinct zero at =
      let same : k ≡ atom = same_Some k atom at in
      let here : h k ≡ true = next k ∙ or_right (g k) (eq_by_cmp atom_cmp k atom)
      (subst (λ a. eq_by_cmp atom_cmp k a ≡ true) same ((eq_by_cmp_equiv atoms_total).refl k)) in
      let rest : map h ks ≡ map g ks =
      mark_none ks (λ c. head_is_new k ks distinct (subst (Contains ks) (sym same) c)) in
      λ i. here i ∷ rest i
  mark_there (k ∷ ks) distinct (suc place) at =
      let here : h k ≡ g k =
      same_else k (λ e. head_is_new k ks distinct (subst (Contains ks) (sym e) (member_at ks place atom at))) in
      let rest = mark_there ks (distinct_tail k ks distinct) place at in
      λ i. here i ∷ rest i

-- ---- what is asked for a row

-- an atom of a fluent is true where the state has it
pub fluent_truth : (domain : Domain) (known : Known) (state : Atoms) (slots : List ℕ) (part : Condition) (a : facts.Atom)
    → fluent_in domain slots part ≡ Some a
    → (is_static_part domain part ≡ false) × (is_true domain known state part slots ≡ contains state a)
fluent_truth domain known state slots (Atom pred args) a is = by (role_of domain pred) refl is
  where
    one : facts.Atom
    one = record { pred = pred; args = objects_at slots args }

    by : (r : Role) → role_of domain pred ≡ r → fluent_as r one ≡ Some a
        → (is_static_role (role_of domain pred) ≡ false) × (is_true domain known state (Atom pred args) slots ≡ contains state a)
    by role.Static e f = absurd (cc)
    by role.Derived e f = absurd (cc)
    by role.Fluent e f =
        let same : one ≡ a = cc in (
          ap is_static_role e,
          fluent_at domain known state pred (objects_at slots args) (length domain.derived) e ∙ ap (contains state) same,
        )
fluent_truth domain known state slots (Equal s t) a is = absurd (cc)
fluent_truth domain known state slots (every parts) a is = absurd (cc)
fluent_truth domain known state slots (Any parts) a is = absurd (cc)
fluent_truth domain known state slots (Not part) a is = absurd (cc)
fluent_truth domain known state slots (Exists first sorts body) a is = absurd (cc)

module _ (domain : Domain) (rows : List (List ℕ)) (numbered : List facts.Atom) (place : ℕ) (args : List ℕ)
    (at : slice_get rows place ≡ Some args) where
  -- the atom that a condition is with the arguments of a row
  pub number_at : (condition : Condition) (numbers : List ℕ) → AreNumbers domain condition rows numbered numbers
      → (atom : facts.Atom) × (place < length numbers) × (fluent_in domain (slots_of args) condition ≡ Some atom)
      × (slice_get numbered (get_or numbers place 0) ≡ Some atom)
  number_at condition numbers are = by (slice_get numbers place) refl same
    where
      here : List ℕ → Option facts.Atom
      here args = fluent_in domain (slots_of args) condition

      of_number : ℕ → facts.Atom
      of_number n = get_or numbered n no_atom

      same : option_map Some (option_map of_number (slice_get numbers place)) ≡ Some (here args)
      same =
          ap (option_map Some) (sym (slice_get-map of_number numbers place))
          ∙ sym (slice_get-map Some (row_atoms numbered numbers) place)
          ∙ ap (λ xs. slice_get xs place) are.atoms ∙ slice_get-map here rows place ∙ ap (option_map here) at

      by : (o : Option ℕ) → slice_get numbers place ≡ o
          → option_map Some (option_map of_number (slice_get numbers place)) ≡ Some (here args)
          → (atom : facts.Atom) × (place < length numbers) × (here args ≡ Some atom)
          × (slice_get numbered (get_or numbers place 0) ≡ Some atom)
      by None e h = absurd (cc)
      by (Some n) e h =
          let within = slice_get_within numbers place n e in
          let number : get_or numbers place 0 ≡ n = get_or_from_slice_get numbers place n 0 e in
          let inside : n < length numbered = subst (λ m. m < length numbered) number (are.known place 0 within) in (
            of_number n,
            within,
            sym (same_Some (Some (of_number n)) (here args)
                (sym (ap (λ o. option_map Some (option_map of_number o)) e) ∙ h)),
            ap (slice_get numbered) number ∙ slice_get-get_or numbered n no_atom inside,
          )

module _ (domain : Domain) (known : Known) (state : Atoms) (rows : List (List ℕ)) (numbered : List facts.Atom)
    (marks : List Bool) (are : marks ≡ map (contains state) numbered) (place : ℕ) (args : List ℕ)
    (at : slice_get rows place ≡ Some args) where
  abbrev is_open : Condition → Bool
  is_open part = is_part_open domain known state (slots_of args) part

  mark_at : (n : ℕ) (atom : facts.Atom) → slice_get numbered n ≡ Some atom
      → (n < length marks) × (get_or marks n true ≡ contains state atom)
  mark_at n atom e =
      let there : slice_get marks n ≡ Some (contains state atom) =
      ap (λ xs. slice_get xs n) are ∙ slice_get-map (contains state) numbered n ∙ ap (option_map (contains state)) e in
      (slice_get_within marks n (contains state atom) there, get_or_from_slice_get marks n (contains state atom) true there)

  -- a number is within, and its mark tells whether the condition is true
  marked : (condition : Condition) (numbers : List ℕ) → AreNumbers domain condition rows numbered numbers
      → (is_number_within place (length marks) numbers ≡ true) × (is_static_part domain condition ≡ false)
      × (is_true domain known state condition (slots_of args) ≡ get_or marks (get_or numbers place 0) true)
  marked condition numbers asked =
      let found = number_at domain rows numbered place args at condition numbers asked in
      let mark = mark_at (get_or numbers place 0) found.0 found.3 in
      let truth = fluent_truth domain known state (slots_of args) condition found.0 found.2 in (
        and_from (nat_lt place (length numbers)) (nat_lt (get_or numbers place 0) (length marks))
            (lt-ltb place (length numbers) found.1) (lt-ltb (get_or numbers place 0) (length marks) mark.0),
        truth.0,
        truth.1 ∙ sym mark.1,
      )

  -- what is asked of one of the atoms is asked of one that has a mark, and is so where the part is open
  pub record Told (part : Condition) (ask : Ask) : Type 0 where
    pub within : is_within place (length marks) ask ≡ true
    pub unmet : is_met marks place ask ≡ false → is_open part ≡ false
    pub met : is_met marks place ask ≡ true → IsMetBy domain known state (slots_of args) part ask

  told : (part : Condition) (ask : Ask) → IsAsk domain part rows numbered ask → Told part ask
  told part Nothing is = record {
    within = refl;
    unmet = λ e. absurd (true≢false e);
    met = λ e. or_left (is_static_part domain part) (is_true domain known state part (slots_of args)) is;
  }
  told part (There numbers) is =
      let one = marked part numbers is in
      let open_is : is_open part ≡ get_or marks (get_or numbers place 0) true =
      ap (λ b. b || is_true domain known state part (slots_of args)) one.1 ∙ one.2 in
      record { within = one.0; unmet = λ e. open_is ∙ e; met = λ e. open_is ∙ e }
  told part (Missing numbers) is =
      let one = marked is.inner numbers is.asked in
      let open_is : is_open part ≡ not (get_or marks (get_or numbers place 0) true) = ap is_open is.negated ∙ ap not one.2 in
      record { within = one.0; unmet = λ e. open_is ∙ e; met = λ e. open_is ∙ e }
  told part Judged is = record { within = refl; unmet = λ e. absurd (true≢false e); met = λ e. is }

  module _ (parts : List Condition) (asks : List Ask) (told_of : AreAsks domain parts rows numbered asks) where
    at_place : (k : ℕ) (ask : Ask) → slice_get asks k ≡ Some ask
        → (part : Condition) × (slice_get parts k ≡ Some part) × Told part ask
    at_place k ask e =
        let part = get_there parts k (omega (arith, slice_get_within asks k ask e, told_of.places)) in
        (part.0, part.1, told part.0 ask (told_of.each k part.0 ask part.1 e))

    pub all_within : list_all (is_within place (length marks)) asks ≡ true
    all_within = all_from (is_within place (length marks)) asks (λ k ask e. (at_place k ask e).2.within)

    pub all_met : list_all (is_met marks place) asks ≡ true → AreMet domain known state (slots_of args) parts asks
    all_met all = record {
      places = told_of.places;
      each = λ k part ask p a. (told part ask (told_of.each k part ask p a)).met (all_at (is_met marks place) asks k ask all a);
    }

    pub some_unmet : list_all (is_met marks place) asks ≡ false → list_all is_open parts ≡ false
    some_unmet none = by (list_all is_open parts) refl
      where
        one_met : list_all is_open parts ≡ true → (k : ℕ) (ask : Ask) → slice_get asks k ≡ Some ask
            → (b : Bool) → is_met marks place ask ≡ b → is_met marks place ask ≡ true
        one_met all k ask e true f = f
        one_met all k ask e false f =
            let here = at_place k ask e in
            absurd (true≢false (sym (all_at is_open parts k here.0 all here.1) ∙ here.2.unmet f))

        by : (b : Bool) → list_all is_open parts ≡ b → list_all is_open parts ≡ false
        by false e = e
        by true e =
            absurd (true≢false
            (sym (all_from (is_met marks place) asks (λ k ask at. one_met e k ask at (is_met marks place ask) refl)) ∙ none))

-- the rows of an action are short where it has few parameters
pub short_rows : (domain : Domain) (known : Known) (action : Action) (rows : List (List ℕ))
    → AreCandidateRows domain known action rows → length action.params ≤ 16 → All (λ args. length args ≤ 16) rows
short_rows domain known action rows are few k d lt =
    let there : Contains rows (get_or rows k d) = member_at rows k (get_or rows k d) (slice_get-get_or rows k d lt) in
    let typed = ((are.each (get_or rows k d)).0 there).0 in
    omega (arith, few, have_types-length known (get_or rows k d) action.params typed)
