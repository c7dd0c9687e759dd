-- What is tried for a variable: each object that makes the condition true comes at some place.
use Rattle.std.proofs.Common.{◌≡◌, ℕ, zero, suc, ◌+◌, ◌<◌, Bool, true, false, List, [], ◌∷◌, length, get_or, refl, sym, ap, ◌∙◌, subst, arith, Option, Some, None, slice_get, slice_index, slice_set, Contains, IfSome, nat_lt, nat_le, ◌&&◌, ◌||◌, ◌≤◌}
use Rattle.std.proofs.lemmas.List.Folds.{list_any_at}
use Rattle.std.proofs.lemmas.Option.{slice_get_within, same_Some}
use Rattle.std.specs.FinMap as finite
use Rattle.std.specs.Cmp.{Equal-is, first_so, second_so}
use Rattle.std.specs.List.{list_any, list_all}
use Rattle.std.specs.Ordering.{eq_by_cmp}
use Rattle.lemmas.proofs.Ascending.{contains_here, contains_later}
use Rattle.lemmas.proofs.ListTests.{any_found}
use Rattle.lemmas.proofs.Members.{place_of}
use Rattle.task_model.proofs.KnownLemmas.{fact_member}
use Rattle.task_model.proofs.StateLemmas.{atoms_tied}
use Rattle.task_model.specs.AtomOrder.{atom_cmp}
use Rattle.task_model.specs.declared.fact.Atom as fact
use Rattle.task_model.specs.declared.fact.Fact.{Fact}
use Rattle.task_model.specs.Condition.{Condition, Atom, All as every, parts_of}
use Rattle.task_model.specs.Known.{Known, atom_fact, is_fact, is_match, matches_of, objects_of}
use Rattle.task_model.specs.Roles.{role_of}
use Rattle.task_model.specs.State.{Atoms, contains, items}
use Rattle.fact_join.proofs.FactLemmas.{has_object, into_filter, is_match_at}
use Rattle.task_model.specs.Truth.{has_type, atom_at, object_of, objects_at, some_tuple, truth, all_true}
use Rattle.task_model.specs.declared.condition.Term.{Term}
use Rattle.task_model.specs.declared.condition.Term.TheVariants.{Slot, Object}
use Rattle.task_model.specs.declared.domain.Domain.{Domain}
use Rattle.task_model.specs.declared.domain.Role.TheVariants as role
use Rattle.formula_eval.specs.Judged.{some_at, truth_at}
use Rattle.formula_eval.specs.Readable.{is_readable, is_readable_term}
use Rattle.formula_memo.specs.Tries.{ComesAt, IsInFacts, IsTryLead, IsPlaced, IsSameBelow, StandsAmong, is_passed, places_among, place_count}
use Rattle.formula_memo.specs.declared.lead.Among.{Among}
use Rattle.formula_memo.specs.declared.lead.Among.TheVariants.{State, Facts}
use Rattle.formula_memo.specs.declared.lead.Lead.{Lead}
use Rattle.formula_eval.proofs.ReadableLemmas.{fluent_at, static_at}
use borrow.Author.Tests.{ltb-true, ltb-false}

-- ---- slots

pub below_set : (slots : List ℕ) (i o k : ℕ) → k < i
    → slice_index (slice_set slots i o) k ≡ slice_index slots k
below_set [] i o k h = refl
below_set (x ∷ xs) zero o k h = absurd (omega arith)
below_set (x ∷ xs) (suc i) o zero h = refl
below_set (x ∷ xs) (suc i) o (suc k) h = below_set xs i o k (omega arith)

pub here_set : (slots : List ℕ) (i o : ℕ) → i < length slots → slice_index (slice_set slots i o) i ≡ o
here_set [] i o h = absurd (omega arith)
here_set (x ∷ xs) zero o h = refl
here_set (x ∷ xs) (suc i) o h = here_set xs i o (omega arith)

-- some objects that pass leave the slots below as they are
pub tuple_there : (objects : ℕ → List ℕ) (test : List ℕ → Bool) (sorts : List ℕ) (first : ℕ) (slots : List ℕ)
    → some_tuple objects test first sorts slots ≡ true
    → (after : List ℕ) × IsSameBelow first slots after × (test after ≡ true)
tuple_there objects test [] first slots e = (slots, (λ k h. refl), e)
tuple_there objects test (sort ∷ sorts) first slots e =
    let found = any_found (λ o. some_tuple objects test (first + 1) sorts (slice_set slots first o)) (objects sort) e in
    let rest = tuple_there objects test sorts (first + 1) (slice_set slots first found.1) found.3 in
    (rest.0, (λ k h. sym (below_set slots first found.1 k h) ∙ rest.1 k (omega (arith, h))), rest.2)

-- ---- parts

part_true : (atom : ℕ → List ℕ → Bool) (objects : ℕ → List ℕ) (slots : List ℕ) (cs : List Condition)
    (i : ℕ) (c : Condition) → i < length cs → c ≡ get_or cs i c
    → all_true atom objects (parts_of cs) slots ≡ true → truth atom objects c slots ≡ true
part_true atom objects slots [] i c h e t = absurd (omega (arith, h))
part_true atom objects slots (x ∷ xs) zero c h e t =
    subst (λ y. truth atom objects y slots ≡ true) (sym e) (first_so (truth atom objects x slots) _ t)
part_true atom objects slots (x ∷ xs) (suc i) c h e t =
    part_true atom objects slots xs i c (omega (arith, h)) e (second_so (truth atom objects x slots) _ t)

-- a lead of a part is one of all
pub lead_of_part : (domain : Domain) (cs : List Condition) (i : ℕ) (c : Condition) (slot : ℕ) (slots : List ℕ) (lead : Lead)
    → i < length cs → c ≡ get_or cs i c → IsTryLead domain c slot slots lead
    → IsTryLead domain (every (parts_of cs)) slot slots lead
lead_of_part domain cs i c slot slots lead h e is = record {
  placed = is.placed;
  needed = λ known state depth after same t.
      is.needed known state depth after same
      (part_true (atom_at domain known state depth) (objects_of known.facts) after cs i c h e t);
}

-- an atom that can be read names a predicate of the domain, and its terms can be read
pub readable_atom : (domain : Domain) (condition : Condition) (pred : ℕ) (terms : List Term)
    → condition ≡ Atom pred terms → is_readable domain condition ≡ true
    → (pred < length domain.predicates) × (list_all is_readable_term terms ≡ true)
readable_atom domain condition pred terms is readable =
    let whole : is_readable domain (Atom pred terms) ≡ true = ap (is_readable domain) (sym is) ∙ readable in
    let front = first_so (nat_lt pred (length domain.predicates) && nat_le (length terms) 8) (list_all is_readable_term terms) whole in (
      ltb-true pred (length domain.predicates) (first_so (nat_lt pred (length domain.predicates)) (nat_le (length terms) 8) front),
      second_so (nat_lt pred (length domain.predicates) && nat_le (length terms) 8) (list_all is_readable_term terms) whole,
    )

-- ---- atoms of a state, and facts

atom_place : (state : Atoms) (atom : fact.Atom) → contains state atom ≡ true
    → (n : ℕ) × (slice_get (items state) n ≡ Some atom)
atom_place state atom e =
    let found = any_found (eq_by_cmp atom_cmp atom) (items state) (sym (finite.contains_key-keys state atom) ∙ e) in
    (found.0, found.2 ∙ ap Some (sym (atoms_tied atom found.1 ((Equal-is (atom_cmp atom found.1)).0 found.3))))

-- a known atom is at some place of those that have the same object at a place
fact_place : (facts : List Fact) (pred at object : ℕ) (args : List ℕ) → is_fact facts (atom_fact pred args) ≡ true
    → slice_get args at ≡ Some object
    → (n : ℕ) × (slice_get (matches_of facts pred at object) n ≡ Some (atom_fact pred args))
fact_place facts pred at object args known here =
    place_of (matches_of facts pred at object) (atom_fact pred args)
    (into_filter (is_match pred at object) facts (atom_fact pred args) ((fact_member facts (atom_fact pred args)).0 known)
    (is_match_at pred at object args here))

-- an atom of a fluent is a lead
pub lead_of_fluent : (domain : Domain) (condition : Condition) (slot : ℕ) (slots : List ℕ) (lead : Lead)
    → condition ≡ Atom lead.pred lead.terms.now → role_of domain lead.pred ≡ role.Fluent
    → IsPlaced slot lead → lead.among ≡ State → IsTryLead domain condition slot slots lead
lead_of_fluent domain condition slot slots lead is fluent placed among =
    subst (λ x. IsTryLead domain x slot slots lead) (sym is) (record {
      placed = placed;
      needed = λ known state depth after same t.
          let objects = objects_at after lead.terms.now in
          let at = atom_place state (record { pred = lead.pred; args = objects })
          (sym (fluent_at domain known state lead.pred objects depth fluent) ∙ t) in
          (at.0, subst (λ a. StandsAmong known state lead.pred a objects at.0) (sym among) at.1);
    })

-- an atom of a static predicate is a lead by the facts that have the object of one of its terms
module _ (domain : Domain) (condition : Condition) (slot : ℕ) (slots : List ℕ) (before : Lead)
    (is : condition ≡ Atom before.pred before.terms.now) (static : role_of domain before.pred ≡ role.Static)
    (placed : IsPlaced slot before) where
  lead_of_static : (lead : Lead) → IsInFacts slot slots before lead → IsTryLead domain condition slot slots lead
  lead_of_static lead through =
      subst (λ x. IsTryLead domain x slot slots lead) (sym is)
      (subst (IsTryLead domain (Atom before.pred before.terms.now) slot slots) (sym through.is) (record {
        placed = record { at = placed.at; readable = placed.readable };
        needed = λ known state depth after same t.
            fact_place known.facts before.pred through.at through.object (objects_at after before.terms.now)
            (sym (static_at domain known state before.pred (objects_at after before.terms.now) depth static) ∙ t)
            (through.filled after same);
      }))

  pub leads_of_static : (lead : Option Lead) → IfSome lead (IsInFacts slot slots before)
      → IfSome lead (IsTryLead domain condition slot slots)
  leads_of_static None through = through
  leads_of_static (Some lead) through = lead_of_static lead through

-- ---- terms

pub slot_object : (slots : List ℕ) (terms : List Term) (place slot : ℕ) → slice_get terms place ≡ Some (Slot slot)
    → slice_get (objects_at slots terms) place ≡ Some (slice_index slots slot)
slot_object slots [] place slot e = absurd (cc)
slot_object slots (t ∷ ts) zero slot e = by t e
  where
    by : (t : Term) → Some t ≡ Some (Slot slot) → Some (object_of slots t) ≡ Some (slice_index slots slot)
    by (Slot n) e = let s : n ≡ slot = cc in ap (λ m. Some (slice_index slots m)) s
    by (Object o) e = absurd (cc)
slot_object slots (t ∷ ts) (suc place) slot e = slot_object slots ts place slot e

-- ---- what comes

-- each object that makes the condition true comes at some place
module _ (domain : Domain) (known : Known) (state : Atoms) (depth sort slot : ℕ) (rest : List ℕ) (body : Condition) (slots : List ℕ) where
  pub comes : (lead : Option Lead) → IfSome lead (IsTryLead domain body slot slots) → slot < length slots
      → (o : ℕ) → Contains (objects_of known.facts sort) o
      → some_at domain known state depth (slot + 1) rest body (slice_set slots slot o) ≡ true
      → (n : ℕ) × ComesAt known state sort lead slot slots n o
  comes None is inside o m e = place_of (objects_of known.facts sort) o m
  comes (Some lead) is inside o m e =
      let found =
      tuple_there (objects_of known.facts) (truth_at domain known state depth body) rest
      (slot + 1) (slice_set slots slot o) e in
      let after = found.0 in
      let same : IsSameBelow slot slots after =
      λ k h. sym (below_set slots slot o k h) ∙ found.1 k (omega (arith, h)) in
      let at = is.needed known state depth after same found.2 in (
        at.0,
        record {
          after = after;
          same = same;
          here = sym (found.1 slot (omega arith)) ∙ here_set slots slot o inside;
          stands = at.1;
        },
      )

stands_within : (known : Known) (state : Atoms) (pred : ℕ) (among : Among) (objects : List ℕ) (n : ℕ)
    → StandsAmong known state pred among objects n → n < places_among known state pred among
stands_within known state pred State objects n at = slice_get_within (items state) n _ at
stands_within known state pred (Facts place object) objects n at =
    slice_get_within (matches_of known.facts pred place object) n _ at

pub comes_within : (known : Known) (state : Atoms) (sort slot : ℕ) (lead : Option Lead) (slots : List ℕ) (n o : ℕ)
    → ComesAt known state sort lead slot slots n o → n < place_count known state sort lead
comes_within known state sort slot None slots n o at = slice_get_within (objects_of known.facts sort) n o at
comes_within known state sort slot (Some lead) slots n o at =
    stands_within known state lead.pred lead.among (objects_at at.after lead.terms.now) n at.stands

-- the same comes where the slots below are the same
pub comes_moved : (known : Known) (state : Atoms) (sort slot : ℕ) (lead : Option Lead) (slots others : List ℕ) (n o : ℕ)
    → IsSameBelow slot others slots → ComesAt known state sort lead slot slots n o
    → ComesAt known state sort lead slot others n o
comes_moved known state sort slot None slots others n o same at = at
comes_moved known state sort slot (Some lead) slots others n o same at = record {
  after = at.after;
  same = λ k h. same k h ∙ at.same k h;
  here = at.here;
  stands = at.stands;
}

-- slots that are the same where one is set are the same below it
pub below_same : (one two : List ℕ) (slot : ℕ) → slice_set one slot 0 ≡ slice_set two slot 0
    → IsSameBelow slot one two
below_same one two slot e k h =
    sym (below_set one slot 0 k h) ∙ ap (λ xs. slice_index xs k) e ∙ below_set two slot 0 k h

-- an object that passes is found
pub found_there : (test : ℕ → Bool) (objects : List ℕ) (o : ℕ) → Contains objects o → test o ≡ true
    → list_any test objects ≡ true
found_there test objects o m e = list_any_at test objects m.0 o m.1 (ap test m.2 ∙ e)

-- none that is there passes
none_there : (test : ℕ → Bool) (objects : List ℕ) → ((o : ℕ) → Contains objects o → test o ≡ false)
    → list_any test objects ≡ false
none_there test [] none = refl
none_there test (o ∷ os) none =
    λ i. none o (contains_here o os) i || none_there test os (λ p m. none p (contains_later o os p m)) i

-- what is tried and passes is there
pub passed_there : (test : ℕ → Bool) (objects : List ℕ) (tried : Option ℕ) → IfSome tried (Contains objects)
    → is_passed test tried ≡ true → list_any test objects ≡ true
passed_there test objects None there e = absurd (cc)
passed_there test objects (Some o) there e = found_there test objects o there e

module _ (domain : Domain) (known : Known) (state : Atoms) (depth sort slot : ℕ) (rest : List ℕ) (body : Condition) (slots : List ℕ) where
  abbrev pub TriedBefore : Option Lead → ℕ → Type 0
  TriedBefore lead count =
      (n o : ℕ) → n < count → ComesAt known state sort lead slot slots n o → Contains (objects_of known.facts sort) o
      → some_at domain known state depth (slot + 1) rest body (slice_set slots slot o) ≡ false

  -- where all that comes was tried, none passes
  pub none_passes : (lead : Option Lead) (count : ℕ) → IfSome lead (IsTryLead domain body slot slots) → slot < length slots
      → place_count known state sort lead ≤ count → TriedBefore lead count
      → list_any (λ o. some_at domain known state depth (slot + 1) rest body (slice_set slots slot o)) (objects_of known.facts sort) ≡ false
  none_passes lead count is inside enough tried =
      none_there (λ o. some_at domain known state depth (slot + 1) rest body (slice_set slots slot o)) (objects_of known.facts sort)
      (λ o m. by o m (some_at domain known state depth (slot + 1) rest body (slice_set slots slot o)) refl)
    where
      by : (o : ℕ) → Contains (objects_of known.facts sort) o → (b : Bool)
          → some_at domain known state depth (slot + 1) rest body (slice_set slots slot o) ≡ b
          → some_at domain known state depth (slot + 1) rest body (slice_set slots slot o) ≡ false
      by o m true e =
          let at = comes domain known state depth sort slot rest body slots lead is inside o m e in
          let lt = comes_within known state sort slot lead slots at.0 o at.1 in
          tried at.0 o (omega (arith, lt, enough)) at.1 m
      by o m false e = e

  -- one more was tried, and doesn't pass
  pub one_tried : (lead : Option Lead) (place : ℕ) (others : List ℕ) (tried : Option ℕ)
      → IsSameBelow slot others slots
      → ((o : ℕ) → ComesAt known state sort lead slot others place o → Contains (objects_of known.facts sort) o → tried ≡ Some o)
      → is_passed (λ o. some_at domain known state depth (slot + 1) rest body (slice_set slots slot o)) tried ≡ false
      → TriedBefore lead place → TriedBefore lead (place + 1)
  one_tried lead place others tried same comes_so none before n o lt at m =
      elim (nat_lt n place) as (λ b. nat_lt n place ≡ b
      → some_at domain known state depth (slot + 1) rest body (slice_set slots slot o) ≡ false) [
        | true ↦ λ e. before n o (ltb-true n place e) at m
        | false ↦ λ e.
            let le = ltb-false n place e in
            let here : n ≡ place = omega (arith, le, lt) in
            let moved = comes_moved known state sort slot lead slots others place o same
            (subst (λ k. ComesAt known state sort lead slot slots k o) here at) in
            subst (λ t. is_passed (λ p. some_at domain known state depth (slot + 1) rest body (slice_set slots slot p)) t ≡ false)
            (comes_so o moved m) none
      ] refl

pub placed_lead : (domain : Domain) (body : Condition) (slot : ℕ) (slots : List ℕ) (lead : Option Lead)
    → IfSome lead (IsTryLead domain body slot slots) → IfSome lead (IsPlaced slot)
placed_lead domain body slot slots None is = is
placed_lead domain body slot slots (Some lead) is = is.placed

pub term_object : (after : List ℕ) (terms : List Term) (i : ℕ) (t : Term) → i < length terms
    → t ≡ get_or terms i t → slice_get (objects_at after terms) i ≡ Some (object_of after t)
term_object after [] i t h e = absurd (omega (arith, h))
term_object after (x ∷ xs) zero t h e = ap (λ y. Some (object_of after y)) (sym e)
term_object after (x ∷ xs) (suc i) t h e = term_object after xs i t (omega (arith, h)) e

-- ---- what is tried

pub typed_there : (known : Known) (sort : ℕ) (tried : Option ℕ)
    → IfSome tried (λ o. has_type known o sort ≡ true)
    → IfSome tried (Contains (objects_of known.facts sort))
typed_there known sort None typed = typed
typed_there known sort (Some o) typed = (has_object known sort o).0 typed

pub placed_atom : (atoms : List fact.Atom) (place : ℕ) (x y : fact.Atom) → x ≡ get_or atoms place x
    → slice_get atoms place ≡ Some y → x ≡ y
placed_atom [] place x y e at = absurd (cc)
placed_atom (a ∷ rest) zero x y e at = e ∙ same_Some a y at
placed_atom (a ∷ rest) (suc place) x y e at = placed_atom rest place x y e at

pub placed_fact : (facts : List Fact) (place : ℕ) (x y : Fact) → slice_get facts place ≡ Some x
    → slice_get facts place ≡ Some y → x ≡ y
placed_fact facts place x y here at = same_Some x y (sym here ∙ at)
