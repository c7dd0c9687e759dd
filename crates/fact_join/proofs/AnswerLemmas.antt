-- The answers to a query, found by an object or by a fact.
use Rattle.std.proofs.Common.{◌≡◌, ℕ, zero, suc, ◌<◌, ◌≤◌, Bool, true, List, [], ◌∷◌, ◌++◌, length, take, refl, sym, ap, subst, ◌∙◌, arith, Some, None, slice_get, slice_index, Contains, ◌↔◌, nat_le, nat_lt}
use Rattle.std.proofs.lemmas.Bool.{and_from}
use Rattle.std.proofs.lemmas.Bool.Decides.{nat_tests}
use Rattle.std.specs.Cmp.{first_so, second_so}
use Rattle.std.specs.List.{list_all}
use Rattle.task_model.proofs.KnownLemmas.{fact_member, match_is}
use Rattle.task_model.proofs.TruthLemmas.{have_types-length}
use Rattle.lemmas.proofs.ListTests.{all_at, get_there}
use Rattle.lemmas.proofs.Members.{place_of}
use Rattle.formula_eval.specs.Readable.{is_readable_term}
use Rattle.task_model.specs.Known.{Known, atom_fact, objects_of, matches_of, is_match}
use Rattle.task_model.specs.Truth.{slots_of, objects_at, has_type, have_types}
use Rattle.task_model.specs.declared.condition.Term.{Term}
use Rattle.task_model.specs.declared.condition.Term.TheVariants.{Slot, Object}
use Rattle.task_model.specs.declared.fact.Fact.{Fact}
use Rattle.fact_join.proofs.AddingLemmas.{Among}
use Rattle.fact_join.proofs.FactLemmas.{from_filter, into_filter, has_object, is_match_at}
use Rattle.fact_join.specs.Answers.{IsAnswer, IsAnswerBy, is_known, is_term_of, is_atom_over}
use Rattle.fact_join.specs.Leads.{IsLead}
use Rattle.fact_join.specs.Partials.{Agrees, AreFixed}
use Rattle.fact_join.specs.declared.lead.Lead.{Lead}
use Rattle.fact_join.specs.declared.partial.Partial.{Partial}
use Rattle.fact_join.specs.declared.query.QueryAtom.{QueryAtom}

-- the tuple has this object at the slot, and is an answer
abbrev pub IsAnswerAt : Known → List ℕ → (List ℕ → Bool) → Partial → List QueryAtom → ℕ → ℕ → List ℕ → Type 0
IsAnswerAt known sorts wants partial atoms slot object tuple =
    (slice_index (slots_of tuple) slot ≡ object) × IsAnswer known sorts wants partial atoms tuple

-- ---- slots of a tuple

index_front : (xs ys : List ℕ) (k x : ℕ) → slice_get xs k ≡ Some x → slice_index (xs ++ ys) k ≡ x
index_front [] ys k x e = absurd (cc)
index_front (y ∷ xs) ys zero x e = let same : y ≡ x = cc in same
index_front (y ∷ xs) ys (suc k) x e = index_front xs ys k x e

pub slot_is : (tuple : List ℕ) (k x : ℕ) → slice_get tuple k ≡ Some x
    → slice_index (slots_of tuple) k ≡ x
slot_is tuple k x e = index_front tuple _ k x e

typed_at : (known : Known) (tuple sorts : List ℕ) (k sort : ℕ) → have_types known tuple sorts ≡ true
    → slice_get sorts k ≡ Some sort
    → (x : ℕ) × (slice_get tuple k ≡ Some x) × (has_type known x sort ≡ true)
typed_at known tuple [] k sort e at = absurd (cc)
typed_at known [] (s ∷ ss) k sort e at = absurd (cc)
typed_at known (o ∷ os) (s ∷ ss) zero sort e at =
    let same : s ≡ sort = cc in
    (o, refl, ap (has_type known o) (sym same) ∙ first_so (has_type known o s) (have_types known os ss) e)
typed_at known (o ∷ os) (s ∷ ss) (suc k) sort e at =
    typed_at known os ss k sort (second_so (has_type known o s) (have_types known os ss) e) at

-- ---- another partial tuple

module _ (known : Known) (sorts : List ℕ) (wants : List ℕ → Bool) where
  -- where partial tuples agree with the same, the answers are the same
  pub answer_within : (first second : Partial) (atoms : List QueryAtom) (tuple : List ℕ)
      → Agrees second (slots_of tuple)
      → IsAnswer known sorts wants first atoms tuple → IsAnswer known sorts wants second atoms tuple
  answer_within first second atoms tuple agrees a = record {
    agrees = agrees;
    types = a.types;
    known_atoms = a.known_atoms;
    wanted = a.wanted;
  }

  -- ---- by an object

  pub at_object : (partial more : Partial) (atoms : List QueryAtom) (slot object : ℕ)
      → ((slots : List ℕ) → Agrees more slots ↔ (Agrees partial slots × (slice_index slots slot ≡ object)))
      → (tuple : List ℕ)
      → IsAnswer known sorts wants more atoms tuple ↔ IsAnswerAt known sorts wants partial atoms slot object tuple
  at_object partial more atoms slot object narrows tuple = (
    λ a. let r = (narrows (slots_of tuple)).0 a.agrees in (r.1, answer_within more partial atoms tuple r.0 a),
    λ (at, a). answer_within partial more atoms tuple ((narrows (slots_of tuple)).1 (a.agrees, at)) a,
  )

  pub by_objects : (partial : Partial) (atoms : List QueryAtom) (slot sort : ℕ)
      → slice_get sorts slot ≡ Some sort → (tuple : List ℕ)
      → IsAnswer known sorts wants partial atoms tuple
      ↔ Among (IsAnswerAt known sorts wants partial atoms slot) (objects_of known.facts sort) tuple
  by_objects partial atoms slot sort at tuple = (
    λ a.
        let r = typed_at known tuple sorts slot sort a.types at in
        (r.0, (has_object known sort r.0).0 r.2, (slot_is tuple slot r.0 r.1, a)),
    λ (object, m, (e, a)). a,
  )

  -- ---- by a fact

  pub at_fact : (partial left : Partial) (terms : List Term) (atoms : List QueryAtom) (fact : Fact)
      → ((slots : List ℕ) → Agrees left slots ↔ (Agrees partial slots × (objects_at slots terms ≡ fact.args)))
      → (tuple : List ℕ)
      → IsAnswer known sorts wants left atoms tuple ↔ IsAnswerBy known sorts wants partial terms atoms fact tuple
  at_fact partial left terms atoms fact narrows tuple = (
    λ a. let r = (narrows (slots_of tuple)).0 a.agrees in (r.1, answer_within left partial atoms tuple r.0 a),
    λ (is, a). answer_within partial left atoms tuple ((narrows (slots_of tuple)).1 (a.agrees, is)) a,
  )

  -- the first atom is known, and the tuple answers the others
  pub answer_cons : (partial : Partial) (atom : QueryAtom) (atoms : List QueryAtom) (tuple : List ℕ)
      → IsAnswer known sorts wants partial (atom ∷ atoms) tuple
      ↔ ((is_known known (slots_of tuple) atom ≡ true) × IsAnswer known sorts wants partial atoms tuple)
  answer_cons partial atom atoms tuple = (
    λ a. (
      first_so (is_known known (slots_of tuple) atom) (list_all (is_known known (slots_of tuple)) atoms) a.known_atoms,
      record {
        agrees = a.agrees;
        types = a.types;
        known_atoms = second_so (is_known known (slots_of tuple) atom) (list_all (is_known known (slots_of tuple)) atoms) a.known_atoms;
        wanted = a.wanted;
      },
    ),
    λ (k, a). record {
      agrees = a.agrees;
      types = a.types;
      known_atoms = and_from (is_known known (slots_of tuple) atom) (list_all (is_known known (slots_of tuple)) atoms) k a.known_atoms;
      wanted = a.wanted;
    },
  )

  pub by_facts : (partial : Partial) (atom : QueryAtom) (atoms : List QueryAtom) (lead : Lead)
      → IsLead known partial atom lead → (tuple : List ℕ)
      → IsAnswer known sorts wants partial (atom ∷ atoms) tuple
      ↔ Among (IsAnswerBy known sorts wants partial atom.terms.now atoms) (matches_of known.facts atom.pred lead.place lead.object)
      tuple
  by_facts partial atom atoms lead leads tuple = (
    λ a.
        let r = (answer_cons partial atom atoms tuple).0 a in
        let args = objects_at (slots_of tuple) atom.terms.now in
        let there = (fact_member known.facts (atom_fact atom.pred args)).0 r.0 in
        let matches = is_match_at atom.pred lead.place lead.object args (leads.fixed (slots_of tuple) a.agrees) in (
          atom_fact atom.pred args,
          into_filter (is_match atom.pred lead.place lead.object) known.facts (atom_fact atom.pred args) there
              matches,
          (refl, r.1),
        ),
    λ (fact, m, (is, a)).
        let r = from_filter (is_match atom.pred lead.place lead.object) known.facts fact m in
        let same : fact ≡ atom_fact atom.pred (objects_at (slots_of tuple) atom.terms.now) =
        match_is atom.pred lead.place lead.object fact r.1 ∙ ap (atom_fact atom.pred) (sym is) in
        (answer_cons partial atom atoms tuple).1 ((fact_member known.facts _).1 (subst (Contains known.facts) same r.0), a),
  )

  -- two facts by which one tuple is found are the same
  pub facts_apart : (partial : Partial) (atom : QueryAtom) (atoms : List QueryAtom) (place object : ℕ) (f g : Fact) (tuple : List ℕ)
      → Contains (matches_of known.facts atom.pred place object) f → Contains (matches_of known.facts atom.pred place object) g
      → IsAnswerBy known sorts wants partial atom.terms.now atoms f tuple
      → IsAnswerBy known sorts wants partial atom.terms.now atoms g tuple → f ≡ g
  facts_apart partial atom atoms place object f g tuple m n (is_f, a) (is_g, b) =
      let r = from_filter (is_match atom.pred place object) known.facts f m in
      let s = from_filter (is_match atom.pred place object) known.facts g n in
      match_is atom.pred place object f r.1 ∙ ap (atom_fact atom.pred) (sym is_f ∙ is_g) ∙ sym (match_is atom.pred place object g s.1)

  -- ---- the tuple of which each object is fixed

  pub only_answer : (partial : Partial) (objects tuple : List ℕ) → length sorts ≤ 16 → AreFixed partial (length sorts)
      → ((slot object : ℕ) → slot < 16 → slice_get partial.slots slot ≡ Some (Some object) → slice_get objects slot ≡ Some object)
      → IsAnswer known sorts wants partial [] tuple → take (length sorts) objects ≡ tuple
  only_answer partial objects tuple narrow fixed are a =
      same_front (length sorts) objects tuple long each
    where
      long : length tuple ≡ length sorts
      long = have_types-length known tuple sorts a.types

      each : (k : ℕ) → k < length sorts
          → (x : ℕ) × (slice_get objects k ≡ Some x) × (slice_get tuple k ≡ Some x)
      each k lt =
          let r = fixed k lt in
          let below : k < 16 = omega (arith, lt, narrow) in
          let p = get_there tuple k (omega (arith, lt, long)) in
          (p.0, are k r.0 below r.1 ∙ ap Some (sym (a.agrees k r.0 below r.1) ∙ slot_is tuple k p.0 p.1), p.1)

      same_front : (n : ℕ) (xs ys : List ℕ) → length ys ≡ n
          → ((k : ℕ) → k < n → (x : ℕ) × (slice_get xs k ≡ Some x) × (slice_get ys k ≡ Some x)) → take n xs ≡ ys
      same_front zero xs [] e at = refl
      same_front zero xs (y ∷ ys) e at = absurd (omega (arith, e))
      same_front (suc n) xs [] e at = absurd (omega (arith, e))
      same_front (suc n) [] (y ∷ ys) e at = let r = at 0 (omega arith) in let none : None ≡ Some r.0 = r.1 in absurd (cc)
      same_front (suc n) (x ∷ xs) (y ∷ ys) e at =
          let r = at 0 (omega arith) in
          let one : x ≡ y = cc (r.1, r.2) in
          let rest = same_front n xs ys (omega (arith, e)) (λ k lt. at (suc k) (omega (arith, lt))) in
          λ i. one i ∷ rest i

-- ---- the terms of atoms

pub terms_at : (width : ℕ) (atoms : List QueryAtom) (place : ℕ) (atom : QueryAtom)
    → list_all (is_atom_over width) atoms ≡ true → slice_get atoms place ≡ Some atom
    → list_all (is_term_of width) atom.terms.now ≡ true
terms_at width atoms place atom e at =
    second_so (nat_le (length atom.terms.now) 8) (list_all (is_term_of width) atom.terms.now)
    (all_at (is_atom_over width) atoms place atom e at)

pub atom_terms : (width : ℕ) (atom : QueryAtom) (atoms : List QueryAtom)
    → list_all (is_atom_over width) (atom ∷ atoms) ≡ true
    → list_all (is_term_of width) atom.terms.now ≡ true
atom_terms width atom atoms e = terms_at width (atom ∷ atoms) 0 atom e refl

pub readable_terms : (width : ℕ) (terms : List Term) → width ≤ 16
    → list_all (is_term_of width) terms ≡ true
    → list_all is_readable_term terms ≡ true
readable_terms width [] le e = refl
readable_terms width (term ∷ terms) le e =
    and_from (is_readable_term term) (list_all is_readable_term terms)
    (one term (first_so (is_term_of width term) (list_all (is_term_of width) terms) e))
    (readable_terms width terms le (second_so (is_term_of width term) (list_all (is_term_of width) terms) e))
  where
    one : (t : Term) → is_term_of width t ≡ true → is_readable_term t ≡ true
    one (Slot n) f = grind (arith, nat_tests, le, f)
    one (Object o) f = refl

pub slot_below : (width : ℕ) (terms : List Term) (slot : ℕ)
    → list_all (is_term_of width) terms ≡ true → Contains terms (Slot slot) → slot < width
slot_below width terms slot e m =
    let p = place_of terms (Slot slot) m in
    let t : nat_lt slot width ≡ true = all_at (is_term_of width) terms p.0 (Slot slot) e p.1 in
    grind (arith, nat_tests, t)
