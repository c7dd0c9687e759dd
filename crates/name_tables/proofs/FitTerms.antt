-- Terms, atoms and function terms without faults are fit.
use Rattle.std.proofs.Common.{◌≡◌, ℕ, zero, suc, ◌+◌, ◌<◌, true, false, ◌||◌, ◌==◌, nat_lt, List, [], ◌∷◌, ◌++◌, length, refl, sym, ap, ◌∙◌, subst, arith, Option, Some, None, slice_get, unwrap_or, lt-ltb, eqb-true, eq-eqb}
use Rattle.std.specs.List.{list_any, list_all}
use Rattle.std.proofs.lemmas.Bool.{and_from, ltb-true, ltb-false}
use Rattle.lemmas.proofs.Numbers.{in_numbers}
use Rattle.lemmas.proofs.Members.{append_nil_first, append_nil_second}
use Rattle.lemmas.proofs.ListTests.{any_append_left, any_append_right}
use Rattle.sexpr_text.specs.Trees.{Trees, nothing, word, list}
use Rattle.task_model.specs.Fit.{has_arity, is_fit_application, is_fit_term}
use Rattle.lemmas.specs.Lists.{numbers_from}
use Rattle.task_model.specs.declared.domain.Domain.{Domain}
use Rattle.task_model.specs.declared.domain.Signature.{Signature}
use Rattle.form_reader.specs.declared.fault.InputKind.TheVariants.{Unknown, Arity}
use Rattle.form_reader.specs.declared.words.WordSort.{WordSort}
use Rattle.form_reader.specs.Faults.{shape}
use Rattle.form_reader.specs.Rows.{application_faults, head_of, row_faults, tail_of}
use Rattle.form_reader.specs.Words.{is_of}
use Rattle.name_tables.specs.Declarations.{signature_list}
use Rattle.name_tables.specs.Names.{Signed, has_name, last_place, table_place}
use Rattle.name_tables.specs.Terms.{application_names, declared_place, term_by, term_of, terms_names, terms_of, use_names, width}
use Rattle.name_tables.specs.Variables.{unless}
use Rattle.name_tables.specs.Vocabulary.{arity_at, arity_of}
use Rattle.name_tables.specs.declared.vocabulary.Vocabulary.{Vocabulary}
use Rattle.name_tables.proofs.NoFaultLemmas.{chosen, met, some_fault}
use Rattle.name_tables.proofs.NamesLemmas.{last_none, last_within, place_there, place_within}

-- The domain has these names at their places, and there are so many objects.
pub record Knows (v : Vocabulary) (domain : Domain) (objects : ℕ) : Type 0 where
  pub predicates : domain.predicates ≡ signature_list v.predicates.names v.predicates.arities
  pub functions : domain.functions ≡ signature_list v.functions.names v.functions.arities
  pub sorts : length domain.sorts ≡ length v.sorts
  pub typed : 0 < length v.sorts
  pub objects_long : objects ≡ length v.objects

-- each slot before this one has a value
abbrev pub AreFilled : List ℕ → ℕ → Type 0
AreFilled filled size = (n : ℕ) → n < size → list_any (λ slot. slot == n) filled ≡ true

pub filled_first : (size : ℕ) → AreFilled (numbers_from 0 size) size
filled_first size n lt = in_numbers 0 size n (omega arith) (omega arith)

pub filled_more : (filled : List ℕ) (size more : ℕ) → AreFilled filled size
    → AreFilled (numbers_from size more ++ filled) (size + more)
filled_more filled size more old n lt =
    elim (nat_lt n size) as (λ b. nat_lt n size ≡ b → list_any (λ slot. slot == n) (numbers_from size more ++ filled) ≡ true) [
      | true ↦ λ t. any_append_right (λ slot. slot == n) (numbers_from size more) filled (old n (ltb-true n size t))
      | false ↦ λ f. any_append_left (λ slot. slot == n) (numbers_from size more) filled (in_numbers size more n (ltb-false n size f) lt)
    ] refl

-- ---- terms

module _ (objects scope : List (List ℕ)) (filled : List ℕ) (slots : AreFilled filled (length scope)) where
  term_fits : (text : List ℕ) (o : Option ℕ) → last_place 0 None text scope ≡ o
      → (has_name text scope || has_name text objects) ≡ true
      → is_fit_term (length objects) filled (term_by o (table_place text objects)) ≡ true
  term_fits text (Some slot) e t = slots slot (last_within 0 None text scope (length scope) (λ k none. absurd (cc)) (omega arith) slot e)
  term_fits text None e t =
      let absent : has_name text scope ≡ false = (last_none 0 None text scope e).1 in
      let there : has_name text objects ≡ true = subst (λ b. (b || has_name text objects) ≡ true) absent t in
      let found = place_there text objects there in
      lt-ltb (unwrap_or (table_place text objects) 0) (length objects)
      (subst (λ n. n < length objects) (ap (λ o. unwrap_or o 0) (sym found.1)) (place_within text objects found.0 found.1))

  pub terms_fit : (ts : Trees) → terms_names objects scope ts ≡ []
      → list_all (is_fit_term (length objects) filled) (terms_of objects scope ts) ≡ true
  terms_fit nothing e = refl
  terms_fit (word text at rest) e =
      and_from (is_fit_term (length objects) filled (term_of objects scope text))
      (list_all (is_fit_term (length objects) filled) (terms_of objects scope rest))
      (term_fits text (last_place 0 None text scope) refl
      (met (has_name text scope || has_name text objects) Unknown at
      (append_nil_first (unless (has_name text scope || has_name text objects) Unknown at) (terms_names objects scope rest) e)))
      (terms_fit rest
      (append_nil_second (unless (has_name text scope || has_name text objects) Unknown at) (terms_names objects scope rest) e))
  terms_fit (list items at rest) e = terms_fit rest e

-- a row of words has a term for each
pub terms_long : (objects scope : List (List ℕ)) (sort : WordSort) (ts : Trees)
    → row_faults sort ts ≡ [] → length (terms_of objects scope ts) ≡ width ts
terms_long objects scope sort nothing e = refl
terms_long objects scope sort (word text at rest) e =
    let parts = chosen (is_of sort text) (row_faults sort rest) (shape at) [] e in
    ap suc (terms_long objects scope sort rest parts.1) ∙ omega arith
terms_long objects scope sort (list items at rest) e = absurd (some_fault (shape at) [] e)

-- ---- declared names

signature_at : (ns : List (List ℕ)) (as' : List ℕ) (p : ℕ) (a : ℕ) → p < length ns
    → slice_get as' p ≡ Some a
    → (s : Signature) × (slice_get (signature_list ns as') p ≡ Some s) × (s.arity ≡ a)
signature_at [] as' p a lt e = absurd (omega arith)
signature_at (n ∷ ns) [] p a lt e = absurd (cc)
signature_at (n ∷ ns) (b ∷ bs) zero a lt e = (record { name = n; arity = b }, refl, cc)
signature_at (n ∷ ns) (b ∷ bs) (suc p) a lt e = signature_at ns bs p a (omega arith) e

at_some : (s : Signed) (o : Option ℕ) (a : ℕ) → arity_at s o ≡ Some a
    → (p : ℕ) × (o ≡ Some p) × (slice_get s.arities p ≡ Some a)
at_some s None a e = absurd (cc)
at_some s (Some p) a e = (p, refl, e)

-- a name that is declared with so many arguments has its place
pub arity_there : (s : Signed) (text : List ℕ) (a : ℕ) → arity_of s text ≡ Some a
    → has_arity (signature_list s.names s.arities) (declared_place s text) a ≡ true
arity_there s text a e =
    let found = at_some s (table_place text s.names) a e in
    let there = signature_at s.names s.arities found.0 a (place_within text s.names found.0 found.1) found.2 in
    rw (found.1, there.1) (eq-eqb there.0.arity a there.2)

used : (o : Option ℕ) (count at place : ℕ) → use_names o count at place ≡ [] → o ≡ Some count
used None count at place e = absurd (cc)
used (Some arity) count at place e =
    ap Some (eqb-true arity count (met (arity == count) Arity place e))

pub use_there : (s : Signed) (text : List ℕ) (count at place : ℕ) → use_names (arity_of s text) count at place ≡ []
    → has_arity (signature_list s.names s.arities) (declared_place s text) count ≡ true
use_there s text count at place e =
    arity_there s text count (used (arity_of s text) count at place e)

-- ---- atoms and function terms

pub application_fits : (s : Signed) (objects scope : List (List ℕ)) (filled : List ℕ)
    → AreFilled filled (length scope) → (head args : WordSort) (place : ℕ) (ts : Trees)
    → application_faults head args place ts ≡ [] → application_names s objects scope place ts ≡ []
    → is_fit_application (signature_list s.names s.arities) (length objects) filled
    (declared_place s (head_of ts)) (terms_of objects scope (tail_of ts))
    ≡ true
application_fits s objects scope filled slots head args place nothing f e =
    absurd (some_fault (shape place) [] f)
application_fits s objects scope filled slots head args place (list items at rest) f e =
    absurd (some_fault (shape at) [] f)
application_fits s objects scope filled slots head args place (word text at rest) f e =
    let used_names = use_names (arity_of s text) (width rest) at place in
    let row = (chosen (is_of head text) (row_faults args rest) (shape at) [] f).1 in
    let declared = use_there s text (width rest) at place (append_nil_first used_names (terms_names objects scope rest) e) in
    and_from (has_arity (signature_list s.names s.arities) (declared_place s text) (length (terms_of objects scope rest)))
    (list_all (is_fit_term (length objects) filled) (terms_of objects scope rest))
    (subst (λ n. has_arity (signature_list s.names s.arities) (declared_place s text) n ≡ true)
    (sym (terms_long objects scope args rest row)) declared)
    (terms_fit objects scope filled slots rest (append_nil_second used_names (terms_names objects scope rest) e))
