-- Values that were given: the first value of a term stays.
use Rattle.std.proofs.Common.{◌≡◌, ℕ, zero, suc, ◌+◌, ◌<◌, Bool, true, false, cond, ◌==◌, not, List, [], ◌∷◌, ◌++◌, length, length-append, refl, sym, ap, ◌∙◌, inl, inr, Option, Some, None, slice_get, unwrap_or, eqb-true, arith}
use Rattle.std.specs.Str.{bytes_eq}
use Rattle.std.proofs.lemmas.Bool.{cases_Bool, cond-true, cond-false, not-true, not-false}
use Rattle.std.proofs.lemmas.Slice.Eq.{bytes_eq-Decides}
use Rattle.lemmas.proofs.Members.{push_cases, get_append}
use Rattle.sexpr_text.specs.Trees.{Trees}
use Rattle.form_reader.specs.declared.fault.InputKind.TheVariants.{Duplicate}
use Rattle.name_tables.specs.Names.{has_name, table_place}
use Rattle.name_tables.specs.Variables.{unless}
use Rattle.name_tables.proofs.NoFaultLemmas.{met}
use Rattle.name_tables.proofs.NamesFreshLemmas.{get_middle}
use Rattle.std.proofs.lemmas.Option.{slice_get_within}
use Rattle.std.proofs.lemmas.Map.Keys.{any_passes_from_place}
use Rattle.name_tables.proofs.NamesUseLemmas.{place_holds, place_none, place_push, place_some}
use Rattle.problem_reader.specs.Names.{is_worth}
use Rattle.problem_reader.specs.Values.{Given, differs, spelled_term, term_in, given_value, value_in, problem_value_names, value_of_term, value_put, with_term_value}

-- as many terms as values
abbrev pub IsEven : Given → Type 0
IsEven g = length g.terms ≡ length g.values

value_by : (g : Given) (k : List ℕ) (o : Option ℕ) (n : ℕ) → given_value g o ≡ Some n
    → (p : ℕ) × (o ≡ Some p) × (slice_get g.values p ≡ Some n)
value_by g k None n e = absurd (cc)
value_by g k (Some p) n e = (p, refl, e)

known_name : (g : Given) (k : List ℕ) (n : ℕ) → value_of_term g k ≡ Some n → has_name k g.terms ≡ true
known_name g k n e =
    elim (cases_Bool (has_name k g.terms)) [
      | inl known ↦ known
      | inr absent ↦
          let none : given_value g None ≡ Some n = ap (given_value g) (sym (place_none k g.terms absent)) ∙ e in
          absurd (cc)
    ]

abbrev pushed : Given → List ℕ → ℕ → Given
pushed g t x = record { terms = g.terms ++ t ∷ []; values = g.values ++ x ∷ [] }

kept_pushed : (g : Given) (k t : List ℕ) (x n : ℕ) → value_of_term g k ≡ Some n
    → value_of_term (pushed g t x) k ≡ Some n
kept_pushed g k t x n e =
    let at = value_by g k (table_place k g.terms) n e in
    ap (given_value (pushed g t x)) (place_push k t g.terms (known_name g k n e) ∙ at.1) ∙ get_append g.values (x ∷ []) at.0 n at.2

kept_if : (b : Bool) (g h : Given) (k : List ℕ) (n : ℕ) → value_of_term g k ≡ Some n
    → value_of_term h k ≡ Some n → value_of_term (cond b g h) k ≡ Some n
kept_if true g h k n e f = e
kept_if false g h k n e f = f

kept_with : (g : Given) (k t : List ℕ) (x n : ℕ) → value_of_term g k ≡ Some n
    → value_of_term (with_term_value g t x) k ≡ Some n
kept_with g k t x n e =
    kept_if (has_name t g.terms) g (pushed g t x) k n e (kept_pushed g k t x n e)

-- what was given stays
pub kept : (g : Given) (items : Trees) (k : List ℕ) (n : ℕ) → value_of_term g k ≡ Some n
    → value_of_term (value_put g items) k ≡ Some n
kept g items k n e =
    kept_if (is_worth items) (with_term_value g (spelled_term (term_in items)) (value_in items)) g k n
    (kept_with g k (spelled_term (term_in items)) (value_in items) n e) e

even_if : (b : Bool) (g h : Given) → IsEven g → IsEven h → IsEven (cond b g h)
even_if true g h e f = e
even_if false g h e f = f

even_pushed : (g : Given) (t : List ℕ) (x : ℕ) → IsEven g → IsEven (pushed g t x)
even_pushed g t x e =
    length-append g.terms (t ∷ []) ∙ ap (λ m. m + 1) e ∙ sym (length-append g.values (x ∷ []))

pub even_put : (g : Given) (items : Trees) → IsEven g → IsEven (value_put g items)
even_put g items e =
    even_if (is_worth items) (with_term_value g (spelled_term (term_in items)) (value_in items)) g
    (even_if (has_name (spelled_term (term_in items)) g.terms) g
    (pushed g (spelled_term (term_in items)) (value_in items)) e (even_pushed g (spelled_term (term_in items)) (value_in items) e)) e

-- ---- a new value

-- at the end of both lists
pushed_value : (g : Given) (t : List ℕ) (x : ℕ) → IsEven g → has_name t g.terms ≡ false
    → value_of_term (pushed g t x) t ≡ Some x
pushed_value g t x even none =
    let there : has_name t (g.terms ++ t ∷ []) ≡ true =
    any_passes_from_place (bytes_eq t) (g.terms ++ t ∷ []) (length g.terms) t (get_middle g.terms t [])
    ((bytes_eq-Decides t t).1 refl) in
    let q : ℕ = unwrap_or (table_place t (g.terms ++ t ∷ [])) 0 in
    let at_end : q ≡ length g.terms =
    elim (push_cases g.terms t q t (place_holds t (g.terms ++ t ∷ []) there)) [
      | inl h ↦ absurd
          (let known : has_name t g.terms ≡ true = any_passes_from_place (bytes_eq t) g.terms q t h ((bytes_eq-Decides t t).1 refl) in cc)
      | inr h ↦ h.0
    ] in
    ap (given_value (pushed g t x)) (place_some t (g.terms ++ t ∷ []) there) ∙ ap (slice_get (g.values ++ x ∷ [])) (at_end ∙ even)
    ∙ get_middle g.values x []

same_by : (o : Option ℕ) (m x : ℕ) → o ≡ Some m → not (differs o x) ≡ true → o ≡ Some x
same_by None m x e f = absurd (cc)
same_by (Some y) m x e f = ap Some (eqb-true y x (not-false (y == x) (not-true (not (y == x)) f)))

-- a value that isn't another one of its term
pub differs_not : (g : Given) (k : List ℕ) (n x : ℕ) → value_of_term g k ≡ Some n
    → not (differs (value_of_term g k) x) ≡ true → n ≡ x
differs_not g k n x e f =
    let both : Some n ≡ Some x = sym e ∙ same_by (value_of_term g k) n x e f in
    cc

there_value : (g : Given) (k : List ℕ) → IsEven g → has_name k g.terms ≡ true
    → (n : ℕ) × (value_of_term g k ≡ Some n)
there_value g k even known =
    let p : ℕ = unwrap_or (table_place k g.terms) 0 in
    let inside : p < length g.terms = slice_get_within g.terms p k (place_holds k g.terms known) in
    let found = at g.values p (omega (arith, inside, even)) in
    (found.0, ap (given_value g) (place_some k g.terms known) ∙ found.1)
  where
    at : (xs : List ℕ) (i : ℕ) → i < length xs → (x : ℕ) × (slice_get xs i ≡ Some x)
    at [] i h = absurd (omega arith)
    at (x ∷ xs) zero h = (x, refl)
    at (x ∷ xs) (suc i) h = at xs i (omega arith)

gets_with : (g : Given) (t : List ℕ) (x : ℕ) → IsEven g → not (differs (value_of_term g t) x) ≡ true
    → value_of_term (with_term_value g t x) t ≡ Some x
gets_with g t x even fine =
    elim (cases_Bool (has_name t g.terms)) [
      | inl known ↦
          let old = there_value g t even known in
          ap (λ h. value_of_term h t) (cond-true (has_name t g.terms) g (pushed g t x) known) ∙ old.1
          ∙ ap Some (differs_not g t old.0 x old.1 fine)
      | inr absent ↦ ap (λ h. value_of_term h t) (cond-false (has_name t g.terms) g (pushed g t x) absent) ∙ pushed_value g t x even absent
    ]

-- behind a list that gives a value, without faults, it is the term's value
pub gets : (g : Given) (place : ℕ) (items : Trees) → IsEven g → is_worth items ≡ true
    → not (differs (value_of_term g (spelled_term (term_in items))) (value_in items)) ≡ true
    → value_of_term (value_put g items) (spelled_term (term_in items)) ≡ Some (value_in items)
gets g place items even is fine =
    ap (λ h. value_of_term h (spelled_term (term_in items)))
    (cond-true (is_worth items) (with_term_value g (spelled_term (term_in items)) (value_in items)) g is)
    ∙ gets_with g (spelled_term (term_in items)) (value_in items) even fine

-- the test that a list without faults passes
pub value_clean : (g : Given) (place : ℕ) (items : Trees) → is_worth items ≡ true
    → problem_value_names g place items ≡ []
    → not (differs (value_of_term g (spelled_term (term_in items))) (value_in items)) ≡ true
value_clean g place items is e =
    let fault = unless (not (differs (value_of_term g (spelled_term (term_in items))) (value_in items))) Duplicate place in
    met (not (differs (value_of_term g (spelled_term (term_in items))) (value_in items))) Duplicate place
    (sym (cond-true (is_worth items) fault [] is) ∙ e)
