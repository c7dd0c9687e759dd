-- The names of placeholders are their own.
use Rattle.std.proofs.Common.{◌≡◌, ℕ, zero, suc, ◌+◌, ◌<◌, ◌≤◌, ◌^◌, arith, inl, inr, true, List, [], ◌∷◌, ◌++◌, length, refl, sym, ap, subst, ◌∙◌, Some, slice_get, Contains, All, append_assoc}
use Rattle.std.proofs.lemmas.Fmt.{digits_decimal, decimal_injective}
use Rattle.std.proofs.lemmas.List.Elements.{Contains-append_cases, All-contains}
use Rattle.std.specs.Cmp.{first_so, second_so}
use Rattle.std.specs.Char.{is_ascii_digit}
use Rattle.std.specs.Fmt.{decimal}
use Rattle.std.specs.List.{list_all}
use Rattle.lemmas.proofs.Ascending.{contains_none, contains_cases}
use Rattle.lemmas.proofs.Digits.{own}
use Rattle.lemmas.proofs.Distinct.{distinct_append, distinct_cons}
use Rattle.lemmas.proofs.Members.{distinct_nil}
use Rattle.lemmas.specs.Lists.{AreDistinct}
use Rattle.task_model.specs.Dreams.{SupposedEntry, placeholder, placeholders, entry_names}
use Rattle.optimistic_set.specs.Dreamable.{AreReal}

-- ---- numbers between `@`, `.` and the end

abbrev AreDigits : List ℕ → Type 0
AreDigits ds = list_all is_ascii_digit ds ≡ true

-- what stands before the first dot, and what behind it
split : (xs ys more others : List ℕ) → AreDigits xs → AreDigits ys
    → xs ++ 46 ∷ more ≡ ys ++ 46 ∷ others → (xs ≡ ys) × (more ≡ others)
split [] [] more others d f e = (refl, cc)
split [] (y ∷ ys) more others d f e =
    let dot : 46 ≡ y = cc in
    let digit : is_ascii_digit y ≡ true = first_so (is_ascii_digit y) (list_all is_ascii_digit ys) f in
    let no : is_ascii_digit 46 ≡ true = subst (λ n. is_ascii_digit n ≡ true) (sym dot) digit in
    absurd (cc)
split (x ∷ xs) [] more others d f e =
    let dot : x ≡ 46 = cc in
    let digit : is_ascii_digit x ≡ true = first_so (is_ascii_digit x) (list_all is_ascii_digit xs) d in
    let no : is_ascii_digit 46 ≡ true = subst (λ n. is_ascii_digit n ≡ true) dot digit in
    absurd (cc)
split (x ∷ xs) (y ∷ ys) more others d f e =
    let first : x ≡ y = cc in
    let rest : xs ++ 46 ∷ more ≡ ys ++ 46 ∷ others = cc in
    let r = split xs ys more others (second_so (is_ascii_digit x) (list_all is_ascii_digit xs) d)
    (second_so (is_ascii_digit y) (list_all is_ascii_digit ys) f) rest in
    (λ i. first i ∷ r.0 i, r.1)

same_placeholder : (j i k n : ℕ) → j < 2 ^ 64 → i < 2 ^ 64 → k < 2 ^ 64 → n < 2 ^ 64
    → placeholder j i ≡ placeholder k n → (j ≡ k) × (i ≡ n)
same_placeholder j i k n a b c d e =
    let rest : decimal j ++ 46 ∷ decimal i ≡ decimal k ++ 46 ∷ decimal n = cc in
    let r = split (decimal j) (decimal k) (decimal i) (decimal n) (digits_decimal own j a) (digits_decimal own k c) rest in
    (decimal_injective j k a c r.0, decimal_injective i n b d r.1)

-- ---- the names of one entry

-- a name of one of so many outputs of the j-th entry, from the i-th on
in_placeholders : (j i n : ℕ) (name : List ℕ) → Contains (placeholders j i n) name
    → (k : ℕ) × (i ≤ k) × (k < i + n) × (name ≡ placeholder j k)
in_placeholders j i zero name m = absurd (contains_none name m)
in_placeholders j i (suc n) name m =
    elim (contains_cases (placeholder j i) (placeholders j (i + 1) n) name m) [
      | inl here ↦ (i, omega arith, omega arith, sym here)
      | inr later ↦
          let r = in_placeholders j (i + 1) n name later in
          (r.0, omega (arith, r.1), omega (arith, r.2), r.3)
    ]

placeholders_distinct : (j i n : ℕ) → j < 2 ^ 64 → i + n < 2 ^ 64 → AreDistinct (placeholders j i n)
placeholders_distinct j i zero few small = distinct_nil
placeholders_distinct j i (suc n) few small =
    distinct_cons (placeholder j i) (placeholders j (i + 1) n) (placeholders_distinct j (i + 1) n few (omega (arith, small)))
    (λ m.
    let r = in_placeholders j (i + 1) n (placeholder j i) m in
    let same = same_placeholder j i j r.0 few (omega (arith, small)) few (omega (arith, small, r.2)) r.3 in
    absurd (omega (arith, same.1, r.1)))

-- ---- the names of entries

-- so many outputs at most
abbrev pub HaveFew : List SupposedEntry → Type 0
HaveFew list = All (λ (e : SupposedEntry). length e.outputs ≤ 8) list

in_entry_names : (j : ℕ) (list : List SupposedEntry) (name : List ℕ) → HaveFew list
    → Contains (entry_names j list) name
    → (k : ℕ) × (i : ℕ) × (j ≤ k) × (k < j + length list) × (i ≤ 8) × (name ≡ placeholder k i)
in_entry_names j [] name few m = absurd (contains_none name m)
in_entry_names j (e ∷ es) name few m =
    elim (Contains-append_cases (placeholders j 1 (length e.outputs)) (entry_names (j + 1) es) name m) [
      | inl here ↦
          let r = in_placeholders j 1 (length e.outputs) name here in
          let most = few 0 e (omega arith) in
          (j, r.0, omega arith, omega arith, omega (arith, r.2, most), r.3)
      | inr later ↦
          let r = in_entry_names (j + 1) es name (λ k d lt. few (suc k) d (omega arith)) later in
          (r.0, r.1, omega (arith, r.2), omega (arith, r.3), r.4, r.5)
    ]

entry_names_distinct : (j : ℕ) (list : List SupposedEntry) → HaveFew list → j + length list ≤ 1000000
    → AreDistinct (entry_names j list)
entry_names_distinct j [] few small = distinct_nil
entry_names_distinct j (e ∷ es) few small =
    let most = few 0 e (omega arith) in
    let rest : HaveFew es = λ k d lt. few (suc k) d (omega arith) in
    distinct_append (placeholders j 1 (length e.outputs)) (entry_names (j + 1) es)
    (placeholders_distinct j 1 (length e.outputs) (omega (arith, small)) (omega (arith, most)))
    (entry_names_distinct (j + 1) es rest (omega (arith, small)))
    (λ name m n.
    let r = in_placeholders j 1 (length e.outputs) name m in
    let s = in_entry_names (j + 1) es name rest n in
    let same = same_placeholder j r.0 s.0 s.1 (omega (arith, small)) (omega (arith, r.2, most)) (omega (arith, s.3, small))
    (omega (arith, s.4)) (sym r.3 ∙ s.5) in
    absurd (omega (arith, same.0, s.2)))

-- names that are real, with those of the entries behind them
pub names_distinct : (names : List (List ℕ)) (list : List SupposedEntry) → AreDistinct names → AreReal names
    → HaveFew list → length list ≤ 20000 → AreDistinct (names ++ entry_names 1 list)
names_distinct names list distinct real few most =
    distinct_append names (entry_names 1 list) distinct (entry_names_distinct 1 list few (omega (arith, most)))
    (λ name m n.
    let s = in_entry_names 1 list name few n in
    All-contains (λ (name : List ℕ). ¬ (slice_get name 0 ≡ Some 64)) names name real m (ap (λ xs. slice_get xs 0) s.5))

-- ---- one name after another

placeholders_more : (j i n : ℕ) → placeholders j i (suc n) ≡ placeholders j i n ++ placeholder j (i + n) ∷ []
placeholders_more j i zero = let same : i ≡ i + 0 = omega arith in ap (λ k. placeholder j k ∷ []) same
placeholders_more j i (suc n) =
    let same : i + 1 + n ≡ i + suc n = omega arith in
    ap (λ ns. placeholder j i ∷ ns) (placeholders_more j (i + 1) n ∙ ap (λ k. placeholders j (i + 1) n ++ placeholder j k ∷ []) same)

pub placeholders_pushed : (j n : ℕ) (old now : List (List ℕ)) (name : List ℕ) → name ≡ placeholder j (n + 1)
    → now ≡ old ++ placeholders j 1 n → now ++ name ∷ [] ≡ old ++ placeholders j 1 (n + 1)
placeholders_pushed j n old now name is passed =
    let next : suc n ≡ n + 1 = omega arith in
    let same : n + 1 ≡ 1 + n = omega arith in
    (λ k. passed k ++ (is ∙ ap (placeholder j) same) k ∷ []) ∙ append_assoc old (placeholders j 1 n) (placeholder j (1 + n) ∷ [])
    ∙ ap (λ ns. old ++ ns) (sym (placeholders_more j 1 n)) ∙ ap (λ k. old ++ placeholders j 1 k) next
