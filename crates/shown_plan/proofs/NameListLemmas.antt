-- Members of lists and of tables of names.
use Rattle.std.proofs.Common.{◌≡◌, ℕ, zero, suc, arith, Bool, true, false, cond, ◌⊎◌, inl, inr, List, [], ◌∷◌, ◌++◌, map, refl, sym, ap, ◌∙◌, Contains}
use Rattle.std.proofs.lemmas.List.Elements.{Contains-push_cases}
use Rattle.std.specs.Cmp.{first_so, second_so}
use Rattle.std.specs.List.{list_any, list_all}
use Rattle.task_model.specs.Known.{IsIn, same_numbers, with_name, with_names}
use Rattle.task_model.specs.Streams.{name_at}
use Rattle.std.proofs.lemmas.Bool.{false≢true}
use Rattle.lemmas.proofs.Ascending.{contains_later}

-- ---- lists

pub mapped_from : {A B : Type 0} (f : A → B) (xs : List A) (q : B) → Contains (map f xs) q
    → (x : A) × Contains xs x × (f x ≡ q)
mapped_from f [] q (k, lt, is) = absurd (omega (arith, lt))
mapped_from f (x ∷ xs) q (zero, lt, is) = (x, (0, omega arith, refl), is)
mapped_from f (x ∷ xs) q (suc k, lt, is) =
    let r = mapped_from f xs q (k, omega (arith, lt), is) in (r.0, contains_later x xs r.0 r.1, r.2)

pub all_pass : {A : Type 0} (p : A → Bool) (xs : List A) (q : A) → list_all p xs ≡ true
    → Contains xs q → p q ≡ true
all_pass p [] q e (k, lt, is) = absurd (omega (arith, lt))
all_pass p (x ∷ xs) q e (zero, lt, is) = ap p (sym is) ∙ first_so (p x) (list_all p xs) e
all_pass p (x ∷ xs) q e (suc k, lt, is) =
    all_pass p xs q (second_so (p x) (list_all p xs) e) (k, omega (arith, lt), is)

-- ---- tables of names

with_name_from : (names : List (List ℕ)) (name q : List ℕ) → Contains (with_name names name) q
    → Contains names q ⊎ (name ≡ q)
with_name_from names name q =
    elim (list_any (same_numbers name) names) as (λ b. Contains (cond b names (names ++ name ∷ [])) q → Contains names q ⊎ (name ≡ q)) [
      | true ↦ λ h. inl h
      | false ↦ λ h. Contains-push_cases names name q h
    ]

pub with_names_from : (names more : List (List ℕ)) (q : List ℕ) → Contains (with_names names more) q
    → Contains names q ⊎ Contains more q
with_names_from names [] q h = inl h
with_names_from names (name ∷ more) q h = elim (with_names_from (with_name names name) more q h) [
  | inl before ↦ elim (with_name_from names name q before) [ inl old ↦ inl old | inr is ↦ inr (0, omega arith, is) ]
  | inr later ↦ inr (contains_later name more q later)
]

-- the name of an object that has one is in the table
pub in_table : (names : List (List ℕ)) (object : ℕ) → IsIn names object
    → Contains names (name_at names object)
in_table [] object h = absurd (false≢true h)
in_table (n ∷ ns) zero h = (0, omega arith, refl)
in_table (n ∷ ns) (suc object) h = contains_later n ns (name_at ns object) (in_table ns object h)
