-- Tables of names that grow by a name, by a row of words and by a row of declarations.
use Rattle.std.proofs.Common.{◌≡◌, ℕ, Bool, true, false, cond, ◌||◌, List, [], ◌∷◌, ◌++◌, length, refl, sym, ap, subst, ◌∙◌, ◌⊎◌, inl, inr, Contains, codes}
use Rattle.std.proofs.lemmas.Bool.{false≢true}
use Rattle.std.proofs.lemmas.List.Folds.{list_any-append}
use Rattle.std.specs.Str.{bytes_eq}
use Rattle.lemmas.proofs.Bools.{from_or_false}
use Rattle.lemmas.proofs.ListTests.{any_append_left}
use Rattle.lemmas.proofs.Members.{member_at, place_of}
use Rattle.sexpr_text.specs.Trees.{Trees, nothing, word, list}
use Rattle.form_reader.specs.Rows.{head_of, is_dash, tail_of}
use Rattle.form_reader.specs.declared.groups.Spot.TheVariants.{Start}
use Rattle.name_tables.proofs.NamesLemmas.{has_with, name_found, name_itself, name_there, same_name}
use Rattle.name_tables.specs.Names.{Signed, has_name, with_table_name, with_signature}
use Rattle.name_tables.specs.Variables.{named_words}
use Rattle.domain_reader.specs.Tables.{declared_arity, functions_in, predicates_in, types_in}
use Rattle.table_laws.specs.Rows.{HasList, HasWord}

one_true : (a b : Bool) → (a || b) ≡ true → (a ≡ true) ⊎ (b ≡ true)
one_true true b e = inl refl
one_true false b e = inr e

-- ---- a name more

pub with_forth : (names : List (List ℕ)) (name n : List ℕ) → has_name n (with_table_name names name) ≡ true
    → (has_name n names ≡ true) ⊎ (n ≡ name)
with_forth names name n =
    elim (has_name name names) as
    (λ b. has_name n (cond b names (names ++ name ∷ [])) ≡ true → (has_name n names ≡ true) ⊎ (n ≡ name)) [
      | true ↦ λ h. inl h
      | false ↦ λ h. pushed (one_true (has_name n names) (bytes_eq n name || false) (sym (list_any-append (bytes_eq n) names (name ∷ [])) ∙ h))
    ]
  where
    pushed : (has_name n names ≡ true) ⊎ ((bytes_eq n name || false) ≡ true) → (has_name n names ≡ true) ⊎ (n ≡ name)
    pushed (inl h) = inl h
    pushed (inr h) = inr (same_name n name (from_or_false (bytes_eq n name) h))

pub with_keeps : (names : List (List ℕ)) (name n : List ℕ) → has_name n names ≡ true
    → has_name n (with_table_name names name) ≡ true
with_keeps names name n h =
    elim (has_name name names) as (λ b. has_name n (cond b names (names ++ name ∷ [])) ≡ true) [
      | true ↦ h
      | false ↦ any_append_left (bytes_eq n) names (name ∷ []) h
    ]

pub with_puts : (names : List (List ℕ)) (name n : List ℕ) → n ≡ name → has_name n (with_table_name names name) ≡ true
with_puts names name n e = subst (λ m. has_name m (with_table_name names name) ≡ true) (sym e) (has_with names name)

pub signature_names : (s : Signed) (name : List ℕ) (arity : ℕ)
    → (with_signature s name arity).names ≡ with_table_name s.names name
signature_names s name arity =
    elim (has_name name s.names) as
    (λ b. (cond b s (record { names = s.names ++ name ∷ []; arities = s.arities ++ arity ∷ [] })).names
    ≡ cond b s.names (s.names ++ name ∷ [])) [
      | true ↦ refl
      | false ↦ refl
    ]

-- ---- members and tests

pub has_from : (names : List (List ℕ)) (n : List ℕ) → Contains names n → has_name n names ≡ true
has_from names n m = let at = place_of names n m in name_there n names at.0 at.1

pub from_has : (names : List (List ℕ)) (n : List ℕ) → has_name n names ≡ true → Contains names n
from_has names n h = let at = name_found n names h in member_at names at.0 n at.1

-- ---- a row of types

abbrev put_type : List (List ℕ) → List ℕ → List (List ℕ)
put_type names text = cond (is_dash text) names (with_table_name names text)

put_forth : (names : List (List ℕ)) (text n : List ℕ) → has_name n (put_type names text) ≡ true
    → (has_name n names ≡ true) ⊎ ((n ≡ text) × ¬ (n ≡ codes "-"))
put_forth names text n =
    elim (is_dash text) as
    (λ b. is_dash text ≡ b → has_name n (cond b names (with_table_name names text)) ≡ true
    → (has_name n names ≡ true) ⊎ ((n ≡ text) × ¬ (n ≡ codes "-"))) [
      | true ↦ λ _ h. inl h
      | false ↦ λ other h. by other (with_forth names text n h)
    ] refl
  where
    by : is_dash text ≡ false → (has_name n names ≡ true) ⊎ (n ≡ text)
        → (has_name n names ≡ true) ⊎ ((n ≡ text) × ¬ (n ≡ codes "-"))
    by other (inl h) = inl h
    by other (inr e) = inr (e, λ dash. false≢true (sym other ∙ name_itself text (codes "-") (sym e ∙ dash)))

put_keeps : (names : List (List ℕ)) (text n : List ℕ) → has_name n names ≡ true → has_name n (put_type names text) ≡ true
put_keeps names text n h =
    elim (is_dash text) as (λ b. has_name n (cond b names (with_table_name names text)) ≡ true) [
      | true ↦ h
      | false ↦ with_keeps names text n h
    ]

put_puts : (names : List (List ℕ)) (text n : List ℕ) → n ≡ text → ¬ (n ≡ codes "-")
    → has_name n (put_type names text) ≡ true
put_puts names text n e real =
    elim (is_dash text) as (λ b. is_dash text ≡ b → has_name n (cond b names (with_table_name names text)) ≡ true) [
      | true ↦ λ dash. absurd (real (e ∙ same_name text (codes "-") dash))
      | false ↦ λ _. with_puts names text n e
    ] refl

pub types_forth : (names : List (List ℕ)) (t : Trees) (n : List ℕ) → has_name n (types_in names t) ≡ true
    → (has_name n names ≡ true) ⊎ (HasWord n t × ¬ (n ≡ codes "-"))
types_forth names nothing n h = inl h
types_forth names (list items at rest) n h = types_forth names rest n h
types_forth names (word text at rest) n h = by (types_forth (put_type names text) rest n h)
  where
    front : (has_name n names ≡ true) ⊎ ((n ≡ text) × ¬ (n ≡ codes "-"))
        → (has_name n names ≡ true) ⊎ (((n ≡ text) ⊎ HasWord n rest) × ¬ (n ≡ codes "-"))
    front (inl old) = inl old
    front (inr new) = inr (inl new.0, new.1)

    by : (has_name n (put_type names text) ≡ true) ⊎ (HasWord n rest × ¬ (n ≡ codes "-"))
        → (has_name n names ≡ true) ⊎ (((n ≡ text) ⊎ HasWord n rest) × ¬ (n ≡ codes "-"))
    by (inl first) = front (put_forth names text n first)
    by (inr later) = inr (inr later.0, later.1)

pub types_keep : (names : List (List ℕ)) (t : Trees) (n : List ℕ) → has_name n names ≡ true
    → has_name n (types_in names t) ≡ true
types_keep names nothing n h = h
types_keep names (list items at rest) n h = types_keep names rest n h
types_keep names (word text at rest) n h = types_keep (put_type names text) rest n (put_keeps names text n h)

pub types_put : (names : List (List ℕ)) (t : Trees) (n : List ℕ) → HasWord n t → ¬ (n ≡ codes "-")
    → has_name n (types_in names t) ≡ true
types_put names nothing n there real = absurd there
types_put names (list items at rest) n there real = types_put names rest n there real
types_put names (word text at rest) n (inl e) real =
    types_keep (put_type names text) rest n (put_puts names text n e real)
types_put names (word text at rest) n (inr there) real = types_put (put_type names text) rest n there real

-- ---- a row of declarations

abbrev pub DeclaredIn : Trees → List ℕ → Type 0
DeclaredIn row n = (declaration : Trees) × HasList declaration row × (n ≡ head_of declaration)

module _ (arity : List ℕ → Trees → ℕ) (rows_in : Signed → Trees → Signed)
    (at_end : (s : Signed) → rows_in s nothing ≡ s)
    (at_word : (s : Signed) (text : List ℕ) (at : ℕ) (rest : Trees) → rows_in s (word text at rest) ≡ rows_in s rest)
    (at_list : (s : Signed) (items : Trees) (at : ℕ) (rest : Trees)
    → rows_in s (list items at rest) ≡ rows_in (with_signature s (head_of items) (arity (head_of items) (tail_of items))) rest) where
  pub rows_forth : (s : Signed) (t : Trees) (n : List ℕ) → has_name n (rows_in s t).names ≡ true
      → (has_name n s.names ≡ true) ⊎ DeclaredIn t n
  rows_forth s nothing n h = inl (subst (λ (r : Signed). has_name n r.names ≡ true) (at_end s) h)
  rows_forth s (word text at rest) n h =
      rows_forth s rest n (subst (λ (r : Signed). has_name n r.names ≡ true) (at_word s text at rest) h)
  rows_forth s (list items at rest) n h =
      by (rows_forth (with_signature s (head_of items) (arity (head_of items) (tail_of items))) rest n
      (subst (λ (r : Signed). has_name n r.names ≡ true) (at_list s items at rest) h))
    where
      front : (has_name n s.names ≡ true) ⊎ (n ≡ head_of items)
          → (has_name n s.names ≡ true) ⊎ DeclaredIn (list items at rest) n
      front (inl old) = inl old
      front (inr new) = inr (items, inl refl, new)

      by : (has_name n (with_signature s (head_of items) (arity (head_of items) (tail_of items))).names ≡ true) ⊎ DeclaredIn rest n
          → (has_name n s.names ≡ true) ⊎ DeclaredIn (list items at rest) n
      by (inl first) =
          front (with_forth s.names (head_of items) n
          (sym (ap (has_name n) (signature_names s (head_of items) (arity (head_of items) (tail_of items)))) ∙ first))
      by (inr later) = inr (later.0, inr later.1, later.2)

  pub rows_keep : (s : Signed) (t : Trees) (n : List ℕ) → has_name n s.names ≡ true → has_name n (rows_in s t).names ≡ true
  rows_keep s nothing n h = subst (λ (r : Signed). has_name n r.names ≡ true) (sym (at_end s)) h
  rows_keep s (word text at rest) n h =
      subst (λ (r : Signed). has_name n r.names ≡ true) (sym (at_word s text at rest)) (rows_keep s rest n h)
  rows_keep s (list items at rest) n h =
      let count = arity (head_of items) (tail_of items) in
      subst (λ (r : Signed). has_name n r.names ≡ true) (sym (at_list s items at rest))
      (rows_keep (with_signature s (head_of items) count) rest n
      (ap (has_name n) (signature_names s (head_of items) count) ∙ with_keeps s.names (head_of items) n h))

  pub rows_put : (s : Signed) (t : Trees) (n : List ℕ) (declaration : Trees) → HasList declaration t → n ≡ head_of declaration
      → has_name n (rows_in s t).names ≡ true
  rows_put s nothing n d there e = absurd there
  rows_put s (word text at rest) n d there e =
      subst (λ (r : Signed). has_name n r.names ≡ true) (sym (at_word s text at rest)) (rows_put s rest n d there e)
  rows_put s (list items at rest) n d (inl same) e =
      let count = arity (head_of items) (tail_of items) in
      subst (λ (r : Signed). has_name n r.names ≡ true) (sym (at_list s items at rest))
      (rows_keep (with_signature s (head_of items) count) rest n
      (ap (has_name n) (signature_names s (head_of items) count) ∙ with_puts s.names (head_of items) n (e ∙ ap head_of same)))
  rows_put s (list items at rest) n d (inr there) e =
      subst (λ (r : Signed). has_name n r.names ≡ true) (sym (at_list s items at rest))
      (rows_put (with_signature s (head_of items) (arity (head_of items) (tail_of items))) rest n d there e)

-- predicates, and functions

abbrev variables_of : List ℕ → Trees → ℕ
variables_of name vars = length (named_words Start vars)

pub predicates_forth : (s : Signed) (t : Trees) (n : List ℕ) → has_name n (predicates_in s t).names ≡ true
    → (has_name n s.names ≡ true) ⊎ DeclaredIn t n
predicates_forth = rows_forth variables_of predicates_in (λ s. refl) (λ s text at rest. refl) (λ s items at rest. refl)

pub predicates_keep : (s : Signed) (t : Trees) (n : List ℕ) → has_name n s.names ≡ true
    → has_name n (predicates_in s t).names ≡ true
predicates_keep = rows_keep variables_of predicates_in (λ s. refl) (λ s text at rest. refl) (λ s items at rest. refl)

pub predicates_put : (s : Signed) (t : Trees) (n : List ℕ) (declaration : Trees) → HasList declaration t
    → n ≡ head_of declaration → has_name n (predicates_in s t).names ≡ true
predicates_put = rows_put variables_of predicates_in (λ s. refl) (λ s text at rest. refl) (λ s items at rest. refl)

pub functions_forth : (s : Signed) (t : Trees) (n : List ℕ) → has_name n (functions_in s t).names ≡ true
    → (has_name n s.names ≡ true) ⊎ DeclaredIn t n
functions_forth = rows_forth declared_arity functions_in (λ s. refl) (λ s text at rest. refl) (λ s items at rest. refl)

pub functions_keep : (s : Signed) (t : Trees) (n : List ℕ) → has_name n s.names ≡ true
    → has_name n (functions_in s t).names ≡ true
functions_keep = rows_keep declared_arity functions_in (λ s. refl) (λ s text at rest. refl) (λ s items at rest. refl)

pub functions_put : (s : Signed) (t : Trees) (n : List ℕ) (declaration : Trees) → HasList declaration t
    → n ≡ head_of declaration → has_name n (functions_in s t).names ≡ true
functions_put = rows_put declared_arity functions_in (λ s. refl) (λ s text at rest. refl) (λ s items at rest. refl)
