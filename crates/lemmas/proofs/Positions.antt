-- The first place at which a test passes.
use Rattle.std.proofs.Common.{◌≡◌, ℕ, ◌+◌, ◌<◌, ◌≤◌, Bool, true, false, not, cond, ◌||◌, ◌∙◌, suc, List, [], ◌∷◌, length, refl, arith, Some, None, position, nat_lt, unwrap_or}
use Rattle.std.specs.List.{list_any, slice_split, position_or_len, prefix_len, onto_first}
use Rattle.std.proofs.lemmas.Bool.Decides.{nat_tests}
use Rattle.std.proofs.lemmas.List.Sums.{prefix_len-le-length}

pub record FoundAt (p : ℕ → Bool) (xs : List ℕ) (n : ℕ) : Type 0 where
  pub within : position_or_len p xs < length xs
  pub place : position_or_len p xs ≡ n

by_test : (b : Bool) (m n : ℕ) → cond b (Some m) None ≡ Some n → (b ≡ true) × (m ≡ n)
by_test true m n e = (refl, cc)
by_test false m n e = cc

pub found_at : (p : ℕ → Bool) (xs : List ℕ) (n : ℕ) → position p xs ≡ Some n → FoundAt p xs n
found_at p xs n e =
    let found = by_test _ _ _ e in
    record {
      within = grind (arith, nat_tests, found.0);
      place = found.1;
    }

by_no_test : (b : Bool) (m : ℕ) → cond b (Some m) None ≡ None → b ≡ false
by_no_test true m e = cc
by_no_test false m e = refl

pub not_found : (p : ℕ → Bool) (xs : List ℕ) → position p xs ≡ None
    → length xs ≤ position_or_len p xs
not_found p xs e =
    let none : nat_lt (position_or_len p xs) (length xs) ≡ false = by_no_test _ _ e in
    grind (arith, nat_tests, none)

pub split_whole : (p : ℕ → Bool) (xs : List ℕ) → length xs ≤ position_or_len p xs
    → slice_split p xs ≡ xs ∷ []
split_whole p [] h = refl
split_whole p (x ∷ xs) h =
    elim (p x) as (λ b. length (x ∷ xs) ≤ cond (not b) (1 + prefix_len (λ y. not (p y)) xs) 0
    → cond b ([] ∷ slice_split p xs) (onto_first x (slice_split p xs)) ≡ (x ∷ xs) ∷ []) [
      | true ↦ λ k. absurd (omega arith)
      | false ↦ λ k. rw (split_whole p xs (omega arith)) refl
    ] h

or_length : (b : Bool) (m n : ℕ) → m ≤ n → b ≡ nat_lt m n → unwrap_or (cond b (Some m) None) n ≡ m
or_length true m n le e = refl
or_length false m n le e = grind (arith, nat_tests, e)

-- the place, or the length where there is none
pub position_or : (p : ℕ → Bool) (xs : List ℕ)
    → unwrap_or (position p xs) (length xs) ≡ position_or_len p xs
position_or p xs = or_length _ _ _ (prefix_len-le-length (λ x. not (p x)) xs) refl

any_within_by : {A : Type 0} (p : A → Bool) (xs : List A) (b : Bool)
    → list_any p xs ≡ nat_lt (position_or_len p xs) (length xs)
    → (b || list_any p xs) ≡ nat_lt (cond (not b) (1 + position_or_len p xs) 0) (suc (length xs))
any_within_by p xs true e = grind (arith, nat_tests)
any_within_by p xs false e = e ∙ grind (arith, nat_tests)

-- a member passes exactly where the place of the first is within
pub any_within : {A : Type 0} (p : A → Bool) (xs : List A)
    → list_any p xs ≡ nat_lt (position_or_len p xs) (length xs)
any_within p [] = refl
any_within p (x ∷ xs) = any_within_by p xs (p x) (any_within p xs)
