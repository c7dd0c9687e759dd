-- What stands before the first answer to a request of some number or a later one isn't needed for these.
use Rattle.std.proofs.Common.{◌≡◌, ℕ, ◌+◌, ◌≤◌, Bool, true, false, not, cond, nat_lt, List, [], ◌∷◌, drop, length, None, Some, position, refl, sym, ap, subst, ◌∙◌, arith}
use Rattle.std.proofs.Math.Numerals.{one-add}
use Rattle.std.proofs.lemmas.Bool.{eqb-true}
use Rattle.std.proofs.lemmas.Bool.Decides.{nat_tests}
use Rattle.std.proofs.lemmas.List.{drop_all}
use Rattle.std.proofs.lemmas.Option.{same_Some}
use Rattle.std.specs.List.{find, position_or_len}
use Rattle.std.specs.Option.{option_and_then}
use Rattle.dream_asks.specs.Noting.{HaveSameAnswers, came_by, is_answer_from, tuple_of}
use Rattle.lemmas.proofs.Options.{where_true}
use Rattle.transcript_model.specs.Dreaming.{paired}
use Rattle.transcript_model.specs.Legal.{is_answer_to}
use Rattle.transcript_model.specs.declared.entry.Entry.{Entry}
use Rattle.transcript_model.specs.declared.entry.Entry.TheVariants as entry

-- ---- lists

-- Each member that passes q passes p.
module _ {A : Type 0} (p q : A → Bool) (wider : (x : A) → q x ≡ true → p x ≡ true) where
  misses : (x : A) → p x ≡ false → q x ≡ false
  misses x fails = by (q x) refl
    where
      by : (b : Bool) → q x ≡ b → b ≡ false
      by true e = absurd (let both : true ≡ false = sym (wider x e) ∙ fails in cc)
      by false e = refl

  find_from : (xs : List A) → find q (drop (position_or_len p xs) xs) ≡ find q xs
  find_from [] = refl
  find_from (x ∷ xs) = by (p x) refl (find_from xs)
    where
      by : (b : Bool) → p x ≡ b → find q (drop (position_or_len p xs) xs) ≡ find q xs
          → find q (drop (cond (not b) (1 + position_or_len p xs) 0) (x ∷ xs)) ≡ find q (x ∷ xs)
      by true e rest = refl
      by false e rest = rw one-add (rest ∙ ap (λ b. cond b (Some x) (find q xs)) (sym (misses x e)))

  find_at_place : (xs : List A) (k : ℕ) → position p xs ≡ Some k → find q (drop k xs) ≡ find q xs
  find_at_place xs k there =
      let found = where_true (nat_lt (position_or_len p xs) (length xs)) (Some (position_or_len p xs)) k there in
      subst (λ n. find q (drop n xs) ≡ find q xs) (same_Some (position_or_len p xs) k found.1) (find_from xs)

  find_none : (xs : List A) → position p xs ≡ None → find q [] ≡ find q xs
  find_none xs none =
      let past : length xs ≤ position_or_len p xs = by (nat_lt (position_or_len p xs) (length xs)) refl none in
      ap (find q) (sym (drop_all (position_or_len p xs) xs past)) ∙ find_from xs
    where
      by : (b : Bool) → nat_lt (position_or_len p xs) (length xs) ≡ b → cond b (Some (position_or_len p xs)) None ≡ None
          → length xs ≤ position_or_len p xs
      by true e absent = absurd (cc)
      by false e absent = grind (arith, nat_tests, e)

-- ---- answers

later_is : (number n : ℕ) → number ≤ n → (e : Entry) → is_answer_to n e ≡ true → is_answer_from number e ≡ true
later_is number n le (entry.Got k tuples values) is = let same : n ≡ k = eqb-true n k is in grind (arith, nat_tests)
later_is number n le (entry.Value k value) is = let same : n ≡ k = eqb-true n k is in grind (arith, nat_tests)
later_is number n le (entry.End k) is = let same : n ≡ k = eqb-true n k is in grind (arith, nat_tests)
later_is number n le e is = absurd (cc)

pub from_place : (entries : List Entry) (number k : ℕ) → position (is_answer_from number) entries ≡ Some k
    → HaveSameAnswers number (drop k entries) entries
from_place entries number k there n le =
    find_at_place (is_answer_from number) (is_answer_to n) (later_is number n le) entries k there

pub from_none : (entries : List Entry) (number : ℕ) → position (is_answer_from number) entries ≡ None
    → HaveSameAnswers number [] entries
from_none entries number none n le = find_none (is_answer_from number) (is_answer_to n) (later_is number n le) entries none

-- what came by an answer is by the first answer alone
pub came_same : (names : List (List ℕ)) (left behind : List Entry) (number : ℕ) (outputs : List ℕ) (o : ℕ)
    → find (is_answer_to number) left ≡ find (is_answer_to number) behind
    → came_by names left number outputs o ≡ came_by names behind number outputs o
came_same names left behind number outputs o same =
    ap (λ found. option_and_then (λ objects. paired outputs objects o) (option_and_then (tuple_of names (length outputs)) found)) same
