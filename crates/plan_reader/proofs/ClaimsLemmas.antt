-- Claims, line by line.
use Rattle.std.proofs.Common.{◌≡◌, ℕ, ◌<◌, ◌^◌, Bool, true, false, nat_lt, List, [], ◌∷◌, refl, ap, subst, arith, Option, Some, None, Result, Err}
use Rattle.std.proofs.lemmas.Bool.Decides.{nat_tests}
use Rattle.std.proofs.lemmas.Str.Parse.{parse_digits}
use Rattle.std.specs.Borrow.{Bor}
use Rattle.std.specs.Char.{is_ascii_digit}
use Rattle.std.specs.List.{list_all}
use Rattle.std.specs.Option.{option_or}
use Rattle.std.specs.Str.Parse.{ParsesUnsigned, digits_value}
use Rattle.lemmas.proofs.Digits.{own}
use Rattle.plan_reader.specs.Claims.{claimed_by_line, claimed_cost, first_claim, is_cost}
use Rattle.plan_reader.specs.Lines.{IsFirstTextLine, text_lines}
use Rattle.plan_reader.proofs.PlansLemmas.{lines_left}

-- ---- numbers

too_large : (b : Bool) (v : ℕ) → (v < 2 ^ 64 → ⊥) → b ≡ nat_lt v (2 ^ 64) → b ≡ false
too_large true v h e = absurd (h (grind (arith, nat_tests, e)))
too_large false v h e = refl

refused : {E : Type 0} (word : List ℕ) (e : E) → list_all is_ascii_digit word ≡ true
    → ParsesUnsigned 64 10 word (Err e)
    → is_cost word ≡ false
unfolding is_cost
refused [] e digits h = refl
refused (b ∷ bs) e digits h =
    let no = parse_digits own 64 (b ∷ bs) (Err e) h digits in
    let large : nat_lt (digits_value 10 (b ∷ bs)) (2 ^ 64) ≡ false =
    too_large _ (digits_value 10 (b ∷ bs)) (λ lt. no (omega arith, lt)) refl in
    rw (digits, large) refl

-- digits that aren't read write no number below 2^64
pub not_cost : {E : Type 0} (word text : List ℕ) (r : Result ℕ E) (e : E) → text ≡ word
    → list_all is_ascii_digit word ≡ true
    → ParsesUnsigned 64 10 text r → r ≡ Err e → is_cost word ≡ false
not_cost {E} word text r e same digits h err =
    refused word e digits
    (subst (λ t. ParsesUnsigned {E = E} 64 10 t (Err e)) same (subst (λ x. ParsesUnsigned {E = E} 64 10 text x) err h))

-- ---- lines

-- at first all lines are left
pub all_claims : (text : List ℕ) → claimed_cost text ≡ first_claim (text_lines text)
unfolding claimed_cost
all_claims text = refl

-- what is left claims what its first line does, or what is left behind that
pub claims_left : (text line : List ℕ) (rest : Option (Bor (List ℕ))) → IsFirstTextLine text line rest
    → first_claim (text_lines text) ≡ option_or (claimed_by_line line) (first_claim (lines_left rest))
claims_left text line None is = ap first_claim is
claims_left text line (Some rest) is = ap first_claim is.0
