-- What a text of digits is read as.
use Rattle.std.proofs.Common.{◌≡◌, ℕ, ◌<◌, ◌^◌, Bool, true, false, nat_le, List, refl, arith, rules, ◌∷◌, Err}
use Rattle.std.proofs.lemmas.Bool.Decides.{nat_tests}
use Rattle.std.proofs.lemmas.Fmt.{IsAscii-from_digits}
use Rattle.std.proofs.lemmas.Str.{IsUtf8-from_ascii}
use Rattle.std.proofs.lemmas.Str.Parse.{IsDigitsTest, IsNumeralModel, numerals_by_value, parse_digits}
use Rattle.std.specs.Char.{is_ascii_digit}
use Rattle.std.specs.List.{list_all}
use Rattle.std.specs.Str.{IsUtf8}
use Rattle.std.specs.Str.Parse.{digits_value, ParsesUnsigned}

tells_digits : IsDigitsTest (λ ds. list_all is_ascii_digit ds ≡ true)
tells_digits = search rules

pub own : IsNumeralModel (λ ds. list_all is_ascii_digit ds ≡ true) (digits_value 10)
own = numerals_by_value _ tells_digits

pub digits_are_text : (word : List ℕ) → list_all is_ascii_digit word ≡ true → IsUtf8 word
digits_are_text word e = IsUtf8-from_ascii word (IsAscii-from_digits word (own.to word e))

pub too_large : (b : Bool) (v : ℕ) → (v < 2 ^ 32 → ⊥) → b ≡ nat_le v 1000000 → b ≡ false
too_large true v h e = absurd (h (grind (arith, nat_tests, e)))
too_large false v h e = refl

-- digits that aren't read write a number above a million
pub refused_large : {E : Type 0} (b : ℕ) (bs : List ℕ) (e : E) → list_all is_ascii_digit (b ∷ bs) ≡ true
    → ParsesUnsigned 32 10 (b ∷ bs) (Err e)
    → nat_le (digits_value 10 (b ∷ bs)) 1000000 ≡ false
refused_large b bs e digits h =
    let no = parse_digits own 32 (b ∷ bs) (Err e) h digits in
    too_large _ (digits_value 10 (b ∷ bs)) (λ lt. no (omega arith, lt)) refl
