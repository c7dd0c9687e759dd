-- A word of digits that isn't read as a number.
use Rattle.std.proofs.Common.{◌≡◌, ℕ, ◌<◌, ◌^◌, Bool, true, false, nat_le, List, [], ◌∷◌, refl, subst, arith, Result, Err}
use Rattle.std.specs.List.{list_all}
use Rattle.std.specs.Char.{is_ascii_digit}
use Rattle.std.specs.Str.Parse.{ParsesUnsigned, digits_value}
use Rattle.std.proofs.lemmas.Str.Parse.{parse_digits}
use Rattle.std.proofs.lemmas.Bool.Decides.{nat_tests}
use Rattle.lemmas.proofs.Digits.{own}
use Rattle.command_line.specs.Numbers.{is_number}
use Rattle.lemmas.proofs.Bools.{and_false}

too_large : (b : Bool) (most v : ℕ) → most < 2 ^ 32 → (v < 2 ^ 32 → ⊥) → b ≡ nat_le v most
    → b ≡ false
too_large true most v few h e = absurd (h (grind (arith, nat_tests, e, few)))
too_large false most v few h e = refl

refused : {E : Type 0} (least most : ℕ) (word : List ℕ) (e : E) → most < 2 ^ 32
    → list_all is_ascii_digit word ≡ true
    → ParsesUnsigned 32 10 word (Err e) → is_number least most word ≡ false
unfolding is_number
refused least most [] e few digits h = refl
refused least most (b ∷ bs) e few digits h =
    let no = parse_digits own 32 (b ∷ bs) (Err e) h digits in
    rw (too_large _ most (digits_value 10 (b ∷ bs)) few (λ lt. no (omega arith, lt)) refl) (and_false _)

pub not_number : {E : Type 0} (least most : ℕ) (word : List ℕ) (r : Result ℕ E) (e : E) → most < 2 ^ 32
    → list_all is_ascii_digit word ≡ true
    → ParsesUnsigned 32 10 word r → r ≡ Err e → is_number least most word ≡ false
not_number {E} least most word r e few digits h err =
    refused least most word e few digits (subst (λ x. ParsesUnsigned {E = E} 32 10 word x) err h)
