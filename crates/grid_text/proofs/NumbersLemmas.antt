-- Fields that are refused as numbers.
use Rattle.std.proofs.Common.{◌≡◌, ℕ, ◌<◌, ◌≤◌, ◌^◌, Bool, true, false, nat_lt, List, [], ◌∷◌, refl, subst, arith, Result, Err, Some, None, IfSome, if◌then◌else◌}
use Rattle.std.specs.List.{list_all}
use Rattle.std.specs.Char.{is_ascii_digit}
use Rattle.std.specs.Str.Parse.{ParsesUnsigned, digits_value}
use Rattle.std.proofs.lemmas.Str.Parse.{parse_digits}
use Rattle.std.proofs.lemmas.Bool.Decides.{nat_tests}
use Rattle.lemmas.proofs.Digits.{own}
use Rattle.grid_text.specs.Numbers.{is_decimal}

too_large : (b : Bool) (v : ℕ) → (v < 2 ^ 32 → ⊥) → b ≡ nat_lt v (2 ^ 32) → b ≡ false
too_large true v h e = absurd (h (grind (arith, nat_tests, e)))
too_large false v h e = refl

refused : {E : Type 0} (field : List ℕ) (e : E) → list_all is_ascii_digit field ≡ true
    → ParsesUnsigned 32 10 field (Err e) → is_decimal field ≡ false
unfolding is_decimal
refused [] e digits h = refl
refused (b ∷ bs) e digits h =
    let no = parse_digits own 32 (b ∷ bs) (Err e) h digits in
    rw (digits, too_large _ (digits_value 10 (b ∷ bs)) (λ lt. no (omega arith, lt)) refl) refl

pub not_decimal : {E : Type 0} (field text : List ℕ) (r : Result ℕ E) (e : E) → text ≡ field
    → list_all is_ascii_digit field ≡ true → ParsesUnsigned 32 10 text r → r ≡ Err e
    → is_decimal field ≡ false
not_decimal {E} field text r e same digits h err =
    refused field e digits
    (subst (λ t. ParsesUnsigned {E = E} 32 10 t (Err e)) same (subst (λ x. ParsesUnsigned {E = E} 32 10 text x) err h))

small_by : (b : Bool) (v : ℕ) → (b ≡ true → v ≤ 9999)
    → IfSome (if b then Some v else None) (λ n. n ≤ 9999)
small_by true v h = h refl
small_by false v h = tt
