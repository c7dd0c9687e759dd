-- Fields that write numbers.
use Rattle.std.proofs.Common.{◌↔◌, ◌≡◌, ℕ, zero, suc, ◌<◌, ◌^◌, Bool, true, false, ◌==◌, List, [], ◌∷◌, length, get_or, refl, sym, ap, ◌∙◌, subst, arith, Result, Ok, Err}
use Rattle.std.specs.Char.{is_ascii_digit}
use Rattle.std.specs.Fmt.{decimal}
use Rattle.std.specs.List.{list_all}
use Rattle.std.specs.Str.Parse.{ParsesUnsigned, digits_value}
use Rattle.std.proofs.lemmas.Bool.Decides.{nat_tests}
use Rattle.std.proofs.lemmas.Fmt.{decimal_nonempty, first_decimal, decimal_digit, decimal-digits_value, decimal_injective, digits_decimal, parse-decimal}
use Rattle.report_text.specs.Forms.{IsNumber}
use Rattle.report_reader.specs.Objects.{IsPlaceNumber}
use Rattle.std.proofs.lemmas.Str.Parse.{parse_digits}
use Rattle.lemmas.proofs.Digits.{own}
use Rattle.report_reader.specs.Splits.{has_needless_zero}

by_first : (ds : List ℕ) → 0 < length ds → (1 < length ds → 48 < get_or ds 0 0)
    → has_needless_zero ds ≡ false
by_first [] some first = absurd (omega arith)
by_first (b ∷ []) some first = refl
by_first (b ∷ c ∷ more) some first =
    let large : 48 < b = first (omega arith) in
    grind (arith, nat_tests)

first_of : (n : ℕ) → n < 2 ^ 64 → 1 < length (decimal n) → 48 < get_or (decimal n) 0 0
first_of zero lt long = absurd (omega (arith, ap length (decimal_digit 0 (omega arith))))
first_of (suc n) lt long = first_decimal (suc n) (omega arith) lt

pub no_needless_zero : (n : ℕ) → n < 2 ^ 64 → has_needless_zero (decimal n) ≡ false
no_needless_zero n lt = by_first (decimal n) (decimal_nonempty n lt) (first_of n lt)

pub all_digits : (n : ℕ) → n < 2 ^ 64 → list_all is_ascii_digit (decimal n) ≡ true
all_digits n lt = digits_decimal own n lt

filled : (ds : List ℕ) → has_needless_zero ds ≡ false → 0 < length ds
filled [] e = absurd (cc)
filled (b ∷ ds) e = omega arith

alone : (ds : List ℕ) → has_needless_zero ds ≡ false → get_or ds 0 0 ≡ 48 → length ds ≡ 1
alone [] e zero_first = absurd (cc)
alone (b ∷ []) e zero_first = refl
alone (b ∷ c ∷ more) e zero_first =
    absurd (let zero_is : (48 == 48) ≡ false = subst (λ x. (x == 48) ≡ false) zero_first e in cc)

pub written : {E : Type 0} (field text : List ℕ) (n : ℕ) (r : Result ℕ E) → text ≡ field
    → has_needless_zero field ≡ false
    → list_all is_ascii_digit field ≡ true → ParsesUnsigned 64 10 text r → r ≡ Ok n → (n < 2 ^ 64) × (decimal n ≡ field)
written {E} field text n r same no_zero digits parses ok =
    let here : ParsesUnsigned {E = E} 64 10 field (Ok n) =
    subst (λ t. ParsesUnsigned {E = E} 64 10 t (Ok n)) same (subst (λ x. ParsesUnsigned {E = E} 64 10 text x) ok parses) in
    let is = parse_digits own {E = E} 64 field (Ok n) here digits in
    let small : digits_value 10 field < 2 ^ 64 = is.0.1 in
    let value : n ≡ digits_value 10 field = is.1 in (
      omega (arith, small, value),
      ap decimal value ∙ decimal-digits_value own field digits (filled field no_zero) (alone field no_zero) small,
    )

pub unparsed : {E : Type 0} (field text : List ℕ) (e : E) (r : Result ℕ E) → text ≡ field
    → ParsesUnsigned 64 10 text r → r ≡ Err e
    → (n : ℕ) → n < 2 ^ 64 → ¬ (decimal n ≡ field)
unparsed field text e r same parses err n lt is =
    let ok = parse-decimal 64 n text r lt lt (same ∙ sym is) parses in
    absurd (cc)

pub place_test : (b : Bool) (n : ℕ) (field : List ℕ) → n < 2 ^ 64 → decimal n ≡ field
    → (b ≡ true) ↔ ((0 < n) × IsNumber n)
    → (b ≡ true) ↔ IsPlaceNumber field
place_test b n field lt is test = (
  λ e. (n, (test.0 e).0, (test.0 e).1, is),
  λ p. let same = decimal_injective p.0 n (omega (arith, p.2)) lt (p.3 ∙ sym is) in
      test.1 (omega (arith, same, p.1), omega (arith, same, p.2)),
)
