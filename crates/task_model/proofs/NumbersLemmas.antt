-- What a word of digits is read as.
use Rattle.std.proofs.Common.{◌≡◌, ℕ, true, false, nat_le, List, [], ◌∷◌, refl, subst, Result, Err}
use Rattle.std.proofs.lemmas.Bool.{and_parts}
use Rattle.std.specs.List.{list_all}
use Rattle.std.specs.Char.{is_ascii_digit}
use Rattle.std.specs.Str.Parse.{digits_value, ParsesUnsigned}
use Rattle.lemmas.proofs.Digits.{refused_large}
use Rattle.task_model.specs.Numbers.{is_number}

refused : {E : Type 0} (word : List ℕ) (e : E) → list_all is_ascii_digit word ≡ true
    → ParsesUnsigned 32 10 word (Err e)
    → is_number word ≡ false
unfolding is_number
refused [] e digits h = refl
refused (b ∷ bs) e digits h = rw (digits, refused_large b bs e digits h) refl

pub not_number : {E : Type 0} (word text : List ℕ) (r : Result ℕ E) (e : E) → text ≡ word
    → list_all is_ascii_digit word ≡ true
    → ParsesUnsigned 32 10 text r → r ≡ Err e → is_number word ≡ false
not_number {E} word text r e same digits h err =
    refused word e digits
    (subst (λ t. ParsesUnsigned {E = E} 32 10 t (Err e)) same (subst (λ x. ParsesUnsigned {E = E} 32 10 text x) err h))

-- a number is at most a million
pub number_few : (word : List ℕ) → is_number word ≡ true → nat_le (digits_value 10 word) 1000000 ≡ true
unfolding is_number
number_few [] e = absurd (cc)
number_few (b ∷ bs) e = (and_parts (list_all is_ascii_digit (b ∷ bs)) (nat_le (digits_value 10 (b ∷ bs)) 1000000) e).1
