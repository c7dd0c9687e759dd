-- What may be replied.
use Rattle.std.proofs.Common.{◌≡◌, ℕ, ◌*◌, ◌≤◌, Bool, true, false, nat_le, List, [], ◌∷◌, length, refl, sym, ap, ◌∙◌, arith, codes, if◌then◌else◌, subst}
use Rattle.std.specs.List.{list_all}
use Rattle.std.specs.Str.{bytes_eq}
use Rattle.std.specs.Str.Parse.{digits_value}
use Rattle.std.proofs.lemmas.Bool.Decides.{nat_tests}
use Rattle.gen_lines.specs.declared.answer.Wanted.{Wanted}
use Rattle.gen_lines.specs.declared.answer.Wanted.TheVariants.{Outputs, Number}
use Rattle.gen_lines.specs.declared.answer.Why.TheVariants.{Word, Count, Value}
use Rattle.gen_lines.specs.Reply.{Reply, yields, number, bad, reply_of, reply_of_fields, fields, given_reply, yield_reply, number_reply, end_reply, word_of, parted, has_bars, joined_tuples, are_of_width, is_value, IsRight}
use Rattle.task_model.specs.Numbers.{is_number}
use Rattle.task_model.proofs.NumbersLemmas.{number_few}
use Rattle.gen_lines.proofs.ReplyTupleLemmas.{joined_length, parts_of}
use Rattle.std.proofs.lemmas.Bool.{and_parts}

-- a choice by two tests is one of three
pub data OneOf (x y z r : Reply) : Type 0 where
  is_first : x ≡ r → OneOf x y z r
  is_second : y ≡ r → OneOf x y z r
  is_third : z ≡ r → OneOf x y z r

by_words : (a b : Bool) (x y z r : Reply) → (if a then x else if b then y else z) ≡ r
    → OneOf x y z r
by_words true b x y z r e = is_first e
by_words false true x y z r e = is_second e
by_words false false x y z r e = is_third e

record Found (width : ℕ) (tuples : List (List (List ℕ))) (n : ℕ) (values : List (List ℕ)) : Type 0 where
  right : are_of_width width tuples ≡ true
  valid : list_all is_value (joined_tuples tuples) ≡ true
  count : length tuples ≡ n
  same : joined_tuples tuples ≡ values

by_tests : (a b : Bool) (m n : ℕ) (us vs : List (List ℕ))
    → (if a then (if b then yields m us else bad Value) else bad Count) ≡ yields n vs
    → (a ≡ true) × (b ≡ true) × (m ≡ n) × (us ≡ vs)
by_tests true true m n us vs e = (refl, refl, cc, cc)
by_tests true false m n us vs e = absurd cc
by_tests false b m n us vs e = absurd cc

found : (width : ℕ) (tuples : List (List (List ℕ))) (n : ℕ) (values : List (List ℕ))
    → yield_reply width tuples ≡ yields n values
    → Found width tuples n values
found width tuples n values e =
    let tests = by_tests (are_of_width width tuples) (list_all is_value (joined_tuples tuples)) (length tuples) n (joined_tuples tuples) values e in
    record { right = tests.0; valid = tests.1; count = tests.2; same = tests.3 }

one_tuple : (outputs : ℕ) (several : Bool) (given : List (List ℕ))
    → has_bars outputs several ≡ false
    → length (parted (has_bars outputs several) given) ≡ 1
one_tuple outputs several given e = rw e refl

no_outputs : (several : Bool) → has_bars 0 several ≡ false
no_outputs true = refl
no_outputs false = refl

right_of : (outputs : ℕ) (several : Bool) (given : List (List ℕ)) (tuples : ℕ) (values : List (List ℕ))
    → Found outputs (parted (has_bars outputs several) given) tuples values → IsRight outputs several tuples values
right_of outputs several given tuples values f =
    let all = parted (has_bars outputs several) given in
    let whole = parts_of (has_bars outputs several) given in
    let both = and_parts _ (nat_le (length all) 16) f.right in
    record {
      some = omega (arith, f.count, ap length whole.same);
      few = grind (arith, nat_tests, both.1, f.count);
      one = λ single. sym f.count ∙ one_tuple outputs several given (ap (has_bars outputs) single);
      test = λ none. sym f.count ∙ one_tuple outputs several given (ap (λ n. has_bars n several) none ∙ no_outputs several);
      count =
          sym (ap length f.same) ∙ joined_length outputs all both.0 ∙ ap (λ n. n * outputs) f.count;
      valid = sym (ap (list_all is_value) f.same) ∙ f.valid;
    }

end_is_no_yield : (given : List (List ℕ)) (n : ℕ) (values : List (List ℕ))
    → end_reply given ≡ yields n values → ⊥
end_is_no_yield [] n values e = cc
end_is_no_yield (field ∷ given) n values e = cc

right_fields : (given : List (List ℕ)) (outputs : ℕ) (several : Bool) (tuples : ℕ) (values : List (List ℕ))
    → reply_of_fields (Outputs outputs several) given ≡ yields tuples values → IsRight outputs several tuples values
right_fields [] outputs several tuples values e = absurd cc
right_fields (word ∷ given) outputs several tuples values e =
    elim (by_words (bytes_eq word (codes "end")) (bytes_eq word (codes "yield"))
    (end_reply given) (given_reply (Outputs outputs several) given) (bad Word) (yields tuples values) e) [
      | is_first ended ↦ absurd (end_is_no_yield given tuples values ended)
      | is_second gave ↦
          right_of outputs several given tuples values (found outputs (parted (has_bars outputs several) given) tuples values gave)
      | is_third wrong ↦ absurd cc
    ]

pub yields_are_right : (line : List ℕ) (outputs : ℕ) (several : Bool) (tuples : ℕ) (values : List (List ℕ))
    → reply_of line (Outputs outputs several) ≡ yields tuples values → IsRight outputs several tuples values
yields_are_right line outputs several tuples values e =
    right_fields (fields line) outputs several tuples values e

end_is_no_number : (given : List (List ℕ)) (n : ℕ) → end_reply given ≡ number n → ⊥
end_is_no_number [] n e = cc
end_is_no_number (field ∷ given) n e = cc

by_number : (b : Bool) (m n : ℕ) → (if b then number m else bad Value) ≡ number n
    → (b ≡ true) × (m ≡ n)
by_number true m n e = (refl, cc)
by_number false m n e = absurd cc

small : (field : List ℕ) → is_number field ≡ true → digits_value 10 field ≤ 1000000
small field e = grind (arith, nat_tests, number_few field e)

number_small : (given : List (List ℕ)) (n : ℕ) → number_reply given ≡ number n → n ≤ 1000000
number_small [] n e = absurd cc
number_small (field ∷ []) n e =
    let tests = by_number (is_number field) (digits_value 10 field) n e in
    subst (λ k. k ≤ 1000000) tests.1 (small field tests.0)
number_small (field ∷ next ∷ given) n e = absurd cc

yield_is_no_number : (a b : Bool) (m n : ℕ) (us : List (List ℕ))
    → (if a then (if b then yields m us else bad Value) else bad Count) ≡ number n → ⊥
yield_is_no_number true true m n us e = cc
yield_is_no_number true false m n us e = cc
yield_is_no_number false b m n us e = cc

given_small : (wanted : Wanted) (given : List (List ℕ)) (n : ℕ)
    → given_reply wanted given ≡ number n → n ≤ 1000000
given_small (Outputs width several) given n e =
    let tuples = parted (has_bars width several) given in
    absurd (yield_is_no_number (are_of_width width tuples) (list_all is_value (joined_tuples tuples)) (length tuples) n (joined_tuples tuples) e)
given_small Number given n e = number_small given n e

small_fields : (given : List (List ℕ)) (wanted : Wanted) (n : ℕ)
    → reply_of_fields wanted given ≡ number n → n ≤ 1000000
small_fields [] wanted n e = absurd cc
small_fields (word ∷ given) wanted n e =
    elim (by_words (bytes_eq word (codes "end")) (bytes_eq word (word_of wanted)) (end_reply given) (given_reply wanted given)
    (bad Word) (number n) e) [
      | is_first ended ↦ absurd (end_is_no_number given n ended)
      | is_second gave ↦ given_small wanted given n gave
      | is_third wrong ↦ absurd cc
    ]

pub numbers_are_small : (line : List ℕ) (wanted : Wanted) (n : ℕ) → reply_of line wanted ≡ number n
    → n ≤ 1000000
numbers_are_small line wanted n e = small_fields (fields line) wanted n e
