-- Parts of a condition, judged one after another.
use Rattle.std.proofs.Common.{◌≡◌, ℕ, zero, suc, ◌+◌, ◌<◌, Bool, true, false, cond, List, [], ◌∷◌, length, drop, get_or, sym, ap, ◌∙◌, arith, add-one}
use Rattle.task_model.specs.Condition.{Condition, parts_of}
use Rattle.validate_app.specs.Parts.{false_among, false_part}

module _ (holds : Condition → Bool) (whole : Condition) where
  from : (parts : List Condition) (i : ℕ) (part : Condition) → i < length parts → part ≡ get_or parts i part
      → false_among holds (parts_of (drop i parts)) whole
      ≡ cond (holds part) (false_among holds (parts_of (drop (suc i) parts)) whole) (false_part holds part)
  from [] i part h e = absurd (omega arith)
  from (p ∷ ps) zero part h e =
      ap (λ x. cond (holds x) (false_among holds (parts_of ps) whole) (false_part holds x)) (sym e)
  from (p ∷ ps) (suc i) part h e = from ps i part (omega arith) e

  -- behind a part that is true the parts behind it decide
  pub true_part : (parts : List Condition) (i : ℕ) (part : Condition) → i < length parts → part ≡ get_or parts i part
      → holds part ≡ true
      → false_among holds (parts_of (drop (i + 1) parts)) whole ≡ false_among holds (parts_of (drop i parts)) whole
  true_part parts i part h e passes =
      ap (λ n. false_among holds (parts_of (drop n parts)) whole) (add-one i)
      ∙ sym (from parts i part h e
      ∙ ap (λ b. cond b (false_among holds (parts_of (drop (suc i) parts)) whole) (false_part holds part)) passes)

  -- a part that is false decides
  pub first_false : (parts : List Condition) (i : ℕ) (part : Condition) → i < length parts → part ≡ get_or parts i part
      → holds part ≡ false
      → false_among holds (parts_of (drop i parts)) whole ≡ false_part holds part
  first_false parts i part h e fails =
      from parts i part h e
      ∙ ap (λ b. cond b (false_among holds (parts_of (drop (suc i) parts)) whole) (false_part holds part)) fails
