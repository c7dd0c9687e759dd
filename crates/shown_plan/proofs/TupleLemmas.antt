-- The first of some tuples of equal length that has a member that passes.
use Rattle.std.proofs.Common.{◌≡◌, ℕ, zero, suc, ◌+◌, ◌-◌, ◌*◌, ◌/◌, ◌<◌, ◌≤◌, arith, Bool, true, false, cond, ◌||◌, List, [], ◌∷◌, length, take, drop, refl, sym, ap, ◌∙◌, Some, option_map, is_some, add-one}
use Rattle.std.proofs.Math.Nat.{mul_comm, suc-mul}
use Rattle.std.proofs.lemmas.Iterator.Adapters.{position_from-zero}
use Rattle.std.proofs.lemmas.List.{length-drop}
use Rattle.std.proofs.lemmas.Nat.{div-mul-add}
use Rattle.std.specs.List.{list_any, position, position_from}
use Rattle.transcript_model.specs.Transcript.{tuples_in}

-- ---- positions

-- nothing passes in front
skipped : {A : Type 0} (p : A → Bool) (w j : ℕ) (xs : List A) → list_any p (take w xs) ≡ false
    → position_from p j xs ≡ position_from p (j + w) (drop w xs)
skipped p zero j xs e = let none : j ≡ j + 0 = omega arith in ap (λ k. position_from p k xs) none
skipped p (suc w) j [] e = refl
skipped p (suc w) j (x ∷ xs) e =
    elim (p x) as (λ b. (b || list_any p (take w xs)) ≡ false
    → cond b (Some j) (position_from p (j + 1) xs) ≡ position_from p (j + suc w) (drop w xs)) [
      | true ↦ λ h. absurd (cc)
      | false ↦ λ h. let sum : (j + 1) + w ≡ j + suc w = omega arith in
          skipped p w (j + 1) xs h ∙ ap (λ k. position_from p k (drop w xs)) sum
    ] e

-- where something passes in front, the first stands there
pub record IsFront {A : Type 0} (p : A → Bool) (w j : ℕ) (xs : List A) : Type 0 where
  pub more : ℕ
  pub found : position_from p j xs ≡ Some (j + more)
  pub within : more < w

in_front : {A : Type 0} (p : A → Bool) (w j : ℕ) (xs : List A) → list_any p (take w xs) ≡ true
    → IsFront p w j xs
in_front p zero j xs e = absurd (cc)
in_front p (suc w) j [] e = absurd (cc)
in_front p (suc w) j (x ∷ xs) e =
    elim (p x) as (λ b. p x ≡ b → (b || list_any p (take w xs)) ≡ true → IsFront p (suc w) j (x ∷ xs)) [
      | true ↦ λ t h. let none : j ≡ j + 0 = omega arith in record { more = 0; found = rw t (ap Some none); within = omega arith }
      | false ↦ λ t h.
          let rest = in_front p w (j + 1) xs h in
          let sum : (j + 1) + rest.more ≡ j + suc rest.more = omega arith in
          record { more = suc rest.more; found = rw t (rest.found ∙ ap Some sum); within = omega (arith, rest.within) }
    ] refl e

-- ---- tuples

less_one : (t w n : ℕ) → n ≡ suc t * w → n - w ≡ t * w
less_one t w n e = let more : suc t * w ≡ t * w + w = suc-mul t w in omega (arith, e, more)

next_row : (s w : ℕ) → s * w + w ≡ (s + 1) * w
next_row s w = sym (ap (λ k. k * w) (add-one s) ∙ suc-mul s w)

tuples_from : (p : List ℕ → Bool) (w t s : ℕ) (vs : List (List ℕ)) → length vs ≡ t * w
    → position_from (list_any p) s (tuples_in w t vs) ≡ option_map (λ k. k / w) (position_from p (s * w) vs)
tuples_from p w zero s [] e = refl
tuples_from p w zero s (v ∷ vs) e = absurd (omega (arith, e))
tuples_from p w (suc t) s vs e =
    elim (list_any p (take w vs)) as (λ b.
    list_any p (take w vs) ≡ b
    → cond b (Some s) (position_from (list_any p) (s + 1) (tuples_in w t (drop w vs)))
    ≡ option_map (λ k. k / w) (position_from p (s * w) vs)) [
      | true ↦ λ there. let front = in_front p w (s * w) vs there in
          rw front.found (ap Some (sym (div-mul-add s w front.more front.within)))
      | false ↦ λ absent. tuples_from p w t (s + 1) (drop w vs) (length-drop w vs ∙ less_one t w (length vs) e)
          ∙ ap (option_map (λ k. k / w))
          (ap (λ j. position_from p j (drop w vs)) (sym (next_row s w)) ∙ sym (skipped p w (s * w) vs absent))
    ] refl

-- the place of the first tuple, from the place of the first value
pub first_tuple_is : (p : List ℕ → Bool) (w t : ℕ) (vs : List (List ℕ)) → length vs ≡ t * w
    → position (list_any p) (tuples_in w t vs) ≡ option_map (λ k. k / w) (position p vs)
first_tuple_is p w t vs e =
    let none : 0 * w ≡ 0 = omega arith in
    position_from-zero (list_any p) (tuples_in w t vs) ∙ tuples_from p w t 0 vs e
    ∙ ap (option_map (λ k. k / w)) (ap (λ j. position_from p j vs) none ∙ sym (position_from-zero p vs))

-- a value is found where one passes
found_from : {A : Type 0} (p : A → Bool) (j : ℕ) (xs : List A)
    → is_some (position_from p j xs) ≡ list_any p xs
found_from p j [] = refl
found_from p j (x ∷ xs) =
    elim (p x) as (λ b. is_some (cond b (Some j) (position_from p (j + 1) xs)) ≡ (b || list_any p xs)) [
      | true ↦ refl
      | false ↦ found_from p (j + 1) xs
    ]

pub found_is : {A : Type 0} (p : A → Bool) (xs : List A) → is_some (position p xs) ≡ list_any p xs
found_is p xs = ap is_some (position_from-zero p xs) ∙ found_from p 0 xs

-- so many tuples of one length
pub width_is : (size tuples width : ℕ) → 1 ≤ tuples → size ≡ tuples * width
    → size ≡ tuples * (size / tuples)
width_is size tuples width some e =
    let turned : width * tuples + 0 ≡ size = omega (arith, e, mul_comm tuples width) in
    let is : size / tuples ≡ width = ap (λ n. n / tuples) (sym turned) ∙ div-mul-add width tuples 0 (omega arith) in
    e ∙ ap (λ w. tuples * w) (sym is)
