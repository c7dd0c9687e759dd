-- What the library doesn't have of tests joined, and of numbers chosen by a test.
use Rattle.std.proofs.Common.{◌≡◌, ℕ, zero, suc, ◌≤◌, Bool, true, false, not, cond, ◌&&◌, ◌||◌, ◌==◌, refl, sym, ap, ◌∙◌, arith}
use Rattle.std.proofs.lemmas.Bool.{ne_eqb}

pub not_both : (b : Bool) → b ≡ true → b ≡ false → ⊥
not_both b t f = absurd (cc)

pub or_false : (b : Bool) → (b || false) ≡ b
or_false true = refl
or_false false = refl

pub or_true : (b : Bool) → (b || true) ≡ true
or_true true = refl
or_true false = refl

pub and_false : (a : Bool) → (a && false) ≡ false
and_false true = refl
and_false false = refl

pub and_four : (a b c d : Bool) → a ≡ true → b ≡ true → c ≡ true → d ≡ true
    → (a && b && c && d) ≡ true
and_four a b c d e f g h = rw (e, f, g, h) refl

pub from_or_false : (b : Bool) → (b || false) ≡ true → b ≡ true
from_or_false true e = e
from_or_false false e = e

pub or_swap : (a b c : Bool) → (a || (b || c)) ≡ (b || (a || c))
or_swap true true c = refl
or_swap true false c = refl
or_swap false b c = refl

pub or_assoc : (a b c : Bool) → (a || (b || c)) ≡ ((a || b) || c)
or_assoc true b c = refl
or_assoc false b c = refl

pub cond_le_one : (b : Bool) → cond {A = ℕ} b 1 0 ≤ 1
cond_le_one true = omega arith
cond_le_one false = omega arith

pub and_not_parts : (a b : Bool) → (a && not b) ≡ true → (a ≡ true) × (b ≡ false)
and_not_parts true true e = absurd (cc)
and_not_parts true false e = (refl, refl)
and_not_parts false b e = absurd (cc)

pub zero_and_not : (n : ℕ) (cut : Bool) → ((n == 0) && not cut) ≡ true → (n ≡ 0) × (cut ≡ false)
zero_and_not zero false e = (refl, refl)
zero_and_not zero true e = absurd (cc)
zero_and_not (suc n) cut e =
    let busy : (suc n == 0) ≡ false = ne_eqb (suc n) 0 (λ is. omega (arith, is)) in
    let both : true ≡ false = sym e ∙ ap (λ (b : Bool). b && not cut) busy in absurd (cc)

pub left_false : (a b : Bool) → (a || b) ≡ false → a ≡ false
left_false true b e = e
left_false false b e = refl

pub right_false : (a b : Bool) → (a || b) ≡ false → b ≡ false
right_false true b e = absurd (cc)
right_false false b e = e

-- what doesn't stand without the second stands with it
pub second_too : (a b : Bool) → a ≡ true → (a && not b) ≡ false → b ≡ true
second_too true true a c = refl
second_too true false a c = absurd (cc)
second_too false b a c = absurd (cc)
