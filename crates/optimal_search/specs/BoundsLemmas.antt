-- Bounds by what is missing of the goal.
use Rattle.std.proofs.Common.{◌≡◌, ℕ, ◌+◌, ◌*◌, ◌<◌, ◌≤◌, inl, inr, zero, suc, Bool, true, false, not, cond, ◌&&◌, List, [], ◌∷◌, length, refl, ap, subst, arith, Contains}
use Rattle.std.proofs.lemmas.Bool.{cases_lt}
use Rattle.std.proofs.lemmas.Grind.{div_ceil_times}
use Rattle.std.proofs.lemmas.Nat.{mul-le}
use Rattle.lemmas.proofs.Ascending.{contains_here, contains_later, contains_cases}
use Rattle.lemmas.proofs.Counts.{count_head}
use Rattle.lemmas.proofs.Distinct.{distinct_cons, distinct_tail, head_is_new}
use Rattle.lemmas.proofs.Pigeonhole.{pigeons}
use Rattle.lemmas.specs.Lists.{AreDistinct}
use Rattle.optimal_search.specs.Bounds.{lacking, up}

-- ---- quotients that are rounded up

rounding : (u v c cost before after w : ℕ) → 0 < w → u * w < c * before + w → c * after ≤ v * w
    → before ≤ after + w → c ≤ cost → u ≤ cost + v
rounding u v c cost before after w some low high few cheap =
    let more : c * before ≤ c * (after + w) = mul-le c before c (after + w) (omega arith) few in
    let dear : c * w ≤ cost * w = mul-le c w cost w cheap (omega arith) in
    elim (cases_lt (cost + v) u) [
      | inl over ↦
          let b : (cost + v + 1) * w ≤ u * w = mul-le (cost + v + 1) w u w (omega (arith, over)) (omega arith) in
          absurd (omega (arith, low, high, more, dear, b))
      | inr fits ↦ fits
    ]

pub quotient_falls : (c w cost before after : ℕ) → before ≤ after + w → c ≤ cost
    → up (c * before) w ≤ cost + up (c * after) w
quotient_falls c zero cost before after few cheap = omega arith
quotient_falls c (suc n) cost before after few cheap =
    let p = div_ceil_times (c * before) (suc n) (omega arith) in
    let q = div_ceil_times (c * after) (suc n) (omega arith) in
    rounding (up (c * before) (suc n)) (up (c * after) (suc n)) c cost before after (suc n) (omega arith) p.1 q.0 few cheap

shares : (u v unit cost before after : ℕ) → 0 < unit → u * unit < before + unit → after ≤ v * unit
    → before ≤ after + cost * unit → u ≤ cost + v
shares u v unit cost before after some low high few =
    elim (cases_lt (cost + v) u) [
      | inl over ↦
          let b : (cost + v + 1) * unit ≤ u * unit = mul-le (cost + v + 1) unit u unit (omega (arith, over)) (omega arith) in
          absurd (omega (arith, low, high, few, b))
      | inr fits ↦ fits
    ]

pub sum_falls : (unit cost before after : ℕ) → 0 < unit → before ≤ after + cost * unit
    → up before unit ≤ cost + up after unit
sum_falls zero cost before after some few = absurd (omega (arith, some))
sum_falls (suc n) cost before after some few =
    let p = div_ceil_times before (suc n) (omega arith) in
    let q = div_ceil_times after (suc n) (omega arith) in
    shares (up before (suc n)) (up after (suc n)) (suc n) cost before after (omega arith) p.1 q.0 few

-- ---- what comes to be there

abbrev gained_or : {A : Type 0} → Bool → A → List A → List A
gained_or true g gs = g ∷ gs
gained_or false g gs = gs

abbrev gained : {A : Type 0} → (A → Bool) → (A → Bool) → List A → List A
gained before after [] = []
gained before after (g ∷ gs) = gained_or (not (before g) && after g) g (gained before after gs)

-- a member of these was missing, and is there
record IsGained {A : Type 0} (before after : A → Bool) (gs : List A) (x : A) : Type 0 where
  among : Contains gs x
  was : before x ≡ false
  is : after x ≡ true

module _ {A : Type 0} (before after : A → Bool) where
  gained_later : (g : A) (gs : List A) (x : A) → IsGained before after gs x → IsGained before after (g ∷ gs) x
  gained_later g gs x r = record { among = contains_later g gs x r.among; was = r.was; is = r.is }

  -- a member of the first and the others, where these are gained, is gained
  gained_cases : (g : A) (gs more : List A) (x : A) → ((y : A) → Contains more y → IsGained before after gs y)
      → (b a : Bool) → before g ≡ b → after g ≡ a → Contains (gained_or (not b && a) g more) x
      → IsGained before after (g ∷ gs) x
  gained_cases g gs more x each true a e f c = gained_later g gs x (each x c)
  gained_cases g gs more x each false false e f c = gained_later g gs x (each x c)
  gained_cases g gs more x each false true e f c =
      elim (contains_cases g more x c) [
        | inl same ↦
            record {
              among = subst (λ y. Contains (g ∷ gs) y) same (contains_here g gs);
              was = subst (λ y. before y ≡ false) same e;
              is = subst (λ y. after y ≡ true) same f;
            }
        | inr k ↦ gained_later g gs x (each x k)
      ]

  gained_member : (gs : List A) (x : A) → Contains (gained before after gs) x → IsGained before after gs x
  gained_member [] x c = absurd (omega (arith, c.1))
  gained_member (g ∷ gs) x c =
      gained_cases g gs (gained before after gs) x (λ y k. gained_member gs y k) (before g) (after g) refl refl c

  distinct_or : (g : A) (gs more : List A) → AreDistinct more → ¬ (Contains more g) → (b : Bool)
      → AreDistinct (gained_or b g more)
  distinct_or g gs more d absent true = distinct_cons g more d absent
  distinct_or g gs more d absent false = d

  gained_distinct : (gs : List A) → AreDistinct gs → AreDistinct (gained before after gs)
  gained_distinct [] d = d
  gained_distinct (g ∷ gs) d =
      distinct_or g gs (gained before after gs) (gained_distinct gs (distinct_tail g gs d))
      (λ c. head_is_new g gs d (gained_member gs g c).among) (not (before g) && after g)

  -- a member that is missing before and not after is gained
  counted : (b a : Bool) (g : A) (gs : List A)
      → cond {A = ℕ} (not b) 1 0 + length gs ≤ cond {A = ℕ} (not a) 1 0 + length (gained_or (not b && a) g gs)
  counted true true g gs = omega arith
  counted true false g gs = omega arith
  counted false true g gs =
      let same : gained_or (not false && true) g gs ≡ g ∷ gs = refl in omega (arith, ap length same)
  counted false false g gs =
      let same : gained_or (not false && false) g gs ≡ gs = refl in omega (arith, ap length same)

  lacking_gained : (gs : List A) → lacking gs before ≤ lacking gs after + length (gained before after gs)
  lacking_gained [] = omega arith
  lacking_gained (g ∷ gs) =
      omega (
        arith,
        count_head (λ a. not (before a)) g gs,
        count_head (λ a. not (after a)) g gs,
        lacking_gained gs,
        counted (before g) (after g) g (gained before after gs),
      )

pub lacking_falls : {A : Type 0} (goals adds : List A) (before after : A → Bool) → AreDistinct goals
    → ((g : A) → Contains goals g → before g ≡ false → after g ≡ true → Contains adds g)
    → lacking goals before ≤ lacking goals after + length adds
lacking_falls goals adds before after distinct added =
    let few = pigeons (gained before after goals) adds (gained_distinct before after goals distinct) (λ g c.
    let r = gained_member before after goals g c in added g r.among r.was r.is) in
    omega (arith, lacking_gained before after goals, few)
