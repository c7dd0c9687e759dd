-- Sums of counts, one of which rises.
use Rattle.std.proofs.Common.{◌≡◌, ℕ, zero, suc, ◌+◌, ◌*◌, ◌<◌, ◌≤◌, min, Bool, true, false, ◌&&◌, nat_lt, if◌then◌else◌, List, [], ◌∷◌, length, get_or, refl, arith, Result, take, ◌++◌, subst, ap, ◌∙◌, length-take}
use Rattle.std.specs.List.{sum_by}
use Rattle.std.proofs.Math.ListN.{set}
use Rattle.std.proofs.lemmas.Bool.{ltb-true, ltb-false, le-ltb, lt-ltb, and_right}
use Rattle.std.proofs.lemmas.List.{length-set, take_more}
use Rattle.std.proofs.lemmas.List.Sums.{sum_by-set, sum_by-cons, sum_by_more}
use Rattle.std.specs.Cmp.{first_so, second_so}
use native.Mathlib.Nat.{suc-mul, mul-le-mul_right}
use Rattle.io_world.specs.Faults.{HasCause}
use Rattle.gen_host.specs.Members.{all_below, total}

and_next : (a b c : Bool) → (b ≡ false → c ≡ false) → (a && b) ≡ false → (a && c) ≡ false
and_next true b c next none = next none
and_next false b c next none = refl

-- where all are below the last value, the sum is no more than all at it
pub below_sum : {B : Type 0} (last : ℕ) (count : B → ℕ) (xs : List B)
    → all_below last count xs ≡ true → sum_by count xs ≤ length xs * last
below_sum last count [] all = omega arith
below_sum last count (x ∷ xs) all =
    let here : count x < last = ltb-true (count x) last (first_so (nat_lt (count x) last) (all_below last count xs) all) in
    let rest = below_sum last count xs (second_so (nat_lt (count x) last) (all_below last count xs) all) in
    omega (arith, rest, suc-mul (length xs) last, sum_by-cons count x xs)

and_here : (a b c : Bool) → (a ≡ false → b ≡ false) → (a && c) ≡ false → (b && c) ≡ false
and_here true b true next none = cc
and_here true b false next none = and_right b false refl
and_here false b c next none = rw (next refl) refl

not_below_here : (last old new : ℕ) → old ≤ new → nat_lt old last ≡ false → nat_lt new last ≡ false
not_below_here last old new rises none =
    let above : last ≤ new = omega (arith, ltb-false old last none) in
    le-ltb new last above

-- a count at its last value stays there
not_below : {B : Type 0} (last : ℕ) (count : B → ℕ) (xs : List B) (i : ℕ) (y d : B) → i < length xs
    → count (get_or xs i d) ≤ count y
    → all_below last count xs ≡ false → all_below last count (set xs i y) ≡ false
not_below last count [] i y d within rises none = absurd (omega arith)
not_below last count (x ∷ xs) zero y d within rises none =
    and_here (nat_lt (count x) last) (nat_lt (count y) last) (all_below last count xs) (not_below_here last (count x) (count y) rises) none
not_below last count (x ∷ xs) (suc i) y d within rises none =
    let lower : i < length xs = omega arith in
    and_next (nat_lt (count x) last) (all_below last count xs)
    (all_below last count (set xs i y)) (not_below last count xs i y d lower rises) none

-- each of those that are all below is
below_at : {B : Type 0} (last : ℕ) (count : B → ℕ) (xs : List B) (i : ℕ) (y : B) → i < length xs
    → all_below last count (set xs i y) ≡ true
    → count y < last
below_at last count [] i y within all = absurd (omega arith)
below_at last count (x ∷ xs) zero y within all =
    ltb-true (count y) last (first_so (nat_lt (count y) last) (all_below last count xs) all)
below_at last count (x ∷ xs) (suc i) y within all =
    let lower : i < length xs = omega arith in
    below_at last count xs i y lower (second_so (nat_lt (count x) last) (all_below last count (set xs i y)) all)

-- what the total was, and what it is
pub record Risen (last length before now : ℕ) (old new : ℕ) : Type 0 where
  pub later : before ≤ now
  pub cause : min (old + 1) last ≤ new → min (before + 1) (length * last) ≤ now

by_tests : {B : Type 0} (was is : Bool) (last : ℕ) (count : B → ℕ) (xs : List B) (i : ℕ) (y d : B)
    → i < length xs
    → count (get_or xs i d) ≤ count y → all_below last count xs ≡ was → all_below last count (set xs i y) ≡ is
    → Risen last (length xs) (if was then sum_by count xs else length xs * last)
    (if is then sum_by count (set xs i y) else length (set xs i y) * last) (count (get_or xs i d)) (count y)
by_tests true true last count xs i y d within rises before now =
    let sums = sum_by-set count xs i y d within in
    let below = below_at last count xs i y within now in
    record { later = omega (arith, sums); cause = λ more. omega (arith, sums, below) }
by_tests true false last count xs i y d within rises before now =
    let most = below_sum last count xs before in
    rw (length-set xs i y) (record { later = most; cause = λ more. omega arith })
by_tests false true last count xs i y d within rises before now =
    let none = not_below last count xs i y d within rises before in
    cc
by_tests false false last count xs i y d within rises before now =
    rw (length-set xs i y) (record { later = omega arith; cause = λ more. omega arith })

-- the total rises with one of the counts
pub total-set : {B : Type 0} (last : ℕ) (count : B → ℕ) (xs : List B) (i : ℕ) (y d : B)
    → i < length xs → count (get_or xs i d) ≤ count y
    → Risen last (length xs) (total last count xs) (total last count (set xs i y)) (count (get_or xs i d)) (count y)
total-set last count xs i y d within rises =
    by_tests (all_below last count xs) (all_below last count (set xs i y)) last count xs i y d within rises refl refl

-- a count that is raised by one of them has its cause in that one
pub caused : {B T E : Type 0} (n last : ℕ) (failed : E) (count : B → ℕ) (xs : List B) (i : ℕ) (old new : B) (result : Result T E)
    → length xs ≡ n → i < n → old ≡ get_or xs i old → HasCause failed last (count old) (count new) result
    → HasCause failed (n * last) (total last count xs) (total last count (set xs i new)) result
caused n last failed count xs i old new result size within here one =
    let there : i < length xs = omega arith in
    let rises : count (get_or xs i old) ≤ count new = rw (← here) one.later in
    let risen = total-set last count xs i new old there rises in
    record {
      later = risen.later;
      cause = λ is.
          let more : min (count (get_or xs i old) + 1) last ≤ count new = rw (← here) (one.cause is) in
          rw (← size) (risen.cause more);
    }

all_below-append : {B : Type 0} (last : ℕ) (count : B → ℕ) (xs : List B) (y : B)
    → all_below last count xs ≡ true → count y < last
    → all_below last count (xs ++ y ∷ []) ≡ true
all_below-append last count [] y all here = rw (lt-ltb (count y) last here) refl
all_below-append last count (x ∷ xs) y all here =
    rw (first_so (nat_lt (count x) last) (all_below last count xs) all)
    (all_below-append last count xs y (second_so (nat_lt (count x) last) (all_below last count xs) all) here)

-- one more that is below
pub below_more : {B : Type 0} (last : ℕ) (count : B → ℕ) (xs : List B) (i : ℕ) (d : B)
    → i < length xs
    → all_below last count (take i xs) ≡ true → count (get_or xs i d) < last → all_below last count (take (i + 1) xs) ≡ true
below_more last count xs i d within all here =
    rw (take_more xs i d within) (all_below-append last count (take i xs) (get_or xs i d) all here)

-- one that isn't below
pub one_above : {B : Type 0} (last : ℕ) (count : B → ℕ) (xs : List B) (i : ℕ) (d : B)
    → i < length xs → last ≤ count (get_or xs i d)
    → all_below last count xs ≡ false
one_above last count [] i d within above = absurd (omega arith)
one_above last count (x ∷ xs) zero d within above = rw (le-ltb (count x) last above) refl
one_above last count (x ∷ xs) (suc i) d within above =
    let lower : i < length xs = omega arith in
    and_right (nat_lt (count x) last) (all_below last count xs) (one_above last count xs i d lower above)

-- the total where one isn't below, and where all are
pub total_above : {B : Type 0} (n last : ℕ) (count : B → ℕ) (xs : List B) (i : ℕ) (d : B)
    → length xs ≡ n → i < length xs
    → last ≤ count (get_or xs i d) → n * last ≡ total last count xs
total_above n last count xs i d size within above =
    rw (one_above last count xs i d within above) (rw size refl)

pub total_below : {B : Type 0} (last : ℕ) (count : B → ℕ) (xs : List B)
    → all_below last count xs ≡ true
    → sum_by count xs ≡ total last count xs
total_below last count xs all = rw all refl

-- a member of a slice of them that isn't below
pub found_above : {B : Type 0} (n last : ℕ) (count : B → ℕ) (slice xs : List B) (i c : ℕ) (x : B)
    → slice ≡ xs → length xs ≡ n
    → i < length slice → x ≡ get_or slice i x → c ≡ count x → last ≤ c → n * last ≡ total last count xs
found_above {B} n last count slice xs i c x same size within here is above =
    let there : i < length xs = subst (λ (ys : List B). i < length ys) same within in
    let item : x ≡ get_or xs i x = subst (λ (ys : List B). x ≡ get_or ys i x) same here in
    let high : last ≤ count x = omega (arith, is) in
    total_above n last count xs i x size there (subst (λ (y : B). last ≤ count y) item high)

-- one member of a slice of them more
pub added_more : {B : Type 0} (last : ℕ) (count : B → ℕ) (slice xs : List B) (i c sum : ℕ) (x : B)
    → slice ≡ xs → i < length slice
    → x ≡ get_or slice i x → c ≡ count x → c < last → all_below last count (take i xs) ≡ true → sum ≡ sum_by count (take i xs)
    → (all_below last count (take (i + 1) xs) ≡ true) × (sum + c ≡ sum_by count (take (i + 1) xs))
added_more {B} last count slice xs i c sum x same within here is below all added =
    let there : i < length xs = subst (λ (ys : List B). i < length ys) same within in
    let item : x ≡ get_or xs i x = subst (λ (ys : List B). x ≡ get_or ys i x) same here in
    let low : count x < last = omega (arith, is) in
    let value : c ≡ count (get_or xs i x) = is ∙ ap count item in (
      below_more last count xs i x there all (subst (λ (y : B). count y < last) item low),
      omega (arith, sum_by_more count xs i x there, value, added),
    )

-- the sum of some of them
pub sum_bounded : {B : Type 0} (n last : ℕ) (count : B → ℕ) (xs : List B) (i sum : ℕ)
    → length xs ≡ n
    → all_below last count (take i xs) ≡ true → sum ≡ sum_by count (take i xs) → sum ≤ n * last
sum_bounded n last count xs i sum size all added =
    let some : length (take i xs) ≤ n = omega (arith, length-take i xs, size) in
    omega (arith, below_sum last count (take i xs) all, mul-le-mul_right last some, added)
