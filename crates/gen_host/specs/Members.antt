-- Many counts as one, and a list's members by place.
use Rattle.std.specs.Prelude.{ℕ, ◌*◌, Bool, true, not, ◌&&◌, List, [], ◌∷◌, length, nat_lt, slice_get, sum_by, if◌then◌else◌, Option, Some, None}

abbrev pub all_below : {B : Type 0} → ℕ → (B → ℕ) → List B → Bool
all_below last count [] = true
all_below last count (x ∷ xs) = nat_lt (count x) last && all_below last count xs

-- the sum of the counts while each is below its last value, and else the last value of the sum
abbrev pub total : {B : Type 0} → ℕ → (B → ℕ) → List B → ℕ
total last count xs = if all_below last count xs then sum_by count xs else length xs * last

-- a value of the member at a place, or another where there is none
abbrev pub at_member : {A B : Type 0} → A → (B → A) → Option B → A
at_member none value None = none
at_member none value (Some x) = value x

-- the same by the place
abbrev pub at_members : {A B : Type 0} → A → (B → A) → List B → ℕ → A
at_members none value xs k = at_member none value (slice_get xs k)

-- none of them runs
abbrev pub all_idle : {B : Type 0} → (B → Bool) → List B → Bool
all_idle running [] = true
all_idle running (x ∷ xs) = not (running x) && all_idle running xs
