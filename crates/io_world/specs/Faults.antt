-- Counts of faults, and when a failure may be answered.
use Rattle.std.specs.Prelude.{◌≡◌, ◌≢◌, ℕ, List, ◌++◌, Option, Some, None, ⊤, ◌+◌, ◌-◌, ◌^◌, ◌≤◌, min, Result, Err, IsErrOf}

-- the last value of a count
abbrev pub last_count : ℕ
last_count = 2 ^ 48 - 1

-- the last number of a call
abbrev pub last_call : ℕ
last_call = 2 ^ 64 - 1

-- the count rose, or stands at its last value
abbrev pub Rose : ℕ → ℕ → ℕ → Type 0
Rose last before now = min (before + 1) last ≤ now

-- the count has not fallen, and it rose where the call answered `failed`
pub record HasCause {T E : Type 0} (failed : E) (last before now : ℕ) (result : Result T E) : Type 0 where
  pub later : before ≤ now
  pub cause : IsErrOf result failed → Rose last before now

-- one fault is one more on the count, and every other answer leaves the count
pub record Counts {T E : Type 0} (failed : E) (last before now : ℕ) (result : Result T E) : Type 0 where
  pub raised : IsErrOf result failed → now ≡ min (before + 1) last
  pub kept : result ≢ Err failed → now ≡ before

-- a list that is told after was told before, and has these members more
abbrev pub Extends : {A : Type 0} → Option (List A) → Option (List A) → List A → Type 0
Extends old None more = ⊤
Extends {A} old (Some after) more =
    (before : List A) × (old ≡ Some before) × (after ≡ before ++ more)
