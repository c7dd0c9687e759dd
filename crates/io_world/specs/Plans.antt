-- Which calls of a form in memory fail by their numbers, and what of bytes one call gives.
use Rattle.std.specs.Prelude.{◌≡◌, ℕ, Bool, List, ◌+◌, ◌==◌, min, if◌then◌else◌, slice_get, unwrap_or, Result, MatchResult, true, false}
use Rattle.std.specs.List.{list_any}
use Rattle.io_world.specs.Faults.{last_call}

-- the numbers of the calls that fail, and the number of the next call
pub record Plan : Type 0 where
  pub fails : List ℕ
  pub next : ℕ

-- the next call fails by its number
abbrev pub fails_next : Plan → Bool
fails_next plan = list_any (λ number. number == plan.next) plan.fails

-- one call later
abbrev pub after_call : Plan → Plan
after_call plan = record plan { next = min (plan.next + 1) last_call }

-- no call was made yet
abbrev pub planned : List ℕ → Plan
planned fails = record { fails = fails; next = 0 }

-- the most that a read gives: its cut, where it is stated and at least 1, and else no less than `most`
abbrev pub cut_or : List ℕ → ℕ → ℕ → ℕ
cut_or cuts number most =
    let cut = unwrap_or (slice_get cuts number) 0 in if cut == 0 then most else cut

-- Ok comes only where the call doesn't fail, and `failed` only where it does
abbrev pub FailsWhere : {T E : Type 0} → E → Bool → Result T E → Type 0
FailsWhere failed fails result =
    MatchResult result (λ _. fails ≡ false) (λ fault. fault ≡ failed → fails ≡ true)
