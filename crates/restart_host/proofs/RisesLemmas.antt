-- By how much the count of the host below rose where a call was refused.
use Rattle.std.proofs.Common.{◌≡◌, ℕ, ◌+◌, ◌<◌, Bool, arith, inl, inr}
use Rattle.std.proofs.lemmas.Bool.{cases_lt}
use Rattle.restart_host.specs.Leads.{Carries, Parts, RoseBy}

-- Where a first call was refused, all failures were made good that could be, and one more was not.
pub refused_more : (last : ℕ) (old new : Parts) (memory : Bool) → (carries : Carries last old new memory)
    → old.faults ≡ 0 → 0 < new.faults → new.left ≡ 0 → old.left < carries.count
refused_more last old new memory carries none some spent = omega (arith, carries.left, none, some, spent)

pub refused_rose : (last : ℕ) (old new : Parts) (memory : Bool) → Carries last old new memory → old.faults ≡ 0
    → 0 < new.faults → new.left ≡ 0 → RoseBy (old.left + 1) last old.below.faults new.below.faults
refused_rose last old new memory carries none some spent = elim (cases_lt new.below.faults last) [
  | inl less ↦ omega (arith, carries.rose less, carries.left, none, some, spent)
  | inr most ↦ omega (arith, most)
]
