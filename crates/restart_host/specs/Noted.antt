-- Calls that are noted, and whether one of them wanted memory.
use Rattle.std.specs.Prelude.{◌≡◌, ◌⊎◌, ℕ, true, false, Result, Ok, Err}
use Rattle.io_world.specs.Leads.{wants_memory}
use Rattle.io_world.specs.Logs.{Calls, Notes}
use Rattle.io_world.specs.Talks.{Event}
use Rattle.io_world.specs.declared.host.HostFault.{HostFault}

-- some call isn't among these, which aren't whole
pub record Lost (old new : Calls) : Type 0 where
  pub events : new.events ≡ old.events
  pub whole : new.whole ≡ false

-- The call was noted, or there was no memory for that, and it answers so: the log isn't whole from then on.
pub record IsCallNoted {T : Type 0} (old new : Calls) (event : Event) (result : Result T HostFault) : Type 0 where
  pub noted : Notes old new event ⊎ ((wants_memory result ≡ true) × Lost old new)

-- the same answer, with this number
abbrev pub counted : Result (Unit {0}) HostFault → ℕ → Result ℕ HostFault
counted (Ok u) count = Ok count
counted (Err fault) count = Err fault
