-- Calls on a host, and whether one of them wanted memory.
use Rattle.std.specs.Prelude.{◌≡◌, Bool, true, false, Result, Ok, Err}
use Rattle.io_world.specs.declared.host.HostFault.{HostFault}
use Rattle.io_world.specs.declared.host.HostFault.TheVariants.{Failed, Memory}

-- the call was refused for want of memory
abbrev pub wants_memory : {T : Type 0} → Result T HostFault → Bool
wants_memory (Ok t) = false
wants_memory (Err Failed) = false
wants_memory (Err Memory) = true

-- Calls led there, of which one may have wanted memory only where this is said.
pub record IsLed (Leads : Bool → Type 0) (memory : Bool) : Type 0 where
  pub wanted : Bool
  pub quiet : memory ≡ false → wanted ≡ false
  pub leads : Leads wanted
