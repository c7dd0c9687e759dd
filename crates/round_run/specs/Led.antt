-- Whether a part of a run stops since memory is wanting.
use Rattle.std.specs.Prelude.{Bool, true, false, Result, Ok, Err}
use Rattle.round_run.specs.declared.fault.RunFault.{RunFault}
use Rattle.round_run.specs.declared.fault.RunFault.TheVariants.{Answer, Generator, Write, Memory}

-- the fault is that memory is wanting
abbrev pub is_memory : RunFault → Bool
is_memory Memory = true
is_memory Generator = false
is_memory Write = false
is_memory (Answer number why) = false

-- a part of a run stops since memory is wanting
abbrev pub stops_for_memory : {T : Type 0} → Result T RunFault → Bool
stops_for_memory (Ok x) = false
stops_for_memory (Err fault) = is_memory fault
