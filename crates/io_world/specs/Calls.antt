-- The calls that a host in memory keeps.
use Rattle.std.specs.Prelude.{ℕ, List, map, string_bytes, Vec, Result, Ok, Err}
use Rattle.std.specs.declared.alloc.Global.{Global}
use Rattle.io_world.specs.Talks.{Event, started, wrote, heard, stopped}
use Rattle.io_world.specs.declared.host.HostFault.{HostFault}
use Rattle.io_world.specs.declared.call_log.Act.{Act}
use Rattle.io_world.specs.declared.call_log.Act.TheVariants.{Started, Wrote, Heard, Stopped}

abbrev pub bytes_of : Result (Vec ℕ Global) HostFault → Result (List ℕ) HostFault
bytes_of (Ok v) = Ok v.items
bytes_of (Err fault) = Err fault

abbrev pub event_of : Act → Event
event_of (Started child words answer) = started child (map string_bytes words.items) answer
event_of (Wrote child bytes answer) = wrote child bytes.items answer
event_of (Heard child room answer) = heard child room (bytes_of answer)
event_of (Stopped child answer) = stopped child answer
