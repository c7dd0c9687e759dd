use Rattle.std.proofs.Common.{ap, option_map, string_bytes}
use Rattle.command_line.specs.Held.{held_solve}
use Rattle.command_files.proofs.MapsLemmas.{extends_none, none_made}
use Rattle.command_files.proofs.maps.meant_pools.Goals as goal

pub returns-in-None-clause-stop : goal.returns-in-None-clause-stop
returns-in-None-clause-stop g c =
    none_made _ (ap (option_map string_bytes) c.in-None.is) _ (extends_none (g.F.Files.asked c.args.files.now))
    (held_solve c.args.words.now) c.args.task.now c.program_pools.result c.program_pools.ensures.stop
