use Rattle.std.proofs.Common.{sym, subst}
use Rattle.grid_text.specs.Files.{BlamesGridText}
use Rattle.command_files.proofs.MapsLemmas.{grid_refused}
use Rattle.command_files.specs.Inputs.{EndsHere}
use Rattle.command_files.proofs.maps.read_grid_file.Goals as goal

pub returns-in-Err-clause-stop : goal.returns-in-Err-clause-stop
returns-in-Err-clause-stop g c texts =
    subst (EndsHere _ texts _) (sym c.stop_of_grid.ensures.stop)
    (grid_refused _ texts c.args.path.now c.in_ok-bytes.bytes.items c.in_ok-bytes.ensures.bytes c.in_ok-bytes.ensures.asked c.in-Err.fault
    (subst (λ bytes. BlamesGridText bytes c.in-Err.fault) c.as_slice.ensures.value c.in-Err.ensures.fault))
