use Rattle.std.proofs.Common.{sym, subst, [], ◌∷◌}
use Rattle.round_run.proofs.StoppedLemmas.{handed}
use Rattle.command_files.proofs.MapsLemmas.{map_refused}
use Rattle.command_files.specs.Inputs.{EndsHere}
use Rattle.stream_map.specs.Accepted.{RefusesMap}
use Rattle.command_files.proofs.maps.map_pools.Goals as goal

pub returns-clause-stop : goal.returns-clause-stop
returns-clause-stop g c d p s spelled =
    subst (EndsHere _ _ _) (sym c.stop_of_map.ensures.stop)
    (map_refused _ d p s c.args.task.now spelled c.args.path.now c.in_ok-bytes.bytes.items c.in_ok-bytes.ensures.bytes
    c.in_ok-bytes.ensures.asked c.in-Err.fault
    (subst (λ bytes. RefusesMap c.args.task.now bytes c.in-Err.fault) c.as_slice.ensures.value c.in-Err.ensures.refused))

pub returns-in_err-bytes-clause-stop : goal.returns-in_err-bytes-clause-stop
returns-in_err-bytes-clause-stop g c =
    handed c.from_residual.result c.in_err-bytes.field-0.0 _ c.from_residual.ensures.1
    (λ d p s spelled. c.in_err-bytes.ensures.stop (d ∷ p ∷ s ∷ []))
