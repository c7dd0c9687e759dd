use Rattle.std.proofs.Common.{◌≡◌}
use Rattle.grid_world.specs.Answers.{corners, nth, poses_at}
use Rattle.grid_world.proofs.PlacesLemmas.{rows_from}
use Rattle.grid_world.proofs.place.pose_in.Given as goal

abbrev pub invariant-loop-row : goal.invariant-loop-row
invariant-loop-row l =
    nth l.turn (poses_at l.grid l.block l.region (corners l.region)) ≡ nth l.left (rows_from l.grid l.block l.region l.row)
