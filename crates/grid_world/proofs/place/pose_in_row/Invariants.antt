use Rattle.grid_world.specs.Answers.{poses_at, row_corners}
use Rattle.grid_world.proofs.PlacesLemmas.{Leaves, row_from}
use Rattle.grid_world.proofs.place.pose_in_row.Given as goal

abbrev pub invariant-loop-column : goal.invariant-loop-column
invariant-loop-column l =
    Leaves (poses_at l.grid l.block l.region (row_corners l.region.x l.region.w l.y)) l.turn l.left
    (row_from l.grid l.block l.region l.y l.column)
