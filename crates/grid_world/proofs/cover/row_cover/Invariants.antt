use Rattle.std.proofs.Common.{◌≡◌, ℕ, ◌<◌, take}
use Rattle.grid_world.specs.Covers.{covered, reaches}
use Rattle.grid_world.proofs.cover.row_cover.Given as goal

abbrev pub invariant-loop-obstacle : goal.invariant-loop-obstacle
invariant-loop-obstacle l =
    (column : ℕ) → column < 1000 → reaches l.ends column ≡ covered (take l.obstacle-index l.obstacles) l.block l.region l.y column
