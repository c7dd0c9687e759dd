use Rattle.std.proofs.Common.{◌≡◌, take, Some}
use Rattle.grid_play.specs.Faults.{marks_from}
use Rattle.grid_play.specs.Worlds.{home_world, world_after}
use Rattle.grid_play.proofs.PlayLemmas.{NoneUpTo}
use Rattle.grid_play.proofs.scene.play_out.Given as goal

-- the world and the marks are those of the steps so far, none of which has a fault
abbrev pub invariant-loop-place : goal.invariant-loop-place
invariant-loop-place l = record {
  world : world_after l.grid (home_world l.grid) (take l.place l.steps) ≡ Some l.scene.world.items;
  marks : l.scene.marks.items ≡ marks_from l.grid 1 (take l.place l.steps);
  none : NoneUpTo l.grid l.steps l.place;
}
