-- What a source in memory is seen as.
use Rattle.std.specs.Prelude.{ℕ, List}
use Rattle.io_world.specs.Plans.{Plan}

pub record MemSourceState : Type 0 where
  pub left : List ℕ
  -- the most bytes that each read gives, where it is at least 1
  pub cuts : List ℕ
  pub plan : Plan
  pub faults : ℕ
