-- What a sink in memory is seen as.
use Rattle.std.specs.Prelude.{ℕ, List, length, ◌-◌, Bool, ◌||◌, ◌==◌}
use Rattle.io_world.specs.Plans.{Plan, fails_next}

pub record MemSinkState : Type 0 where
  -- the most bytes that one write takes
  pub piece : ℕ
  -- the most bytes that all writes take
  pub room : ℕ
  pub plan : Plan
  pub faults : ℕ
  pub bytes : List ℕ

-- how many bytes may still be taken
abbrev pub room_left : MemSinkState → ℕ
room_left sink = sink.room - length sink.bytes

-- the next write fails
abbrev pub refuses_next : MemSinkState → Bool
refuses_next sink = fails_next sink.plan || (room_left sink == 0)
