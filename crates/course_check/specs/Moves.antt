-- How a course moves on at a point of a transcript.
use Rattle.std.specs.Prelude.{ℕ, List}
use Rattle.course_check.specs.Agendas.{HasPicked, HasSettled, ModeAgenda, MovesOn}
use Rattle.course_check.specs.Places.{Phase as Awaited}
use Rattle.course_check.specs.declared.point.BatchPoint.{BatchPoint}
use Rattle.pools.specs.Pools.{shares_of}
use Rattle.transcript_model.specs.Turns.{Skeleton}
use Rattle.transcript_model.specs.declared.entry.Entry.{Entry}

-- the dream's next batch begins; where nothing of it may be asked, this comes
abbrev pub MovesAt : BatchPoint → List Entry → Awaited → ModeAgenda → ModeAgenda → Type 0
MovesAt t behind over old new =
    MovesOn t.task.now t.facts.now.known t.queue.now behind (shares_of t.pools.now) over t.calls old new

-- the place has moved on by itself, where it had to
abbrev pub SettlesAt : BatchPoint → List Entry → ModeAgenda → ModeAgenda → Type 0
SettlesAt t entries old new =
    HasSettled t.task.now t.facts.now.known t.queue.now entries (shares_of t.pools.now) t.calls old new

-- the skeleton at this place was picked
abbrev pub PicksAt : BatchPoint → ℕ → Skeleton → (from before : ℕ) → ModeAgenda → ModeAgenda → Type 0
PicksAt t place skeleton from before old new =
    HasPicked t.task.now t.facts.now.known t.queue.now (shares_of t.pools.now) place skeleton from before t.calls old new
