-- What turns begin with, and what comes behind their lines.
use Rattle.std.specs.Prelude.{◌≡◌, ◌⊎◌, ◌&&◌, ◌-◌, ℕ, List, [], length, take, true}
use Rattle.dream_asks.specs.First.{AreFirstAsks}
use Rattle.instance_queue.specs.Level.{due_instances}
use Rattle.instance_queue.specs.declared.due.Due.{Due}
use Rattle.course_check.specs.Agendas.{BeginsBatch, HasPicked, HasSettled, ModeAgenda, MovesOn, is_dreamt, is_resting, is_undreamt, with_run}
use Rattle.course_check.specs.BatchAgendas.{is_over}
use Rattle.course_check.specs.Places.{HasNoneToPick, dreamt, joining, keeping, resting}
use Rattle.course_check.specs.declared.point.BatchPoint.{BatchPoint}
use Rattle.learning.specs.declared.knowledge.Knowledge.{Knowledge}
use Rattle.pools.specs.Pools.{shares_of}
use Rattle.task_model.specs.Dreams as dreams
use Rattle.task_model.specs.declared.task.Task.{Task}
use Rattle.transcript_model.specs.Rounds.{Limits}
use Rattle.transcript_model.specs.Turns.{MayBegin, Skeleton}
use Rattle.transcript_model.specs.declared.entry.Entry.{Entry}
use Rattle.transcript_model.specs.declared.head.Mode.{Mode}
use Rattle.transcript_model.specs.declared.head.Mode.TheVariants.{Adaptive, Binding, Focused, Incremental}
use Rattle.replay_check.specs.declared.bounds.Bounds.{Bounds}
use Rattle.replay_check.specs.declared.standing.Standing.{Standing}

-- a turn may begin, as far as what is due and the calls go, and this is due
abbrev pub AreDueFor : Limits → Task → List Entry → List Due → Type 0
AreDueFor limits task entries dues =
    (may : MayBegin limits task entries) × (due_instances dues ≡ may.list)

-- There is no dream, and in adaptive mode no skeleton to pick either.
abbrev pub HasNothing : Mode → ModeAgenda → Type 0
HasNothing mode a = ((is_over a.batch && is_undreamt a.phase) ≡ true) × HasNoneToPick mode a.kept

-- A level may be asked, as far as the course goes: a turn of incremental mode begins with it, or it stands behind the
-- want of a dream, where no skeleton is to be picked and nothing was tried.
abbrev pub AsksLevel : Mode → ModeAgenda → Type 0
AsksLevel mode a =
    ((mode ≡ Incremental) × ((is_over a.batch && is_resting a.phase) ≡ true))
    ⊎ (HasNothing mode a × (a.kept.tried ≡ []))

-- A skeleton comes to be picked, if there is one: in adaptive mode behind a dream, or behind the want of one.
abbrev pub PicksNext : Mode → ModeAgenda → Type 0
PicksNext mode a =
    (mode ≡ Adaptive)
    × (((is_over a.batch && is_dreamt a.phase) ≡ true) ⊎ ((is_over a.batch && is_undreamt a.phase) ≡ true))

-- The point of a transcript that is judged by these, where this is known.
pub record IsPointOf (b : Bounds) (l : Knowledge) (p : BatchPoint) : Type 0 where
  pub task_is : p.task.now ≡ b.task.now
  pub known_is : p.facts.now.known ≡ l.facts.known
  pub notes_is : p.queue.now ≡ l.queue
  pub pools_is : p.pools.now ≡ b.pools.now
  pub calls_is : p.calls ≡ b.calls

-- ---- behind a dream

-- The one batch begins over what may be asked first of these entries, which joins what was tried.
pub record AsksOnce (b : Bounds) (entries : List dreams.SupposedEntry) (old new : Standing) : Type 0 where
  pub dues : List Due
  pub asks : AreFirstAsks b.task.now old.knowledge.facts.known old.knowledge.queue
      (length old.knowledge.facts.known.names) entries dues
  pub begins : BeginsBatch (shares_of b.pools.now) dues (length old.knowledge.asked.items) b.calls
      (joining old.course.kept (take (b.calls - length old.knowledge.asked.items) (due_instances dues)))
      new.course
  pub knowledge_is : new.knowledge ≡ old.knowledge

-- The first of the batches begins, behind a line that is the last of so many entries.
pub record RunsDream (b : Bounds) (from : ℕ) (entries : List dreams.SupposedEntry) (old new : Standing) : Type 0 where
  pub moves : MovesOn b.task.now old.knowledge.facts.known old.knowledge.queue [] (shares_of b.pools.now) resting b.calls
      (with_run old.course entries (length old.knowledge.facts.known.names) from (length old.knowledge.asked.items))
      new.course
  pub knowledge_is : new.knowledge ≡ old.knowledge

-- The dream becomes the last skeleton, and one is picked next.
pub record KeepsDream (entries : List dreams.SupposedEntry) (old new : Standing) : Type 0 where
  pub batch_is : new.course.batch ≡ old.course.batch
  pub phase_is : new.course.phase ≡ dreamt
  pub kept_is : new.course.kept ≡ keeping old.course.kept entries (length old.knowledge.facts.known.names)
  pub knowledge_is : new.knowledge ≡ old.knowledge

-- the judge goes on behind a dream with these entries, whose line is the last of so many entries
abbrev pub GoesOnBehind : Mode → Bounds → ℕ → List dreams.SupposedEntry → Standing → Standing → Type 0
GoesOnBehind Incremental b from entries old new = AsksOnce b entries old new
GoesOnBehind Focused b from entries old new = AsksOnce b entries old new
GoesOnBehind Binding b from entries old new = RunsDream b from entries old new
GoesOnBehind Adaptive b from entries old new = KeepsDream entries old new

-- ---- behind a pick, and behind an answer

-- The skeleton at this place is picked, by a line that is the last of so many entries.
pub record RunsPick (b : Bounds) (from place : ℕ) (s : Skeleton) (old new : Standing) : Type 0 where
  pub picked : HasPicked b.task.now old.knowledge.facts.known old.knowledge.queue (shares_of b.pools.now) place s from
      (length old.knowledge.asked.items) b.calls old.course new.course
  pub knowledge_is : new.knowledge ≡ old.knowledge

-- The dream's next batch begins behind these entries, or its turn is over, where that is due.
pub record SettlesOn (b : Bounds) (entries : List Entry) (old new : Standing) : Type 0 where
  pub settled : HasSettled b.task.now old.knowledge.facts.known old.knowledge.queue entries (shares_of b.pools.now) b.calls
      old.course new.course
  pub knowledge_is : new.knowledge ≡ old.knowledge
