-- Lines of a transcript that are neither requests nor answers: which may have requests behind them, and what calls on
-- children come behind these alone.
use Rattle.std.specs.Prelude.{◌≡◌, ◌⊎◌, ℕ, List, [], ◌∷◌, ◌++◌, Bool, true, false, Option, Some, slice_get}
use Rattle.io_world.specs.Talks.{Event}
use Rattle.session_core.specs.Session.{IsLearnt}
use Rattle.session_core.specs.State.{State}
use Rattle.task_model.specs.declared.task.Task.{Task}
use Rattle.transcript_model.specs.Legal.{asks_of, is_level}
use Rattle.transcript_model.specs.declared.entry.Entry.{Entry}
use Rattle.transcript_model.specs.declared.entry.Entry.TheVariants as entry
use Rattle.transcript_model.specs.declared.head.Head.{Head}
use Rattle.transcript_model.specs.declared.head.Mode.{Mode}
use Rattle.transcript_model.specs.declared.head.Mode.TheVariants.{Incremental, Focused, Binding, Adaptive}
use Rattle.round_run.specs.Breaking.{RunBreaks}
use Rattle.round_run.specs.Calls.{Runs}
use Rattle.round_run.specs.declared.fault.RunFault.{RunFault}

-- the mark is put behind the transcript
pub record IsMarked (mark : Entry) (old new : State) : Type 0 where
  pub entries : new.entries ≡ old.entries ++ mark ∷ []
  pub asked : new.asked ≡ old.asked
  pub version : new.version ≡ old.version
  pub calls : new.calls ≡ old.calls
  pub pools : new.pools ≡ old.pools
  pub working : new.failed ≡ false
  pub learnt : IsLearnt new

-- ---- lines before requests

abbrev pub is_level_or_dream : Entry → Bool
is_level_or_dream entry.Level = true
is_level_or_dream (entry.Dream uses steps) = true
is_level_or_dream e = false

abbrev pub is_level_or_pick : Entry → Bool
is_level_or_pick entry.Level = true
is_level_or_pick (entry.Pick number) = true
is_level_or_pick e = false

-- Requests stand behind the line of a level; in focused and binding mode also behind a dream, and in adaptive mode also
-- behind a skeleton's pick.
abbrev pub opens_requests : Mode → Entry → Bool
opens_requests Incremental e = is_level e
opens_requests Focused e = is_level_or_dream e
opens_requests Binding e = is_level_or_dream e
opens_requests Adaptive e = is_level_or_pick e

-- such a line stands in the transcript
abbrev pub HasTurnLine : Mode → List Entry → Type 0
HasTurnLine mode entries =
    (k : ℕ) × (e : Entry) × (slice_get entries k ≡ Some e) × (opens_requests mode e ≡ true)

-- ---- calls on children

-- These entries came by the calls that came to the log. None was made but where a line came that may have requests
-- behind it, and none where no request came.
pub record Advances (task : Task) (head : Head) (before after : List Entry)
    (was now : Option (List Event)) : Type 0 where
  pub runs : Runs task head before after was now
  pub needed : (now ≡ was) ⊎ HasTurnLine head.mode runs.more
  pub untouched : asks_of runs.more ≡ 0 → now ≡ was

-- The same where it broke off: a call was made only where such a line stands.
abbrev pub TurnBreaks : Task → Head → List Entry → RunFault → Option (List Event)
    → Option (List Event) → (List Entry → Type 0) → List Entry
    → Type 0
TurnBreaks task head before fault old new Front more =
    RunBreaks task head before fault old new Front more × ((new ≡ old) ⊎ HasTurnLine head.mode more)
