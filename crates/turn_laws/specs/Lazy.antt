-- No turn begins where a plan is at hand, and a run doesn't end with a limit there.
use Rattle.std.specs.Prelude.{◌≡◌, ◌≤◌, ◌⊎◌, ℕ, List, length, take, Bool, true, false, Some, slice_get}
use Rattle.task_model.specs.Plans.{IsFar, IsSolvable}
use Rattle.task_model.specs.Streams.{AreDue}
use Rattle.task_model.specs.declared.limits.TheConstants.{MOST_DUE}
use Rattle.task_model.specs.declared.stream.Instance.{Instance}
use Rattle.task_model.specs.declared.task.Task.{Task}
use Rattle.transcript_model.specs.Rounds.{Limits}
use Rattle.transcript_model.specs.Transcript.{known_of, notes_of}
use Rattle.transcript_model.specs.Turns.{Stage, between}
use Rattle.transcript_model.specs.declared.entry.Entry.{Entry}
use Rattle.transcript_model.specs.declared.entry.Entry.TheVariants as entry
use Rattle.transcript_model.specs.declared.head.Mode.{Mode}
use Rattle.transcript_model.specs.declared.head.Mode.TheVariants.{Incremental, Focused, Binding, Adaptive}
use Rattle.transcript_model.specs.declared.outcome.LimitKind.TheVariants.{Calls, Instances}
use Rattle.transcript_model.specs.declared.outcome.Outcome.{Outcome}
use Rattle.transcript_model.specs.declared.outcome.Outcome.TheVariants as outcome

-- ---- the entries that begin turns

-- the line of a whole level
abbrev pub is_level_line : Entry → Bool
is_level_line entry.Level = true
is_level_line (entry.Ask number turn call) = false
is_level_line (entry.Got number tuples values) = false
is_level_line (entry.Value number value) = false
is_level_line (entry.End number) = false
is_level_line (entry.Dream uses steps) = false
is_level_line entry.Nothing = false
is_level_line entry.Reset = false
is_level_line (entry.Pick number) = false
is_level_line (entry.Retire number) = false

-- a dream, or that there is none
abbrev pub is_dream_line : Entry → Bool
is_dream_line (entry.Dream uses steps) = true
is_dream_line entry.Nothing = true
is_dream_line entry.Level = false
is_dream_line (entry.Ask number turn call) = false
is_dream_line (entry.Got number tuples values) = false
is_dream_line (entry.Value number value) = false
is_dream_line (entry.End number) = false
is_dream_line entry.Reset = false
is_dream_line (entry.Pick number) = false
is_dream_line (entry.Retire number) = false

-- A turn begins with the line of a level in incremental mode, and with a dream or the want of one in the others.
abbrev pub begins : Mode → Entry → Bool
begins Incremental e = is_level_line e
begins Focused e = is_dream_line e
begins Binding e = is_dream_line e
begins Adaptive e = is_dream_line e

-- ---- where a turn is needed

-- No plan exists; or, in the modes that dream, each is past the limit of states.
abbrev pub IsTurnNeeded : Limits → Task → List Entry → Type 0
IsTurnNeeded limits task before =
    ¬ (IsSolvable task (known_of task before))
    ⊎ (¬ (limits.mode ≡ Incremental) × IsFar task (known_of task before) limits.states)

-- Each turn began where it was needed.
abbrev pub IsLazy : Limits → Task → List Entry → Type 0
IsLazy limits task entries =
    (k : ℕ) (e : Entry) → slice_get entries k ≡ Some e → begins limits.mode e ≡ true
    → IsTurnNeeded limits task (take k entries)

-- A limit of instances, or of calls behind no cut batch, stands only where a further turn is needed.
abbrev pub IsLazyEnd : Limits → Task → List Entry → Stage → Outcome → Type 0
IsLazyEnd limits task entries stage o =
    (o ≡ outcome.Limit Instances) ⊎ ((o ≡ outcome.Limit Calls) × (stage ≡ between))
    → IsTurnNeeded limits task entries

-- Where the limit of calls stands behind no cut batch, at most so many instances are due as may be listed.
abbrev pub IsFewDue : Task → List Entry → Stage → Outcome → Type 0
IsFewDue task entries stage o =
    o ≡ outcome.Limit Calls → stage ≡ between
    → (list : List Instance) × AreDue task (known_of task entries) (notes_of task entries) list
    × (length list ≤ MOST_DUE)
