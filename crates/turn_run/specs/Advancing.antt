-- What a mode does in a turn, and what turns have done to the session, to the report and to the log.
use Rattle.std.specs.Prelude.{◌≡◌, ◌⊎◌, ℕ, ◌+◌, ◌*◌, ◌<◌, ◌≤◌, List, ◌++◌, length, count_by, Bool, true, false, Option, Result}
use Rattle.io_world.specs.Talks.{Event, Talk}
use Rattle.turn_laws.specs.Modes.{TurnOf, nothing_kept}
use Rattle.session_core.specs.State.{State}
use Rattle.task_model.specs.declared.task.Task.{Task}
use Rattle.transcript_model.specs.Legal.{asks_of, is_level}
use Rattle.transcript_model.specs.Rounds.{limits_of}
use Rattle.transcript_model.specs.Turns.{Kept}
use Rattle.transcript_model.specs.declared.entry.Entry.{Entry}
use Rattle.transcript_model.specs.declared.head.Head.{Head}
use Rattle.transcript_model.specs.declared.outcome.LimitKind.TheVariants.{Calls}
use Rattle.transcript_model.specs.declared.outcome.Outcome.{Outcome}
use Rattle.transcript_model.specs.declared.outcome.Outcome.TheVariants as outcome
use Rattle.turn_run.specs.Reports.{IsRun}
use Rattle.round_run.specs.Desk.{AtDesk, OnTurn}
use Rattle.round_run.specs.Told.{Stretch}
use Rattle.round_run.specs.TurnLines.{HasTurnLine}
use Rattle.round_run.specs.declared.fault.RunFault.{RunFault}
use Rattle.turn_run.specs.Turns.{HasShortDreams, IsFrontOfRun, IsSettledEnd, IsSure}
use Rattle.turn_run.specs.declared.turns.Turned.{Turned}
use Rattle.turn_run.specs.declared.turns.Turned.TheVariants.{Done, Spent, Known}
use Rattle.round_run.specs.Dialogue.{Dialogue, workers_in}
use Rattle.round_run.specs.Rolling.{IsFrontPart}

-- ---- one turn

-- A turn asked something, or it asked nothing and fewer such turns may follow.
abbrev pub Falls : (asked idle asked_now idle_now : ℕ) → Type 0
Falls asked idle asked_now idle_now = (asked < asked_now) ⊎ ((asked_now ≡ asked) × (idle_now < idle))

-- The entries that came are a whole turn of the mode; or one whose last batch was cut, and the limit of calls is sure.
-- Its dream has no more steps than a search may have states. Or none came, and this outcome is sure.
abbrev pub HasTurned : Task → Head → Kept → Kept → State → State → Turned → Type 0
HasTurned task head kept next old new Done =
    (now : List Entry) × (new.entries ≡ old.entries ++ now)
    × TurnOf head.mode (limits_of head) task kept old.entries now next false × HasShortDreams head.states now
HasTurned task head kept next old new Spent =
    (now : List Entry) × (last : Kept) × (new.entries ≡ old.entries ++ now)
    × TurnOf head.mode (limits_of head) task kept old.entries now last true
    × IsSure head task new.entries (outcome.Limit Calls) × HasShortDreams head.states now
HasTurned task head kept next old new (Known o) =
    (new.entries ≡ old.entries) × (next ≡ kept) × IsSettledEnd head task old.entries o

-- Between two turns of a mode: what it holds by itself of how much was asked, only so many turns may still ask nothing,
-- and no more levels stand than requests.
pub record StandsBetween (Holds : ℕ → Type 0) (idle : ℕ) (s : State) : Type 0 where
  pub holds : Holds (length s.asked)
  pub room : idle ≤ 2 * length s.asked + 1
  pub levels : count_by is_level s.entries ≤ length s.asked

-- What a turn has done, where a mode carried this before and carries that afterwards.
pub record RanTurn (task : Task) (head : Head) (kept next : Kept) (idle idle_now : ℕ)
    (Holds : ℕ → Type 0) (old new : State) (t : Turned) : Type 0 where
  pub turned : HasTurned task head kept next old new t
  pub falls : t ≡ Done → Falls (length old.asked) idle (length new.asked) idle_now
  pub fits : StandsBetween Holds idle_now new

-- Nothing came yet; or these are the entries before and the first of a turn of the mode.
abbrev pub IsFrontOfTurn : Task → Head → Kept → List Entry → List Entry → Type 0
IsFrontOfTurn task head kept before es =
    (es ≡ before)
    ⊎ IsFrontPart before (λ now. (next : Kept) × (cut : Bool)
    × TurnOf head.mode (limits_of head) task kept before now next cut) es

-- what a turn of a mode has done to a desk, where the mode carried this before and carries that afterwards
abbrev pub OnModeTurn : AtDesk → AtDesk → Stretch → Kept → Kept → ℕ → ℕ → (ℕ → Type 0) → Result Turned RunFault → Type 0
OnModeTurn old new c kept next idle idle_now Holds result =
    OnTurn old new c (RanTurn old.task old.head kept next idle idle_now Holds old.state new.state)
    (IsFrontOfTurn old.task old.head kept old.state.entries) result

-- ---- all turns

-- before the first turn a mode carries nothing, and none may ask nothing
pub record IsFreshMode (kept : Kept) (idle : ℕ) (Holds : ℕ → Type 0) : Type 0 where
  pub nothing : kept ≡ nothing_kept
  pub still : idle ≡ 0
  pub holds : Holds 0

-- Turns went up to an outcome; each request is answered, by this dialogue. No call was made on a child where nothing
-- was asked, or where no line stands that may have requests behind it.
pub record RanTurns (task : Task) (head : Head) (s : State) (spoken : ℕ → Option Talk)
    (was now : Option (List Event)) (o : Outcome) : Type 0 where
  pub run : IsRun task head s.entries o
  pub levels : count_by is_level s.entries ≤ length s.asked
  pub asks : length s.asked ≡ asks_of s.entries
  pub talks : Dialogue task head.version (workers_in head) s.entries spoken
  pub untouched : length s.asked ≡ 0 → now ≡ was
  pub needed : (now ≡ was) ⊎ HasTurnLine head.mode s.entries

-- what all turns have done to a desk
abbrev pub OnTurns : AtDesk → AtDesk → Stretch → Result Outcome RunFault → Type 0
OnTurns old new c result =
    OnTurn old new c (RanTurns old.task old.head new.state c.now.host.spoken c.was.host.log c.now.host.log)
    (IsFrontOfRun old.head old.task) result
