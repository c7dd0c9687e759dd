-- What is found of an outcome.
use Rattle.std.specs.Prelude.{◌≡◌, ◌⊎◌, ◌&&◌, true, false, ℕ, List}
use Rattle.course_check.specs.Agendas.{ModeAgenda, is_resting}
use Rattle.course_check.specs.BatchAgendas.{is_over}
use Rattle.course_check.specs.Places.{awaits_line}
use Rattle.task_model.specs.declared.task.Task.{Task}
use Rattle.transcript_model.specs.Outcomes.{IsTrueOutcome, MayStand}
use Rattle.transcript_model.specs.Rounds.{Limits}
use Rattle.transcript_model.specs.Turns.{AreTurnsOf, Stage}
use Rattle.transcript_model.specs.declared.entry.Entry.{Entry}
use Rattle.transcript_model.specs.declared.outcome.LimitKind.TheVariants.{Calls}
use Rattle.transcript_model.specs.declared.outcome.Outcome.{Outcome}
use Rattle.transcript_model.specs.declared.outcome.Outcome.TheVariants as outcome
use Rattle.replay_check.specs.Breaches.{BreaksOutcome, HasPlace}
use Rattle.replay_check.specs.Lines.{Precedes}
use Rattle.replay_check.specs.Verdicts.{IsUndecidedClaim}
use Rattle.replay_check.specs.declared.finding.Finding.{Finding}
use Rattle.replay_check.specs.declared.finding.Finding.TheVariants.{Holds, Breaks, Open}
use Rattle.replay_check.specs.declared.verdict.BreachKind.{BreachKind}
use Rattle.replay_check.specs.declared.verdict.BreachKind.TheVariants as kind

-- the outcome isn't a plan
abbrev pub IsClaim : Outcome → Type 0
IsClaim (outcome.Plan steps cost from) = ⊥
IsClaim o = Unit {0}

-- As far as the course goes the outcome has a place: between two turns; and the limit of calls everywhere but where
-- another line of the turn comes.
abbrev pub MayEndAt : ModeAgenda → Outcome → Type 0
MayEndAt a o =
    ((is_over a.batch && is_resting a.phase) ≡ true)
    ⊎ ((o ≡ outcome.Limit Calls) × ((is_over a.batch && awaits_line a.phase) ≡ false))

module _ (limits : Limits) (limit : ℕ) (task : Task) (entries : List Entry) (o : Outcome) where
  -- it can't be decided
  abbrev pub CannotTell : Type 0
  CannotTell = IsUndecidedClaim limit limits task entries o

  -- it may stand, and what it says is true
  pub record IsRightEnd : Type 0 where
    pub stage : Stage
    pub turns : AreTurnsOf limits.mode limits task entries stage
    pub stands : MayStand stage o
    pub true : IsTrueOutcome limits task entries o

  -- It has its place, and it may stand here if what it says is true. The limit of calls has one inside a batch, where
  -- it is false.
  pub record IsEndPlaced : Type 0 where
    pub place : HasPlace limits task entries o
    pub stands : IsTrueOutcome limits task entries o → IsRightEnd

  -- no line of it that precedes this one is wrong
  abbrev pub NoneEarlier : ℕ → BreachKind → Type 0
  NoneEarlier offset k =
      (other : ℕ) (than : BreachKind) → BreaksOutcome limits task entries o other than
      → ¬ (Precedes other than offset k)

  pub record IsFirstWrong (offset : ℕ) (k : BreachKind) : Type 0 where
    pub breaks : BreaksOutcome limits task entries o offset k
    pub first : NoneEarlier offset k
    pub decided : CannotTell → Precedes offset k 0 kind.Outcome

  abbrev pub IsRightFinding : Finding → Type 0
  IsRightFinding Holds = IsRightEnd × ¬ CannotTell
  IsRightFinding (Breaks offset k) = IsFirstWrong offset k
  IsRightFinding Open = CannotTell × NoneEarlier 0 kind.Outcome
