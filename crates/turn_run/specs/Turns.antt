-- How turns begin, and how they end.
use Rattle.std.specs.Prelude.{◌≡◌, ℕ, ◌^◌, ◌<◌, ◌≤◌, All, List, length, Bool, true, false}
use Rattle.instance_queue.specs.Level.{AreDueInTurn}
use Rattle.instance_queue.specs.declared.due.Due.{Due}
use Rattle.session_core.specs.Ready.{AreReady}
use Rattle.turn_laws.specs.Lazy.{IsFewDue, IsLazy, IsLazyEnd, IsTurnNeeded}
use Rattle.task_model.specs.Known.{Known}
use Rattle.task_model.specs.Plans.{IsFar, IsLeastCost, IsReached, MoreThan}
use Rattle.task_model.specs.declared.task.Task.{Task}
use Rattle.transcript_model.specs.Outcomes.{IsTrueOutcome}
use Rattle.transcript_model.specs.Rounds.{limits_of}
use Rattle.transcript_model.specs.Transcript.{known_of, notes_of}
use Rattle.transcript_model.specs.Turns.{IsModeLegal, Stage, between}
use Rattle.transcript_model.specs.declared.entry.Entry.{Entry}
use Rattle.transcript_model.specs.declared.entry.Entry.TheVariants as entry
use Rattle.transcript_model.specs.declared.head.Head.{Head}
use Rattle.transcript_model.specs.declared.outcome.LimitKind.TheVariants.{States}
use Rattle.transcript_model.specs.declared.outcome.Outcome.{Outcome}
use Rattle.transcript_model.specs.declared.outcome.Outcome.TheVariants as outcome
use Rattle.round_run.specs.Desk.{AtDesk}
use Rattle.round_run.specs.declared.ending.Batch.{Batch}
use Rattle.round_run.specs.declared.ending.Batch.TheVariants.{Done, CallsSpent}
use Rattle.turn_run.specs.declared.decide.Decision.{Decision}
use Rattle.turn_run.specs.declared.decide.Decision.TheVariants.{Ends, Asks}

-- ---- turns

-- the cost of a plan has room in 64 bits
abbrev pub IsCostInRange : Outcome → Type 0
IsCostInRange (outcome.Plan steps cost from) = cost < 2 ^ 64
IsCostInRange outcome.NoPlan = Unit {0}
IsCostInRange (outcome.Limit kind) = Unit {0}

-- a plan has at most as many steps as a search may have states
abbrev pub HasFewSteps : Head → Outcome → Type 0
HasFewSteps head (outcome.Plan steps cost from) = length steps ≤ head.states
HasFewSteps head outcome.NoPlan = Unit {0}
HasFewSteps head (outcome.Limit kind) = Unit {0}

-- a dream's plan has at most so many steps
abbrev pub IsShortDream : ℕ → Entry → Type 0
IsShortDream most (entry.Dream uses steps) = length steps ≤ most
IsShortDream most e = Unit {0}

-- so has the plan of each dream among these
abbrev pub HasShortDreams : ℕ → List Entry → Type 0
HasShortDreams most entries = All (IsShortDream most) entries

-- More states are reached than the limit; and where any plan is looked for, and not the cheapest, so many also within
-- the steps of each plan.
abbrev pub IsPast : (cheapest : Bool) → Task → Known → ℕ → Type 0
IsPast false task known most = IsFar task known most
IsPast true task known most = MoreThan most (IsReached task known)

-- no plan by what is certified costs less than the one that is told
abbrev pub IsLeastOutcome : Task → List Entry → Outcome → Type 0
IsLeastOutcome task entries (outcome.Plan steps cost from) = IsLeastCost task (known_of task entries) cost
IsLeastOutcome task entries outcome.NoPlan = Unit {0}
IsLeastOutcome task entries (outcome.Limit kind) = Unit {0}

-- An outcome is true; where the head asks for the cheapest plan, a plan is that. The limit of states stands only where
-- the search was past it, and `no plan` only where no more states are reached. What a plan costs has room in 64 bits, and
-- its steps are few.
pub record IsSure (head : Head) (task : Task) (entries : List Entry) (o : Outcome) : Type 0 where
  pub holds : IsTrueOutcome (limits_of head) task entries o
  pub least : head.optimal ≡ true → IsLeastOutcome task entries o
  pub past : o ≡ outcome.Limit States → IsPast head.optimal task (known_of task entries) head.states
  pub within : o ≡ outcome.NoPlan
      → ¬ (MoreThan head.states (IsReached task (known_of task entries)))
  pub room : IsCostInRange o
  pub short : HasFewSteps head o

-- What a run may end with between two turns. A limit that isn't one of states stands only where a further turn is
-- needed, and the limit of calls only where not too much is due.
pub record IsSettledEnd (head : Head) (task : Task) (entries : List Entry) (o : Outcome) : Type 0 where
  pub sure : IsSure head task entries o
  pub end : IsLazyEnd (limits_of head) task entries between o
  pub few : IsFewDue task entries between o

-- A turn may follow: these instances are due, one at least, a call is left, and a turn is needed.
pub record IsTurn (head : Head) (task : Task) (entries : List Entry) (asks : ℕ) (dues : List Due) : Type 0 where
  pub due : AreDueInTurn task (known_of task entries) (notes_of task entries) dues
  pub ready : AreReady task entries dues
  pub some : 0 < length dues
  pub left : asks < head.calls
  pub needed : IsTurnNeeded (limits_of head) task entries

-- the same of a desk
abbrev pub IsTurnAt : AtDesk → List Due → Type 0
IsTurnAt desk dues = IsTurn desk.head desk.task desk.state.entries (length desk.state.asked) dues

abbrev pub IsDecided : Head → Task → List Entry → ℕ → Decision → Type 0
IsDecided head task entries asks (Ends o) = IsSettledEnd head task entries o
IsDecided head task entries asks (Asks dues) = IsTurn head task entries asks dues.items

-- the same of a desk
abbrev pub IsDecidedAt : AtDesk → Decision → Type 0
IsDecidedAt desk = IsDecided desk.head desk.task desk.state.entries (length desk.state.asked)

-- A transcript of the head's mode: whole turns, the last of which may stop at any entry; each begins where one is
-- needed.
pub record IsFrontOfRun (head : Head) (task : Task) (entries : List Entry) : Type 0 where
  pub stage : Stage
  pub turns : IsModeLegal (limits_of head) task entries stage
  pub lazy : IsLazy (limits_of head) task entries

-- whether calls were wanting
abbrev pub cut_by : Batch → Bool
cut_by Done = false
cut_by CallsSpent = true
