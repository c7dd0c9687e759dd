-- What must hold so that it can be decided what comes next.
use Rattle.std.specs.Prelude.{◌≡◌, ◌≤◌, ℕ, Bool, true, false, length, ◌↔◌, Option, MatchOption}
use Rattle.best_first.specs.Answer.{HasPlan, IsLimit, IsNothing}
use Rattle.best_first.specs.declared.found.Found.{Found}
use Rattle.turn_laws.specs.Lazy.{IsTurnNeeded}
use Rattle.optimal_search.specs.Answer.{IsCheapest}
use Rattle.round_run.specs.Desk.{AtDesk}
use Rattle.round_run.specs.Batches.{IsRunnable}
use Rattle.session_core.specs.Session.{IsLearnt, IsOf, IsSession}
use Rattle.session_core.specs.State.{State}
use Rattle.task_model.specs.Known.{Known}
use Rattle.task_model.specs.Plans.{IsReached, IsSolvable, MoreThan}
use Rattle.task_model.specs.Streams.{NothingIsDue}
use Rattle.task_model.specs.declared.task.Task.{Task}
use Rattle.transcript_model.specs.Rounds.{limits_of}
use Rattle.transcript_model.specs.Transcript.{known_of, notes_of}
use Rattle.transcript_model.specs.declared.head.Head.{Head}
use Rattle.transcript_model.specs.declared.head.Mode.{Mode}
use Rattle.transcript_model.specs.declared.head.Mode.TheVariants.{Incremental}
use Rattle.transcript_model.specs.declared.outcome.Outcome.{Outcome}
use Rattle.turn_run.specs.Turns.{IsDecided, IsPast, IsSettledEnd}
use Rattle.turn_run.specs.declared.decide.Decision.{Decision}
use Rattle.turn_run.specs.declared.situation.Situation.{Situation}

-- The session is one of the task and of the head and works, all that was answered is learnt, and no more was asked than
-- the head's calls.
pub record MayDecide (task : Task) (of : Head) (s : State) : Type 0 where
  pub runnable : IsRunnable task of
  pub session : IsSession task s
  pub head : IsOf of s
  pub working : s.failed ≡ false
  pub learnt : IsLearnt s
  pub within : length s.asked ≤ of.calls

-- What a desk lacks of that by itself.
pub record MayDecideAt (desk : AtDesk) : Type 0 where
  pub of : IsOf desk.head desk.state
  pub working : desk.state.failed ≡ false
  pub learnt : IsLearnt desk.state
  pub within : length desk.state.asked ≤ desk.head.calls

-- A plan is looked for so, the cheapest or any: the cheapest where the head asks for it, which it does in incremental
-- mode alone.
pub record SeeksPlan (cheapest : Bool) (head : Head) : Type 0 where
  pub is : head.optimal ≡ cheapest
  pub alone : head.optimal ≡ true → head.mode ≡ Incremental

-- The head has the mode, and asks for plans that are looked for so.
pub record IsHeadFor (mode : Mode) (cheapest : Bool) (head : Head) : Type 0 where
  pub is : head.mode ≡ mode
  pub seeks : SeeksPlan cheapest head

-- What a search answers: a plan that is one, with at most as many steps as the limit of states, and the cheapest where
-- that is looked for; that there is none exactly where none exists and no more states are reached; and that it is past
-- the limit only where it is.
pub record FindsPlan (cheapest : Bool) (task : Task) (known : Known) (limit : ℕ) (found : Found) : Type 0 where
  pub plan : HasPlan task known limit found
  pub least : cheapest ≡ true → IsCheapest task known found
  pub nothing : IsNothing found ↔ ((¬ (IsSolvable task known)) × (¬ (MoreThan limit (IsReached task known))))
  pub past : IsLimit found → IsPast cheapest task known limit

-- ---- what lies on a desk

-- these lie on it
pub record LiesOn (desk : AtDesk) (x : Situation) : Type 0 where
  pub task : x.task.now ≡ desk.task
  pub head : x.head.now ≡ desk.head
  pub session : x.session.now ≡ desk.state

-- so that it can be decided what comes next
abbrev pub MayDecideIn : Situation → Type 0
MayDecideIn x = MayDecide x.task.now x.head.now x.session.now

-- what is known
abbrev pub known_in : Situation → Known
known_in x = known_of x.task.now x.session.now.entries

-- no instance is due
abbrev pub NothingIsDueIn : Situation → Type 0
NothingIsDueIn x = NothingIsDue x.task.now (known_in x) (notes_of x.task.now x.session.now.entries)

-- a turn is needed
abbrev pub IsNeededIn : Situation → Type 0
IsNeededIn x = IsTurnNeeded (limits_of x.head.now) x.task.now x.session.now.entries

-- the run may end with this outcome
abbrev pub MayEndIn : Situation → Outcome → Type 0
MayEndIn x o = IsSettledEnd x.head.now x.task.now x.session.now.entries o

-- this may come next
abbrev pub IsDecidedIn : Situation → Decision → Type 0
IsDecidedIn x = IsDecided x.head.now x.task.now x.session.now.entries (length x.session.now.asked)

-- what a search answers
abbrev pub FindsIn : (cheapest : Bool) → Situation → Found → Type 0
FindsIn cheapest x = FindsPlan cheapest x.task.now (known_in x) x.head.now.states

-- that there is none by itself, or what a search answers
abbrev pub MayFindIn : (cheapest : Bool) → Situation → Option Found → Type 0
MayFindIn cheapest x found = MatchOption found (¬ (IsSolvable x.task.now (known_in x))) (FindsIn cheapest x)

-- the search that the head asks for was past the limit of states
abbrev pub IsPastIn : Situation → Type 0
IsPastIn x = IsPast x.head.now.optimal x.task.now (known_in x) x.head.now.states
