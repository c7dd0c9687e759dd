-- Where the judge of a transcript stands.
use Rattle.std.specs.Prelude.{◌≡◌, ℕ, ◌+◌, ◌≤◌, List, [], length, take, true, Some, slice_get}
use Rattle.course_check.specs.BatchAgendas.{Agenda}
use Rattle.course_check.specs.Agendas.{KeepsRun, ModeAgenda, mode_place_in}
use Rattle.course_check.specs.Places.{AwaitsPhase, LeadsOn, at_start, undreamt}
use Rattle.pools.specs.Pools.{HaveWorkers, shares_of}
use Rattle.task_model.specs.Fit.{IsFit}
use Rattle.task_model.specs.Streams.{yields_of}
use Rattle.task_model.specs.declared.limits.TheConstants.{MOST_STATES}
use Rattle.task_model.specs.declared.stream.Instance.{Instance}
use Rattle.task_model.specs.declared.task.Task.{Task}
use Rattle.learning.specs.Knowledge.{IsKnowledge}
use Rattle.learning.specs.declared.knowledge.Knowledge.{Knowledge}
use Rattle.transcript_model.specs.Legal.{asks_of, is_open}
use Rattle.transcript_model.specs.Names.{call_of_instance}
use Rattle.transcript_model.specs.Rounds.{Limits}
use Rattle.transcript_model.specs.Turns.{MayBegin}
use Rattle.transcript_model.specs.declared.entry.Call.{Call}
use Rattle.transcript_model.specs.declared.entry.Entry.{Entry}
use Rattle.transcript_model.specs.declared.entry.Entry.TheVariants as entry
use Rattle.transcript_model.specs.declared.limits.TheConstants.{MOST_CALLS}
use Rattle.replay_check.specs.Breaches.{BreaksEntry}
use Rattle.replay_check.specs.Lines.{Precedes}
use Rattle.replay_check.specs.Verdicts.{IsOpenNone}
use Rattle.replay_check.specs.declared.bounds.Bounds.{Bounds}
use Rattle.replay_check.specs.declared.standing.Standing.{Standing}
use Rattle.replay_check.specs.declared.verdict.BreachKind.{BreachKind}
use Rattle.replay_check.specs.declared.verdict.BreachKind.TheVariants as kind

-- what the transcript is bound to
abbrev pub limits_by : Bounds → Limits
limits_by b = record {
  version = b.version;
  mode = b.mode;
  calls = b.calls;
  states = b.states;
  depth = b.depth;
  pools = shares_of b.pools.now;
}

-- The task is fit, each pool has a worker, there are at most 100,000 calls and from 1 to 200,000 states, and from 1 to
-- 200,000 states are searched.
pub record AreBounds (b : Bounds) : Type 0 where
  pub fit : IsFit b.task.now
  pub workers : HaveWorkers (shares_of b.pools.now)
  pub calls : b.calls ≤ MOST_CALLS
  pub some_states : 1 ≤ b.states
  pub few_states : b.states ≤ MOST_STATES
  pub some_limit : 1 ≤ b.limit
  pub few_limit : b.limit ≤ MOST_STATES

-- No more requests are to come than calls are left, and those that were made and are to be answered are open.
pub record IsCounted (calls : ℕ) (entries : List Entry) (a : Agenda) : Type 0 where
  pub count : a.next + a.answers ≡ asks_of entries + length a.to_ask + 1
  pub left : asks_of entries + length a.to_ask + length a.later ≤ calls
  pub some : length a.to_ask ≤ a.answers
  pub waiting : (n : ℕ) → a.next ≤ n → n ≤ asks_of entries → is_open entries n ≡ true
  pub answered : (n : ℕ) → is_open entries n ≡ true → (a.next ≤ n) × (n ≤ asks_of entries)

-- The judge's knowledge is that of the entries, and what is to be done is what may come behind them. Behind the want of a
-- dream nothing is open, and what is due is still so.
pub record StandsBehind (limits : Limits) (task : Task) (entries : List Entry) (l : Knowledge)
    (a : ModeAgenda) : Type 0 where
  pub knowledge : IsKnowledge limits.version task entries l
  pub leads : LeadsOn limits task at_start [] entries (mode_place_in task entries a)
  pub counts : IsCounted limits.calls entries a.batch
  pub run : KeepsRun limits.calls entries a
  pub dreamless : a.phase ≡ undreamt
      → AwaitsPhase (mode_place_in task entries a) undreamt × MayBegin limits task entries

-- wherever it was said that there is no dream, that is decided
abbrev pub AreDecided : ℕ → Limits → Task → List Entry → Type 0
AreDecided limit limits task entries =
    (place : ℕ) → slice_get entries place ≡ Some entry.Nothing
    → ¬ (IsOpenNone limit limits task (take place entries))

pub record IsStanding (b : Bounds) (entries : List Entry) (s : Standing) : Type 0 where
  pub stands : StandsBehind (limits_by b) b.task.now entries s.knowledge s.course
  pub decided : AreDecided b.limit (limits_by b) b.task.now entries

-- ---- what is wrong with an entry

-- no line of the entry that precedes this one is wrong
abbrev pub NoLineEarlier : Limits → Task → List Entry → Entry → ℕ → BreachKind → Type 0
NoLineEarlier limits task before e offset k =
    (other : ℕ) (than : BreachKind) → BreaksEntry limits task before e other than
    → ¬ (Precedes other than offset k)

-- This line of the entry is wrong so, and none is that precedes it; nor does the claim that there is no dream, where it
-- isn't decided.
pub record IsWrong (limit : ℕ) (limits : Limits) (task : Task) (before : List Entry) (e : Entry) (offset : ℕ)
    (k : BreachKind) : Type 0 where
  pub breaks : BreaksEntry limits task before e offset k
  pub first : NoLineEarlier limits task before e offset k
  pub decided : e ≡ entry.Nothing → IsOpenNone limit limits task before → Precedes offset k 0 kind.Outcome

-- The entry says that there is no dream, which isn't decided, and no line of it is wrong in another way.
pub record IsOpenEntry (limit : ℕ) (limits : Limits) (task : Task) (before : List Entry) (e : Entry) : Type 0 where
  pub is : e ≡ entry.Nothing
  pub unsure : IsOpenNone limit limits task before
  pub first : NoLineEarlier limits task before e 0 kind.Outcome

-- ---- what comes next

-- the request is the next of the open round
pub record IsNextRequest (task : Task) (l : Knowledge) (a : Agenda) (number turn : ℕ) (call : Call) : Type 0 where
  pub instance : Instance
  pub head : slice_get a.to_ask 0 ≡ Some instance
  pub is : entry.Ask number turn call
      ≡ entry.Ask (length l.asked.items + 1)
      (yields_of l.queue instance) (call_of_instance task l.facts.known.names instance)
