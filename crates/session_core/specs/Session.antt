-- What holds of a session of a task, and what its calls ask for.
use Rattle.std.specs.Prelude.{◌≡◌, ℕ, ◌+◌, ◌≤◌, List, [], ◌∷◌, map, length, take, true, false, Some, slice_get, count_by}
use Rattle.gen_lines.specs.Reply.{reply_of}
use Rattle.instance_queue.specs.Level.{due_instances}
use Rattle.instance_queue.specs.declared.due.Due.{Due}
use Rattle.learning.specs.Learning.{Asks}
use Rattle.pools.specs.Pools.{AreFitPools, shares_of, workers_of}
use Rattle.task_model.specs.Fit.{IsFit}
use Rattle.task_model.specs.declared.stream.Instance.{Instance}
use Rattle.task_model.specs.declared.task.Task.{Task}
use Rattle.transcript_model.specs.Legal.{IsLegal, HasNoneOpen, asks_of, is_answer}
use Rattle.transcript_model.specs.Rounds.{fits}
use Rattle.transcript_model.specs.Transcript.{names_of, known_of, notes_of}
use Rattle.transcript_model.specs.declared.entry.Entry.{Entry}
use Rattle.transcript_model.specs.declared.head.Head.{Head}
use Rattle.transcript_model.specs.declared.limits.TheConstants.{MOST_CALLS}
use Rattle.session_core.specs.Ready.{AreAskable, AreReady}
use Rattle.session_core.specs.Slots.{Slot, wanted_at, asks_from, slots_from, replied_entry}
use Rattle.session_core.specs.State.{State, with_round, with_learnt}
use Rattle.session_core.specs.declared.fault.CoreFault.{CoreFault}
use Rattle.session_core.specs.declared.fault.CoreFault.TheVariants.{Failed, Memory}

-- ---- heads

-- the version of the protocol is 1 or 2, there are from 1 to 100,000 calls, and the pools serve the task's streams
pub record IsFitHead (task : Task) (head : Head) : Type 0 where
  pub some_version : 1 ≤ head.version
  pub version : head.version ≤ 2
  pub some_calls : 1 ≤ head.calls
  pub calls : head.calls ≤ MOST_CALLS
  pub pools : AreFitPools task (map workers_of head.pools)

-- ---- sessions

-- The slot has this number, it wants what its instance's stream may answer, and its answer is what some line says.
pub record IsSlotFor (task : Task) (version number : ℕ) (due : Due) (slot : Slot) : Type 0 where
  pub numbered : slot.number ≡ number
  pub wanted : slot.wanted ≡ wanted_at task version due.instance.stream
  pub right : (e : Entry) → slot.answer ≡ Some e
      → (line : List ℕ) × (replied_entry slot.number (reply_of line slot.wanted) ≡ Some e)

abbrev pub AreSlotsFor : Task → ℕ → ℕ → List Due → List Slot → Type 0
AreSlotsFor task version number [] [] = Unit {0}
AreSlotsFor task version number (due ∷ dues) (slot ∷ slots) =
    IsSlotFor task version number due slot × AreSlotsFor task version (number + 1) dues slots
AreSlotsFor task version number [] (slot ∷ slots) = ⊥
AreSlotsFor task version number (due ∷ dues) [] = ⊥

-- The open round is one of asks that could be made after the transcript.
pub record IsRoundOf (task : Task) (s : State) : Type 0 where
  pub dues : List Due
  pub ready : AreReady task s.entries dues
  pub instances : s.instances ≡ due_instances dues
  pub asks : s.asks ≡ asks_from task (names_of task s.entries) (length s.asked + 1) dues
  pub slots : AreSlotsFor task s.version (length s.asked + 1) dues s.slots

-- The transcript is legal, and nothing is open. What is known and noted is what the learnt front of it certifies and
-- tells, unless the session has failed.
pub record IsSession (task : Task) (s : State) : Type 0 where
  pub fit : IsFit task
  pub version : s.version ≤ 2
  pub some_version : 1 ≤ s.version
  pub calls : s.calls ≤ MOST_CALLS
  pub pools : AreFitPools task s.pools
  pub legal : IsLegal s.version task s.entries
  pub none_open : HasNoneOpen s.entries
  pub counted : length s.asked ≡ asks_of s.entries
  pub asked : (k : ℕ) (i : Instance) → slice_get s.asked k ≡ Some i → Asks task s.entries (k + 1) i
  pub answered : count_by is_answer s.entries ≤ asks_of s.entries
  pub learnt : s.learnt ≤ length s.entries
  pub known : s.failed ≡ false → s.known ≡ known_of task (take s.learnt s.entries)
  pub notes : s.failed ≡ false → s.notes ≡ notes_of task (take s.learnt s.entries)
  pub round : s.is_open ≡ true → IsRoundOf task s

-- The session is one of the head: it has its version, its calls and its pools.
pub record IsOf (head : Head) (s : State) : Type 0 where
  pub version : s.version ≡ head.version
  pub calls : s.calls ≡ head.calls
  pub pools : s.pools ≡ map workers_of head.pools

-- nothing was asked or known but what is known at first
pub record IsNew (task : Task) (s : State) : Type 0 where
  pub entries : s.entries ≡ []
  pub closed : s.is_open ≡ false
  pub failed : s.failed ≡ false
  pub learnt : s.learnt ≡ 0

-- no round is open, and what the transcript certifies is known
pub record IsLearnt (s : State) : Type 0 where
  pub closed : s.is_open ≡ false
  pub all : s.learnt ≡ length s.entries

-- ---- rounds

-- The asks may be made, they fit the workers, and so many calls are left.
pub record MayBeginRound (task : Task) (s : State) (dues : List Due) : Type 0 where
  pub ready : IsLearnt s
  pub askable : AreAskable task s.known s.notes dues
  pub fit : fits (shares_of s.pools) (due_instances dues) ≡ true
  pub left : length s.asked + length dues ≤ s.calls

-- a round of these asks is open, of which nothing was sent
abbrev pub round_begun : Task → State → List Due → State
round_begun task s dues =
    with_round s true (asks_from task s.known.names (length s.asked + 1) dues)
    (due_instances dues) (slots_from task s.known.names s.version s.pools (length s.asked + 1) [] dues)

-- ---- learning

-- what the whole transcript certifies and tells is known and noted
abbrev pub after_learn : Task → State → State
after_learn task s =
    with_learnt s (known_of task s.entries) (notes_of task s.entries) (length s.entries) false

-- ---- faults

-- the session had failed before, or memory is wanting
abbrev pub HasSessionCause : State → CoreFault → Type 0
HasSessionCause s Failed = s.failed ≡ true
HasSessionCause s Memory = s.failed ≡ false
