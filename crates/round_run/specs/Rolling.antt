-- An open round: whose requests are sent, whose answers are heard, and what was printed of it.
use Rattle.std.specs.Prelude.{◌≡◌, ℕ, ◌++◌, List, map, length, Bool, true, false, not, Option, Some, slice_get, is_none, nat_lt, unwrap_or}
use Rattle.std.specs.Io.KnownBytes.{Appends}
use Rattle.std.specs.List.{flat_map}
use Rattle.io_world.specs.Talks.{Talk}
use Rattle.io_world.specs.declared.host.HostFault.{HostFault}
use Rattle.io_world.specs.declared.host.HostFault.TheVariants as host
use Rattle.lemmas.specs.Lists.{AreDistinct}
use Rattle.task_model.specs.declared.task.Task.{Task}
use Rattle.transcript_model.specs.Legal.{IsLegal, is_open}
use Rattle.report_text.specs.Texts.{text_of_entry}
use Rattle.transcript_model.specs.declared.entry.Entry.{Entry}
use Rattle.transcript_model.specs.declared.entry.Entry.TheVariants as entry
use Rattle.session_core.specs.Slots.{Slot}
use Rattle.session_core.specs.State.{State, with_slots}
use Rattle.pools.specs.Pools.{IsChild, Workers}
use Rattle.round_run.specs.Dialogue.{BrokenOff, HasBadLine}
use Rattle.round_run.specs.Stops.{StopsAt}
use Rattle.round_run.specs.declared.fault.RunFault.{RunFault}
use Rattle.round_run.specs.declared.fault.RunFault.TheVariants.{Answer, Generator, Write, Memory}

-- ---- faults

-- a host's fault as a fault of the run
abbrev pub IsHostFault : HostFault → RunFault → Type 0
IsHostFault host.Failed fault = fault ≡ Generator
IsHostFault host.Memory fault = fault ≡ Memory

-- ---- an open round

-- The first `sent` requests are sent, and the first `answered` of these are answered. Each slot has a child of its own,
-- that runs.
pub record IsRolling (s : State) (running : ℕ → Bool) (sent answered : ℕ) : Type 0 where
  pub working : s.failed ≡ false
  pub begun : s.is_open ≡ true
  pub asks : length s.asks ≡ length s.slots
  pub apart : AreDistinct (map (λ (t : Slot). t.child) s.slots)
  pub each_sent : (k : ℕ) (t : Slot) → slice_get s.slots k ≡ Some t → t.sent ≡ nat_lt k sent
  pub each_open : (k : ℕ) (t : Slot) → slice_get s.slots k ≡ Some t
      → is_none t.answer ≡ not (nat_lt k answered)
  pub low : (k : ℕ) (t : Slot) → slice_get s.slots k ≡ Some t → IsChild t.child
  pub runs : (k : ℕ) (t : Slot) → slice_get s.slots k ≡ Some t → running t.child ≡ true

-- nothing but the slots of the round has changed
abbrev pub IsSameRound : State → State → Type 0
IsSameRound old new = new ≡ with_slots old new.slots new.failed

-- the answers of the round, where a request that isn't answered is taken to end
abbrev pub finished_round : List Slot → List Entry
finished_round = map (λ (t : Slot). unwrap_or t.answer (entry.End t.number))

-- ---- how a run goes on and stops

-- Entries came behind the others, and their lines were written.
pub record Goes (before after : List Entry) (old new : Option (List ℕ)) : Type 0 where
  pub more : List Entry
  pub pushed : after ≡ before ++ more
  pub told : Appends old new (flat_map text_of_entry more)

-- The request that is blamed is open, and what its child said next is no answer.
abbrev pub Blames : ℕ → Task → List Workers → (ℕ → Option Talk) → RunFault → List Entry → Type 0
Blames version task pools spoken (Answer number why) entries =
    (is_open entries number ≡ true) × HasBadLine task version pools entries spoken number why
Blames version task pools spoken Generator entries = Unit {0}
Blames version task pools spoken Write entries = Unit {0}
Blames version task pools spoken Memory entries = Unit {0}

-- These are the entries before and the first of a whole: with others behind them it would be one.
pub record IsFrontPart (before : List Entry) (Whole : List Entry → Type 0) (entries : List Entry) : Type 0 where
  pub part : List Entry
  pub rest : List Entry
  pub is : entries ≡ before ++ part
  pub whole : Whole (part ++ rest)

-- The entries that were to be written behind those before, with which it is such a front; what the sink took of them,
-- the request that is blamed, if one is, what was said with the children, and what the log tells of the calls.
pub record Stopped (version : ℕ) (task : Task) (pools : List Workers) (Front : List Entry → Type 0)
    (before : List Entry) (fault : RunFault) (old new : Option (List ℕ)) (spoken : ℕ → Option Talk)
    (log : (List Entry → Type 0) → List Entry → Type 0) : Type 0 where
  pub more : List Entry
  pub legal : IsLegal version task (before ++ more)
  pub front : Front (before ++ more)
  pub told : StopsAt fault old new more
  pub blamed : Blames version task pools spoken fault (before ++ more)
  pub talks : BrokenOff task version pools Front fault (before ++ more) spoken
  pub logged : log Front more
