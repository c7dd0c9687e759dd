-- What a session shows.
use Rattle.std.specs.Prelude.{◌≡◌, ℕ, ◌+◌, ◌≤◌, List, [], ◌∷◌, ◌++◌, map, length, Bool, true, false}
use Rattle.task_model.specs.Known.{Known}
use Rattle.lemmas.specs.Lists.{AreDistinct}
use Rattle.pools.specs.Pools.{Workers}
use Rattle.task_model.specs.Streams.{Note}
use Rattle.task_model.specs.declared.stream.Instance.{Instance}
use Rattle.transcript_model.specs.declared.entry.Entry.{Entry}
use Rattle.transcript_model.specs.declared.limits.TheConstants.{MOST_CALLS}
use Rattle.session_core.specs.Slots.{Slot, sent_slot, heard_slot, at_child, answers_of}

-- What it was given: the version of the protocol, the most calls, and the pools. The transcript, and the instances that
-- were asked. What is known and noted, and of how many entries. The open round: its requests as entries, their
-- instances, and its slots, side by side. Whether it has failed.
pub record State : Type 0 where
  pub version : ℕ
  pub calls : ℕ
  pub pools : List Workers
  pub entries : List Entry
  pub asked : List Instance
  pub known : Known
  pub notes : List Note
  pub learnt : ℕ
  pub is_open : Bool
  pub asks : List Entry
  pub instances : List Instance
  pub slots : List Slot
  pub failed : Bool

-- ---- what the calls do

abbrev pub with_slots : State → List Slot → Bool → State
with_slots s slots failed =
    record s { slots = slots; failed = failed }

-- the child's request is written
abbrev pub after_sent : State → ℕ → State
after_sent s child = with_slots s (map (at_child child sent_slot) s.slots) s.failed

-- the child's line is taken; a line that is no answer lets the session fail
abbrev pub after_line : State → ℕ → List ℕ → Bool → State
after_line s child line is_bad =
    with_slots s (map (at_child child (heard_slot line)) s.slots) is_bad

-- the session has failed
abbrev pub after_failure : State → State
after_failure s = with_slots s s.slots true

abbrev pub with_round : State → Bool → List Entry → List Instance → List Slot → State
with_round s is_open asks instances slots =
    record s { is_open = is_open; asks = asks; instances = instances; slots = slots }

-- the round's requests, and then its answers in the same order, are put behind the transcript
abbrev pub after_close : State → State
after_close s =
    record s {
      entries = s.entries ++ s.asks ++ answers_of s.slots;
      asked = s.asked ++ s.instances;
      is_open = false;
      asks = [];
      instances = [];
      slots = [];
    }

-- the entry is put behind the transcript; where all was learnt, all still is
abbrev pub after_mark : State → Entry → ℕ → State
after_mark s e learnt =
    record s { entries = s.entries ++ e ∷ []; learnt = learnt }

-- this is known and noted, of so many entries
abbrev pub with_learnt : State → Known → List Note → ℕ → Bool → State
with_learnt s known notes learnt failed =
    record s { known = known; notes = notes; learnt = learnt; failed = failed }

-- what holds of every session
pub record IsSound (s : State) (entries_room asked_room : ℕ) : Type 0 where
  pub entries_fit : length s.entries + length s.asks + length s.slots ≤ entries_room
  pub asked_fit : length s.asked + length s.instances ≤ asked_room
  pub few : length s.asked + length s.instances ≤ s.calls
  pub calls : s.calls ≤ MOST_CALLS
  pub same_asks : length s.asks ≡ length s.slots
  pub same_instances : length s.instances ≡ length s.slots
  pub apart : AreDistinct (map (λ (t : Slot). t.child) s.slots)
  pub closed : s.is_open ≡ false → s.slots ≡ []
