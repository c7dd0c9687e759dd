-- The places of a round: what each due asks of which child, and what was heard.
use Rattle.std.specs.Prelude.{◌≡◌, ℕ, ◌+◌, ◌==◌, List, [], ◌∷◌, ◌++◌, length, take, Bool, true, false, ◌&&◌, not, Option, None, Some, slice_get, is_none, if◌then◌else◌}
use Rattle.std.specs.List.{find, filter_map}
use Rattle.gen_lines.specs.Reply as reply
use Rattle.gen_lines.specs.Reply.{Reply, reply_of}
use Rattle.gen_lines.specs.Request.{request_of}
use Rattle.gen_lines.specs.declared.answer.Wanted.{Wanted}
use Rattle.gen_lines.specs.declared.answer.Wanted.TheVariants as wanted
use Rattle.gen_lines.specs.declared.answer.Why.{Why}
use Rattle.instance_queue.specs.declared.due.Due.{Due}
use Rattle.pools.specs.Pools.{IsChild, Workers, child_for, asked_streams}
use Rattle.task_model.specs.declared.stream.Stream.{Stream}
use Rattle.task_model.specs.declared.task.Task.{Task}
use Rattle.transcript_model.specs.Legal.{has_several}
use Rattle.transcript_model.specs.Names.{call_of_instance}
use Rattle.transcript_model.specs.declared.entry.Entry.{Entry}
use Rattle.transcript_model.specs.declared.entry.Entry.TheVariants as entry

-- One due of a round: the number of its ask, its child, the request, what may be answered, whether the request was
-- sent, and the answer if one was heard.
pub record Slot : Type 0 where
  pub number : ℕ
  pub child : ℕ
  pub request : List ℕ
  pub wanted : Wanted
  pub sent : Bool
  pub answer : Option Entry

-- ---- before anything was sent

-- what a stream may answer in this version of the protocol
abbrev pub wanted_of : ℕ → Stream → Wanted
wanted_of version stream =
    if is_none stream.worth then wanted.Outputs (length stream.outputs) (has_several version) else wanted.Number

abbrev pub wanted_at : Task → ℕ → ℕ → Wanted
wanted_at task version stream = of (slice_get task.streams stream)
  where
    of : Option Stream → Wanted
    of (Some s) = wanted_of version s
    of None = wanted.Number

module _ (task : Task) (names : List (List ℕ)) where
  -- the request of this number, as an entry
  abbrev pub ask_for : ℕ → Due → Entry
  ask_for number due = entry.Ask number due.turn (call_of_instance task names due.instance)

  abbrev pub asks_from : ℕ → List Due → List Entry
  asks_from number [] = []
  asks_from number (due ∷ dues) = ask_for number due ∷ asks_from (number + 1) dues

  module _ (version : ℕ) (pools : List Workers) where
    -- the slot of the ask of this number, after asks of these streams in the same round
    abbrev pub slot_for : ℕ → List ℕ → Due → Slot
    slot_for number before due =
        record {
          number = number;
          child = child_for pools before due.instance.stream;
          request = request_of task names due.turn due.instance;
          wanted = wanted_at task version due.instance.stream;
          sent = false;
          answer = None;
        }

    abbrev pub slots_from : ℕ → List ℕ → List Due → List Slot
    slots_from number before [] = []
    slots_from number before (due ∷ dues) =
        slot_for number before due ∷ slots_from (number + 1) (before ++ due.instance.stream ∷ []) dues

-- each due has a child that a host has
abbrev pub AreFitChildren : List Workers → List Due → Type 0
AreFitChildren pools dues =
    (k : ℕ) (d : Due) → slice_get dues k ≡ Some d
    → IsChild (child_for pools (asked_streams (take k dues)) d.instance.stream)

-- ---- what was heard

-- the reply to the request of this number, as an entry
abbrev pub replied_entry : ℕ → Reply → Option Entry
replied_entry n (reply.yields tuples values) = Some (entry.Got n tuples values)
replied_entry n (reply.number value) = Some (entry.Value n value)
replied_entry n reply.ends = Some (entry.End n)
replied_entry n (reply.bad why) = None

-- why it is no reply
abbrev pub reply_fault : Reply → Option Why
reply_fault (reply.yields tuples values) = None
reply_fault (reply.number value) = None
reply_fault reply.ends = None
reply_fault (reply.bad why) = Some why

-- what the line answers to the slot's request
abbrev pub reply_to : List ℕ → Slot → Reply
reply_to line slot = reply_of line slot.wanted

abbrev pub is_slot_of : ℕ → Slot → Bool
is_slot_of child slot = slot.child == child

-- the request is written whole
abbrev pub sent_slot : Slot → Slot
sent_slot slot = record {
  number = slot.number;
  child = slot.child;
  request = slot.request;
  wanted = slot.wanted;
  sent = true;
  answer = slot.answer;
}

-- the line is taken from the child
abbrev pub heard_slot : List ℕ → Slot → Slot
heard_slot line slot = record {
  number = slot.number;
  child = slot.child;
  request = slot.request;
  wanted = slot.wanted;
  sent = slot.sent;
  answer = replied_entry slot.number (reply_to line slot);
}

-- the slot of the child is changed so, and the others stay
abbrev pub at_child : ℕ → (Slot → Slot) → Slot → Slot
at_child child change slot = if is_slot_of child slot then change slot else slot

abbrev pub slot_of : List Slot → ℕ → Option Slot
slot_of slots child = find (is_slot_of child) slots

-- the child has a slot whose request wasn't sent
pub record IsUnsent (slots : List Slot) (child : ℕ) : Type 0 where
  pub slot : Slot
  pub found : slot_of slots child ≡ Some slot
  pub unsent : slot.sent ≡ false
  pub open_still : slot.answer ≡ None

-- the child has a slot whose request was sent and isn't answered
pub record IsAwaited (slots : List Slot) (child : ℕ) : Type 0 where
  pub slot : Slot
  pub found : slot_of slots child ≡ Some slot
  pub sent : slot.sent ≡ true
  pub open_still : slot.answer ≡ None

-- whether its request wasn't sent
abbrev pub is_unsent_slot : Slot → Bool
is_unsent_slot slot = not slot.sent && is_none slot.answer

-- whether its request was sent and isn't answered
abbrev pub is_awaited_slot : Slot → Bool
is_awaited_slot slot = slot.sent && is_none slot.answer

-- the answers, in the order of the slots
abbrev pub answers_of : List Slot → List Entry
answers_of = filter_map (λ (s : Slot). s.answer)

-- each request has its answer
abbrev pub all_answered : List Slot → Bool
all_answered [] = true
all_answered (s ∷ ss) = not (is_none s.answer) && all_answered ss
