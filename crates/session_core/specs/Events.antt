-- The events of a round, in any order of its children.
use Rattle.std.specs.Prelude.{◌≡◌, ℕ, ◌≤◌, ◌==◌, List, [], ◌∷◌, map, length, All, true, false, Option, None, if◌then◌else◌}
use Rattle.std.specs.List.{filter_map}
use Rattle.gen_lines.specs.Reply.{reply_of}
use Rattle.lemmas.specs.Lists.{AreDistinct}
use Rattle.transcript_model.specs.declared.entry.Entry.{Entry}
use Rattle.session_core.specs.Slots.{Slot, sent_slot, heard_slot, at_child, answers_of, all_answered, replied_entry, reply_to, reply_fault, IsUnsent, IsAwaited}
use Rattle.gen_lines.specs.declared.line_buf.TheConstants.{LINE_LENGTH}

-- a request is written whole to a child, or a whole line is taken from it
pub data SessionEvent : Type 0 where
  sends : (child : ℕ) → SessionEvent
  says : (child : ℕ) (line : List ℕ) → SessionEvent

abbrev pub change_by : SessionEvent → Slot → Slot
change_by (sends child) = at_child child sent_slot
change_by (says child line) = at_child child (heard_slot line)

-- the slots after the events, one after another
abbrev pub after : List Slot → List SessionEvent → List Slot
after slots [] = slots
after slots (e ∷ events) = after (map (change_by e) slots) events

-- the event may come where these are the slots; the line is an answer
abbrev pub MayCome : List Slot → SessionEvent → Type 0
MayCome slots (sends child) = IsUnsent slots child
MayCome slots (says child line) =
    (waits : IsAwaited slots child) × (length line ≤ LINE_LENGTH) × (reply_fault (reply_to line waits.slot) ≡ None)

-- Each event may come after those before it, and in the end each request has its answer.
abbrev pub IsPlayed : List Slot → List SessionEvent → Type 0
IsPlayed slots [] = all_answered slots ≡ true
IsPlayed slots (e ∷ events) = MayCome slots e × IsPlayed (map (change_by e) slots) events

-- the lines of a child
abbrev pub lines_said : ℕ → List SessionEvent → List (List ℕ)
lines_said child [] = []
lines_said child (sends other ∷ events) = lines_said child events
lines_said child (says other line ∷ events) =
    if child == other then line ∷ lines_said child events else lines_said child events

-- nothing was sent, and each slot has a child of its own
pub record IsFresh (slots : List Slot) : Type 0 where
  pub unsent : All (λ (s : Slot). (s.sent ≡ false) × (s.answer ≡ None)) slots
  pub apart : AreDistinct (map (λ (s : Slot). s.child) slots)

-- what the line of the slot's own child answers
abbrev pub own_answer : List SessionEvent → Slot → Option Entry
own_answer events slot = of (lines_said slot.child events)
  where
    of : List (List ℕ) → Option Entry
    of [] = None
    of (line ∷ lines) = replied_entry slot.number (reply_of line slot.wanted)

-- In whatever order the events of a round come, its answers are those that each slot's own child gave in its one line.
abbrev pub AnswersAreOwn : Type 0
AnswersAreOwn =
    (slots : List Slot) (events : List SessionEvent) → IsFresh slots → IsPlayed slots events
    → answers_of (after slots events) ≡ filter_map (own_answer events) slots

-- Two orders in which each child says the same leave the same answers.
abbrev pub OrderDoesNotMatter : Type 0
OrderDoesNotMatter =
    (slots : List Slot) (first second : List SessionEvent) → IsFresh slots → IsPlayed slots first → IsPlayed slots second
    → ((child : ℕ) → lines_said child first ≡ lines_said child second) → after slots first ≡ after slots second

-- Each child of a round says one line.
abbrev pub EachSaysOne : Type 0
EachSaysOne =
    (slots : List Slot) (events : List SessionEvent) → IsFresh slots → IsPlayed slots events
    → All (λ (s : Slot). length (lines_said s.child events) ≡ 1) slots
