-- What a line is taken as.
use Rattle.std.specs.Prelude.{ℕ, List, Bool, false, Option, None, Some, is_some}
use Rattle.gen_lines.specs.declared.answer.Why.{Why}
use Rattle.session_core.specs.Slots.{Slot, slot_of, reply_to, reply_fault}
use Rattle.session_core.specs.declared.fault.Heard.{Heard}
use Rattle.session_core.specs.declared.fault.Heard.TheVariants as heard

abbrev pub heard_by : ℕ → Option Why → Heard
heard_by number None = heard.Taken number
heard_by number (Some why) = heard.Bad number why

-- what the child's line is taken as, and whether it is no answer
module _ (slots : List Slot) (child : ℕ) (line : List ℕ) where
  abbrev pub heard_at : Heard
  heard_at = of (slot_of slots child)
    where
      of : Option Slot → Heard
      of (Some slot) = heard_by slot.number (reply_fault (reply_to line slot))
      of None = heard.Taken 0

  abbrev pub is_bad_at : Bool
  is_bad_at = of (slot_of slots child)
    where
      of : Option Slot → Bool
      of (Some slot) = is_some (reply_fault (reply_to line slot))
      of None = false

-- the number of the child's ask
abbrev pub number_at : List Slot → ℕ → ℕ
number_at slots child = of (slot_of slots child)
  where
    of : Option Slot → ℕ
    of (Some slot) = slot.number
    of None = 0
