-- A change of one slot, in the fields of a session and in what it shows.
use Rattle.std.proofs.Common.{◌≡◌, ℕ, Bool, List, map, get_or, refl, sym, ap, subst, ◌∙◌, Option, Some, slice_get, is_some, arith}
use Rattle.std.proofs.Math.ListN.{set}
use Rattle.std.proofs.lemmas.List.{length-map}
use Rattle.std.proofs.lemmas.Option.{get_or_from_slice_get}
use Rattle.gen_lines.specs.declared.answer.Why.{Why}
use Rattle.lemmas.specs.Lists.{AreDistinct}
use Rattle.session_core.proofs.SlotsLemmas.{children_of, child_kept, children_kept, slot_child, set_at_child}
use Rattle.session_core.specs.Heard.{heard_at, heard_by, is_bad_at}
use Rattle.session_core.specs.Slots.{Slot, at_child, slot_of, reply_fault, reply_to}
use Rattle.session_core.specs.State.{State, IsSound, with_slots}

module _ (slots : List Slot) (child place : ℕ) (slot old : Slot) (found : slice_get slots place ≡ slot_of slots child)
    (waits : slot_of slots child ≡ Some slot) (read : old ≡ get_or slots place old) where
  pub read_slot : old ≡ slot
  read_slot = read ∙ get_or_from_slice_get slots place slot old (found ∙ waits)

  pub slots_are : (f : Slot → Slot) (new : Slot) → AreDistinct (children_of slots) → new ≡ f old
      → set slots place new ≡ map (at_child child f) slots
  slots_are f new apart is =
      ap (set slots place) (is ∙ ap f read_slot)
      ∙ set_at_child slots child place slot f apart (found ∙ waits) (slot_child slots child slot waits)

pub heard_is : (slots : List Slot) (child : ℕ) (line : List ℕ) (slot : Slot) (why : Option Why)
    → slot_of slots child ≡ Some slot
    → why ≡ reply_fault (reply_to line slot) → heard_at slots child line ≡ heard_by slot.number why
heard_is slots child line slot why at is = rw (at, is) refl

pub bad_is : (slots : List Slot) (child : ℕ) (line : List ℕ) (slot : Slot) (why : Option Why)
    → slot_of slots child ≡ Some slot
    → why ≡ reply_fault (reply_to line slot) → is_bad_at slots child line ≡ is_some why
bad_is slots child line slot why at is = rw (at, is) refl

-- what holds of every session holds after the change
pub sound_changed : (s : State) (entries_room asked_room child : ℕ) (f : Slot → Slot) (failed : Bool)
    → ((t : Slot) → (f t).child ≡ t.child)
    → IsSound s entries_room asked_room → IsSound (with_slots s (map (at_child child f) s.slots) failed) entries_room asked_room
sound_changed s entries_room asked_room child f failed keeps h =
    let long = length-map s.slots (at_child child f) in
    record {
      entries_fit = omega (arith, h.entries_fit, long);
      asked_fit = h.asked_fit;
      few = h.few;
      calls = h.calls;
      same_asks = h.same_asks ∙ sym long;
      same_instances = h.same_instances ∙ sym long;
      apart = subst AreDistinct (sym (children_kept (at_child child f) (child_kept child f keeps) s.slots)) h.apart;
      closed = λ e. ap (map (at_child child f)) (h.closed e);
    }
