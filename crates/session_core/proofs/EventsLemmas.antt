-- What the events of a round leave does not depend on their order.
use Rattle.std.proofs.Common.{◌≡◌, ℕ, suc, Bool, true, false, cond, List, [], ◌∷◌, map, length, refl, sym, ap, subst, ◌∙◌, Option, None, Some, slice_get, option_map, is_none, get_or, eqb-true, eq-eqb, All}
use Rattle.std.proofs.lemmas.Option.{slice_get-get_or, slice_get_within, get_or_from_slice_get}
use Rattle.std.specs.List.{filter_map, cons_option}
use Rattle.std.proofs.lemmas.Simd.{map-map}
use Rattle.lemmas.proofs.Options.{same_some}
use Rattle.gen_lines.specs.Reply as reply
use Rattle.gen_lines.specs.Reply.{Reply, reply_of}
use Rattle.lemmas.specs.Lists.{AreDistinct}
use Rattle.transcript_model.specs.declared.entry.Entry.{Entry}
use Rattle.session_core.proofs.SlotsLemmas.{map_same}
use Rattle.session_core.specs.Events.{SessionEvent, sends, says, change_by, after, IsPlayed, lines_said, IsFresh, own_answer, AnswersAreOwn, OrderDoesNotMatter, EachSaysOne}
use Rattle.session_core.specs.Slots.{Slot, sent_slot, heard_slot, is_slot_of, slot_of, replied_entry, reply_fault, reply_to, answers_of}
use Rattle.session_core.proofs.SlotsLemmas.{children_of, map_at, at_own, at_other, child_kept, children_kept, slot_of-map, own_slot, answered_at, slot_place}

-- a slot after the events
abbrev pub slot_after : Slot → List SessionEvent → Slot
slot_after s [] = s
slot_after s (e ∷ events) = slot_after (change_by e s) events

keeps_child : (e : SessionEvent) (s : Slot) → (change_by e s).child ≡ s.child
keeps_child (sends child) s = child_kept child sent_slot (λ t. refl) s
keeps_child (says child line) s = child_kept child (heard_slot line) (λ t. refl) s

pub after_each : (slots : List Slot) (events : List SessionEvent)
    → after slots events ≡ map (λ s. slot_after s events) slots
after_each slots [] = sym (map_same slots)
after_each slots (e ∷ events) =
    after_each (map (change_by e) slots) events
    ∙ map-map (λ s. slot_after s events) (change_by e) slots

-- what still comes to a slot: nothing if it is answered, and else its one line
abbrev OutcomeBy : Option Entry → Bool → Slot → List SessionEvent → Type 0
OutcomeBy (Some e) sent s events = (lines_said s.child events ≡ []) × (slot_after s events ≡ s)
OutcomeBy None true s events =
    (line : List ℕ) × (lines_said s.child events ≡ line ∷ [])
    × (slot_after s events ≡ heard_slot line s)
OutcomeBy None false s events =
    (line : List ℕ) × (lines_said s.child events ≡ line ∷ []) × (slot_after s events ≡ heard_slot line (sent_slot s))

carry : (a : Option Entry) (b : Bool) (s : Slot) (es fs : List SessionEvent)
    → lines_said s.child fs ≡ lines_said s.child es
    → slot_after s fs ≡ slot_after s es → OutcomeBy a b s es → OutcomeBy a b s fs
carry (Some e) b s es fs lines ends o = (lines ∙ o.0, ends ∙ o.1)
carry None true s es fs lines ends o = (o.0, lines ∙ o.1, ends ∙ o.2)
carry None false s es fs lines ends o = (o.0, lines ∙ o.1, ends ∙ o.2)

answered_end : (a : Option Entry) (b : Bool) (s : Slot) → is_none a ≡ false → OutcomeBy a b s []
answered_end (Some e) b s some = (refl, refl)
answered_end None b s some = absurd (cc)

has_entry : (n : ℕ) (r : Reply) → reply_fault r ≡ None → (e : Entry) × (replied_entry n r ≡ Some e)
has_entry n (reply.yields tuples values) none = (_, refl)
has_entry n (reply.number value) none = (_, refl)
has_entry n reply.ends none = (_, refl)
has_entry n (reply.bad why) none = absurd (cc)

module _ (s : Slot) where
  -- the slot's own request is sent
  sent_own : (events : List SessionEvent) → s.answer ≡ None → s.sent ≡ false
      → OutcomeBy (sent_slot s).answer true (sent_slot s) events
      → OutcomeBy s.answer s.sent s (sends s.child ∷ events)
  sent_own events none unsent o =
      let r = subst (λ a. OutcomeBy a true (sent_slot s) events) none o in
      let own : change_by (sends s.child) s ≡ sent_slot s = at_own s.child sent_slot s (eq-eqb s.child s.child refl) in
      subst (λ a. OutcomeBy a s.sent s (sends s.child ∷ events)) (sym none)
      (subst (λ b. OutcomeBy None b s (sends s.child ∷ events)) (sym unsent) (r.0, r.1, ap (λ t. slot_after t events) own ∙ r.2))

  -- the slot's own line is heard
  heard_own : (line : List ℕ) (events : List SessionEvent) (e : Entry) → s.answer ≡ None → s.sent ≡ true
      → replied_entry s.number (reply_to line s) ≡ Some e → OutcomeBy (heard_slot line s).answer s.sent (heard_slot line s) events
      → OutcomeBy s.answer s.sent s (says s.child line ∷ events)
  heard_own line events e none sent is o =
      let r = subst (λ a. OutcomeBy a s.sent (heard_slot line s) events) is o in
      let same = eq-eqb s.child s.child refl in
      let own : change_by (says s.child line) s ≡ heard_slot line s = at_own s.child (heard_slot line) s same in
      let lines : lines_said s.child (says s.child line ∷ events) ≡ line ∷ [] =
      ap (λ b. cond b (line ∷ lines_said s.child events) (lines_said s.child events)) same ∙ ap (λ ls. line ∷ ls) r.0 in
      subst (λ a. OutcomeBy a s.sent s (says s.child line ∷ events)) (sym none)
      (subst (λ b. OutcomeBy None b s (says s.child line ∷ events)) (sym sent) (line, lines, ap (λ t. slot_after t events) own ∙ r.1))

  -- an event of another child
  sent_other : (child : ℕ) (events : List SessionEvent) → is_slot_of child s ≡ false
      → OutcomeBy s.answer s.sent s events
      → OutcomeBy s.answer s.sent s (sends child ∷ events)
  sent_other child events apart o =
      carry s.answer s.sent s events (sends child ∷ events) refl (ap (λ t. slot_after t events) (at_other child sent_slot s apart)) o

  heard_other : (child : ℕ) (line : List ℕ) (events : List SessionEvent) → is_slot_of child s ≡ false
      → OutcomeBy s.answer s.sent s events
      → OutcomeBy s.answer s.sent s (says child line ∷ events)
  heard_other child line events apart o =
      carry s.answer s.sent s events (says child line ∷ events)
      (ap (λ b. cond b (line ∷ lines_said s.child events) (lines_said s.child events)) apart)
      (ap (λ t. slot_after t events) (at_other child (heard_slot line) s apart)) o

-- the slot in the changed list
moved : (slots : List Slot) (e : SessionEvent) (s t : Slot) → slot_of slots s.child ≡ Some s
    → change_by e s ≡ t → t.child ≡ s.child
    → slot_of (map (change_by e) slots) t.child ≡ Some t
moved slots e s t at is child =
    ap (slot_of (map (change_by e) slots)) child ∙ slot_of-map (change_by e) (keeps_child e) slots s.child
    ∙ ap (option_map (change_by e)) at ∙ ap Some is

pub outcome : (slots : List Slot) (events : List SessionEvent) → AreDistinct (children_of slots)
    → IsPlayed slots events → (s : Slot)
    → slot_of slots s.child ≡ Some s → OutcomeBy s.answer s.sent s events
outcome slots [] d all s at = let p = slot_place slots s.child s at in answered_end s.answer s.sent s (answered_at slots p.0 s all p.1)
outcome slots (sends child ∷ events) d played s at =
    let next = λ (t : Slot) (own : slot_of (map (change_by (sends child)) slots) t.child ≡ Some t).
    outcome (map (change_by (sends child)) slots) events
    (subst AreDistinct (sym (children_kept (change_by (sends child)) (keeps_child (sends child)) slots)) d) played.1 t own in
    elim (is_slot_of child s) as (λ b. is_slot_of child s ≡ b → OutcomeBy s.answer s.sent s (sends child ∷ events)) [
      | true ↦ λ own.
          let here : s.child ≡ child = eqb-true s.child child own in
          let u = played.0 in
          let same : u.slot ≡ s = same_some (slot_of slots child) u.slot s u.found (ap (slot_of slots) (sym here) ∙ at) in
          let none : s.answer ≡ None = ap (λ (t : Slot). t.answer) (sym same) ∙ u.open_still in
          let unsent : s.sent ≡ false = ap (λ (t : Slot). t.sent) (sym same) ∙ u.unsent in
          subst (λ c. OutcomeBy s.answer s.sent s (sends c ∷ events)) here
          (sent_own s events none unsent
          (next (sent_slot s) (moved slots (sends child) s (sent_slot s) at (at_own child sent_slot s own) refl)))
      | false ↦ λ apart. sent_other s child events apart (next s (moved slots (sends child) s s at (at_other child sent_slot s apart) refl))
    ] refl
outcome slots (says child line ∷ events) d played s at =
    let next = λ (t : Slot) (own : slot_of (map (change_by (says child line)) slots) t.child ≡ Some t).
    outcome (map (change_by (says child line)) slots) events
    (subst AreDistinct (sym (children_kept (change_by (says child line)) (keeps_child (says child line)) slots)) d) played.1 t own
    in
    elim (is_slot_of child s) as (λ b. is_slot_of child s ≡ b → OutcomeBy s.answer s.sent s (says child line ∷ events)) [
      | true ↦ λ own.
          let here : s.child ≡ child = eqb-true s.child child own in
          let u = played.0.0 in
          let same : u.slot ≡ s = same_some (slot_of slots child) u.slot s u.found (ap (slot_of slots) (sym here) ∙ at) in
          let none : s.answer ≡ None = ap (λ (t : Slot). t.answer) (sym same) ∙ u.open_still in
          let sent : s.sent ≡ true = ap (λ (t : Slot). t.sent) (sym same) ∙ u.sent in
          let good = has_entry s.number (reply_to line s) (ap (λ t. reply_fault (reply_to line t)) (sym same) ∙ played.0.2) in
          subst (λ c. OutcomeBy s.answer s.sent s (says c line ∷ events)) here
          (heard_own s line events good.0 none sent good.1
          (next (heard_slot line s)
          (moved slots (says child line) s (heard_slot line s) at (at_own child (heard_slot line) s own) refl)))
      | false ↦ λ apart. heard_other s child line events apart
          (next s (moved slots (says child line) s s at (at_other child (heard_slot line) s apart) refl))
    ] refl

-- ---- from the beginning

-- the one line of a slot's child, and the slot in the end
record Plays (s : Slot) (events : List SessionEvent) : Type 0 where
  line : List ℕ
  lines : lines_said s.child events ≡ line ∷ []
  ends : slot_after s events ≡ heard_slot line (sent_slot s)

plays : (slots : List Slot) (events : List SessionEvent) → IsFresh slots → IsPlayed slots events
    → (k : ℕ) (s : Slot) → slice_get slots k ≡ Some s
    → Plays s events
plays slots events fresh played k s at =
    let o = outcome slots events fresh.apart played s (own_slot slots k s fresh.apart at) in
    let first = all_at slots k s at fresh.unsent in
    let p = subst (λ b. OutcomeBy None b s events) first.0 (subst (λ a. OutcomeBy a s.sent s events) first.1 o) in
    record { line = p.0; lines = p.1; ends = p.2 }
  where
    all_at : (slots : List Slot) (k : ℕ) (s : Slot) → slice_get slots k ≡ Some s
        → All (λ (t : Slot). (t.sent ≡ false) × (t.answer ≡ None)) slots → (s.sent ≡ false) × (s.answer ≡ None)
    all_at slots k s at all =
        subst (λ (t : Slot). (t.sent ≡ false) × (t.answer ≡ None))
        (get_or_from_slice_get slots k s s at) (all k s (slice_get_within slots k s at))

filter_at : {A B : Type 0} (f g : A → Option B) (xs : List A)
    → ((k : ℕ) (x : A) → slice_get xs k ≡ Some x → f x ≡ g x)
    → filter_map f xs ≡ filter_map g xs
filter_at f g [] same = refl
filter_at f g (x ∷ xs) same =
    λ i. cons_option (same 0 x refl i) (filter_at f g xs (λ k y at. same (suc k) y at) i)

filter_map-map : {A B C : Type 0} (f : B → Option C) (g : A → B) (xs : List A)
    → filter_map f (map g xs) ≡ filter_map (λ x. f (g x)) xs
filter_map-map f g [] = refl
filter_map-map f g (x ∷ xs) = ap (cons_option (f (g x))) (filter_map-map f g xs)

pub answers_are_own : AnswersAreOwn
answers_are_own slots events fresh played =
    ap answers_of (after_each slots events) ∙ filter_map-map (λ (s : Slot). s.answer) (λ s. slot_after s events) slots
    ∙ filter_at (λ s. (slot_after s events).answer) (own_answer events) slots
    (λ k s at.
    let p = plays slots events fresh played k s at in
    ap (λ (t : Slot). t.answer) p.ends ∙ sym (own_is events s p.line p.lines))
  where
    own_is : (events : List SessionEvent) (s : Slot) (line : List ℕ) → lines_said s.child events ≡ line ∷ []
        → own_answer events s ≡ replied_entry s.number (reply_of line s.wanted)
    own_is events s line e = rw e refl

pub order_does_not_matter : OrderDoesNotMatter
order_does_not_matter slots first second fresh played again same =
    after_each slots first
    ∙ map_at (λ s. slot_after s first) (λ s. slot_after s second) slots
    (λ k s at.
    let p = plays slots first fresh played k s at in
    let q = plays slots second fresh again k s at in
    let lines : p.line ∷ [] ≡ q.line ∷ [] = sym p.lines ∙ same s.child ∙ q.lines in
    let line : p.line ≡ q.line = cc in
    p.ends ∙ ap (λ l. heard_slot l (sent_slot s)) line ∙ sym q.ends)
    ∙ sym (after_each slots second)

pub each_says_one : EachSaysOne
each_says_one slots events fresh played k d lt =
    let at = slice_get-get_or slots k d lt in
    let p = plays slots events fresh played k (get_or slots k d) at in
    ap length p.lines
