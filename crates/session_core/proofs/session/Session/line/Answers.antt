use Rattle.std.proofs.Common.{◌≡◌, ap, sym, subst, ◌∙◌, slice_get, Some, None, refl, vec_capacity, false, true}
use Rattle.session_core.proofs.SessionLemmas.{line_kept}
use Rattle.session_core.proofs.StateLemmas.{slots_are, sound_changed, read_slot, heard_is, bad_is}
use Rattle.session_core.specs.Heard.{is_bad_at}
use Rattle.session_core.specs.Session.{IsSession}
use Rattle.session_core.specs.Shown.{shown_session}
use Rattle.session_core.specs.Slots.{Slot, heard_slot, slot_of, reply_fault, reply_to}
use Rattle.session_core.specs.State.{State, IsSound, with_slots, after_line}
use Rattle.session_core.specs.declared.fault.Heard.TheVariants.{Taken, Bad}
use Rattle.session_core.proofs.session.Session.line.Goals as goal

pub invariant_of-self : goal.invariant_of-self
invariant_of-self c =
    let s = shown_session c.self.inside in
    let child = c.args.child in
    let change = heard_slot c.args.bytes.now in
    let found : slice_get s.slots c.in-Some.place ≡ slot_of s.slots child =
    sym (ap (λ xs. slice_get xs c.in-Some.place) c.as_slice.ensures.value) ∙ c.in-Some.ensures.found
    ∙ ap (λ xs. slot_of xs child) c.as_slice.ensures.value in
    let waits : slot_of s.slots child ≡ Some c.requires.awaited.slot =
    ap (λ (t : State). slot_of t.slots child) c.self.view_is ∙ c.requires.awaited.found in
    let same = slots_are s.slots child c.in-Some.place c.requires.awaited.slot c.index_mut-cell.result.now found waits
    c.index_mut-cell.ensures.value change c.hear.new.self c.self.invariant.apart c.hear.ensures.slot in
    subst (λ xs. IsSound (with_slots s xs s.failed) (vec_capacity c.self.inside.entries)
    (vec_capacity c.self.inside.knowledge.asked)) (sym same)
    (sound_changed s (vec_capacity c.self.inside.entries) (vec_capacity c.self.inside.knowledge.asked) child change s.failed
    (λ t. refl) c.self.invariant)

pub invariant_of-self-in-Some-hear : goal.invariant_of-self-in-Some-hear
invariant_of-self-in-Some-hear c =
    let s = shown_session c.self.inside in
    let child = c.args.child in
    let change = heard_slot c.args.bytes.now in
    let found : slice_get s.slots c.in-Some.place ≡ slot_of s.slots child =
    sym (ap (λ xs. slice_get xs c.in-Some.place) c.as_slice.ensures.value) ∙ c.in-Some.ensures.found
    ∙ ap (λ xs. slot_of xs child) c.as_slice.ensures.value in
    let waits : slot_of s.slots child ≡ Some c.requires.awaited.slot =
    ap (λ (t : State). slot_of t.slots child) c.self.view_is ∙ c.requires.awaited.found in
    let same = slots_are s.slots child c.in-Some.place c.requires.awaited.slot c.index_mut-cell.result.now found waits
    c.index_mut-cell.ensures.value change c.hear.new.self c.self.invariant.apart c.hear.ensures.slot in
    subst (λ xs. IsSound (with_slots s xs true) (vec_capacity c.self.inside.entries)
    (vec_capacity c.self.inside.knowledge.asked)) (sym same)
    (sound_changed s (vec_capacity c.self.inside.entries) (vec_capacity c.self.inside.knowledge.asked) child change true
    (λ t. refl) c.self.invariant)

pub returns-in-None-clause-heard : goal.returns-in-None-clause-heard
returns-in-None-clause-heard c =
    let s = shown_session c.self.inside in
    let child = c.args.child in
    let line = c.args.bytes.now in
    let slot = c.requires.awaited.slot in
    let found : slice_get s.slots c.in-Some.place ≡ slot_of s.slots child =
    sym (ap (λ xs. slice_get xs c.in-Some.place) c.as_slice.ensures.value) ∙ c.in-Some.ensures.found
    ∙ ap (λ xs. slot_of xs child) c.as_slice.ensures.value in
    let waits : slot_of s.slots child ≡ Some slot = ap (λ (t : State). slot_of t.slots child) c.self.view_is ∙ c.requires.awaited.found in
    let old = read_slot s.slots child c.in-Some.place slot c.index_mut-cell.result.now found waits c.index_mut-cell.ensures.value in
    ap Taken (c.number-number.ensures ∙ ap (λ (t : Slot). t.number) old)
    ∙ sym (heard_is c.args.self.now.slots child line slot None c.requires.awaited.found
    (c.in-None.ensures.fault ∙ ap (λ t. reply_fault (reply_to line t)) old))

pub returns-in-None-clause-after : goal.returns-in-None-clause-after
returns-in-None-clause-after c =
    let s = shown_session c.self.inside in
    let child = c.args.child in
    let line = c.args.bytes.now in
    let slot = c.requires.awaited.slot in
    let found : slice_get s.slots c.in-Some.place ≡ slot_of s.slots child =
    sym (ap (λ xs. slice_get xs c.in-Some.place) c.as_slice.ensures.value) ∙ c.in-Some.ensures.found
    ∙ ap (λ xs. slot_of xs child) c.as_slice.ensures.value in
    let waits : slot_of s.slots child ≡ Some slot = ap (λ (t : State). slot_of t.slots child) c.self.view_is ∙ c.requires.awaited.found in
    let old = read_slot s.slots child c.in-Some.place slot c.index_mut-cell.result.now found waits c.index_mut-cell.ensures.value in
    let same = slots_are s.slots child c.in-Some.place slot c.index_mut-cell.result.now found waits c.index_mut-cell.ensures.value
    (heard_slot line) c.hear.new.self c.self.invariant.apart c.hear.ensures.slot in
    let good : s.failed ≡ is_bad_at c.args.self.now.slots child line =
    ap (λ (t : State). t.failed) c.self.view_is ∙ c.requires.working
    ∙ sym (bad_is c.args.self.now.slots child line slot None c.requires.awaited.found
    (c.in-None.ensures.fault ∙ ap (λ t. reply_fault (reply_to line t)) old)) in
    (λ k. with_slots s (same k) (good k))
    ∙ ap (λ (t : State). after_line t child line (is_bad_at c.args.self.now.slots child line)) c.self.view_is

pub returns-in-None-clause-kept : goal.returns-in-None-clause-kept
returns-in-None-clause-kept c = λ task h.
    let s = shown_session c.self.inside in
    let child = c.args.child in
    let line = c.args.bytes.now in
    let slot = c.requires.awaited.slot in
    let found : slice_get s.slots c.in-Some.place ≡ slot_of s.slots child =
    sym (ap (λ xs. slice_get xs c.in-Some.place) c.as_slice.ensures.value) ∙ c.in-Some.ensures.found
    ∙ ap (λ xs. slot_of xs child) c.as_slice.ensures.value in
    let waits : slot_of s.slots child ≡ Some slot = ap (λ (t : State). slot_of t.slots child) c.self.view_is ∙ c.requires.awaited.found in
    let same = slots_are s.slots child c.in-Some.place slot c.index_mut-cell.result.now found waits c.index_mut-cell.ensures.value
    (heard_slot line) c.hear.new.self c.self.invariant.apart c.hear.ensures.slot in
    let works : s.failed ≡ false = ap (λ (t : State). t.failed) c.self.view_is ∙ c.requires.working in
    subst (λ xs. IsSession task (with_slots s xs s.failed))
    (sym same) (line_kept task s child line s.failed works (subst (IsSession task) (sym c.self.view_is) h))

pub returns-in-Some-hear-clause-heard : goal.returns-in-Some-hear-clause-heard
returns-in-Some-hear-clause-heard c =
    let s = shown_session c.self.inside in
    let child = c.args.child in
    let line = c.args.bytes.now in
    let slot = c.requires.awaited.slot in
    let found : slice_get s.slots c.in-Some.place ≡ slot_of s.slots child =
    sym (ap (λ xs. slice_get xs c.in-Some.place) c.as_slice.ensures.value) ∙ c.in-Some.ensures.found
    ∙ ap (λ xs. slot_of xs child) c.as_slice.ensures.value in
    let waits : slot_of s.slots child ≡ Some slot = ap (λ (t : State). slot_of t.slots child) c.self.view_is ∙ c.requires.awaited.found in
    let old = read_slot s.slots child c.in-Some.place slot c.index_mut-cell.result.now found waits c.index_mut-cell.ensures.value in
    ap (λ n. Bad n c.in-Some-hear.why) (c.number-number.ensures ∙ ap (λ (t : Slot). t.number) old)
    ∙ sym (heard_is c.args.self.now.slots child line slot
    (Some c.in-Some-hear.why) c.requires.awaited.found (c.in-Some-hear.ensures.fault ∙ ap (λ t. reply_fault (reply_to line t)) old))

pub returns-in-Some-hear-clause-after : goal.returns-in-Some-hear-clause-after
returns-in-Some-hear-clause-after c =
    let s = shown_session c.self.inside in
    let child = c.args.child in
    let line = c.args.bytes.now in
    let slot = c.requires.awaited.slot in
    let found : slice_get s.slots c.in-Some.place ≡ slot_of s.slots child =
    sym (ap (λ xs. slice_get xs c.in-Some.place) c.as_slice.ensures.value) ∙ c.in-Some.ensures.found
    ∙ ap (λ xs. slot_of xs child) c.as_slice.ensures.value in
    let waits : slot_of s.slots child ≡ Some slot = ap (λ (t : State). slot_of t.slots child) c.self.view_is ∙ c.requires.awaited.found in
    let old = read_slot s.slots child c.in-Some.place slot c.index_mut-cell.result.now found waits c.index_mut-cell.ensures.value in
    let same = slots_are s.slots child c.in-Some.place slot c.index_mut-cell.result.now found waits c.index_mut-cell.ensures.value
    (heard_slot line) c.hear.new.self c.self.invariant.apart c.hear.ensures.slot in
    let bad : true ≡ is_bad_at c.args.self.now.slots child line =
    sym (bad_is c.args.self.now.slots child line slot
    (Some c.in-Some-hear.why) c.requires.awaited.found (c.in-Some-hear.ensures.fault ∙ ap (λ t. reply_fault (reply_to line t)) old)) in
    (λ k. with_slots s (same k) (bad k))
    ∙ ap (λ (t : State). after_line t child line (is_bad_at c.args.self.now.slots child line)) c.self.view_is

pub returns-in-Some-hear-clause-kept : goal.returns-in-Some-hear-clause-kept
returns-in-Some-hear-clause-kept c = λ task h.
    let s = shown_session c.self.inside in
    let child = c.args.child in
    let line = c.args.bytes.now in
    let slot = c.requires.awaited.slot in
    let found : slice_get s.slots c.in-Some.place ≡ slot_of s.slots child =
    sym (ap (λ xs. slice_get xs c.in-Some.place) c.as_slice.ensures.value) ∙ c.in-Some.ensures.found
    ∙ ap (λ xs. slot_of xs child) c.as_slice.ensures.value in
    let waits : slot_of s.slots child ≡ Some slot = ap (λ (t : State). slot_of t.slots child) c.self.view_is ∙ c.requires.awaited.found in
    let same = slots_are s.slots child c.in-Some.place slot c.index_mut-cell.result.now found waits c.index_mut-cell.ensures.value
    (heard_slot line) c.hear.new.self c.self.invariant.apart c.hear.ensures.slot in
    let works : s.failed ≡ false = ap (λ (t : State). t.failed) c.self.view_is ∙ c.requires.working in
    subst (λ xs. IsSession task (with_slots s xs true))
    (sym same) (line_kept task s child line true works (subst (IsSession task) (sym c.self.view_is) h))
