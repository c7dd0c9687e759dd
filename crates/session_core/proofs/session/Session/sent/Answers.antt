use Rattle.std.proofs.Common.{◌≡◌, ap, sym, subst, ◌∙◌, slice_get, Some, refl}
use Rattle.session_core.proofs.SessionLemmas.{sent_kept}
use Rattle.session_core.proofs.StateLemmas.{slots_are, sound_changed}
use Rattle.session_core.specs.Session.{IsSession}
use Rattle.session_core.specs.Shown.{shown_session}
use Rattle.session_core.specs.Slots.{sent_slot, slot_of}
use Rattle.session_core.specs.State.{State, IsSound, with_slots, after_sent}
use Rattle.std.proofs.Common.{vec_capacity}
use Rattle.session_core.proofs.session.Session.sent.Goals as goal

pub invariant_of-self : goal.invariant_of-self
invariant_of-self c =
    let s = shown_session c.self.inside in
    let child = c.args.child in
    let found : slice_get s.slots c.in-Some.place ≡ slot_of s.slots child =
    sym (ap (λ xs. slice_get xs c.in-Some.place) c.as_slice.ensures.value) ∙ c.in-Some.ensures.found
    ∙ ap (λ xs. slot_of xs child) c.as_slice.ensures.value in
    let waits : slot_of s.slots child ≡ Some c.requires.unsent.slot =
    ap (λ (t : State). slot_of t.slots child) c.self.view_is ∙ c.requires.unsent.found in
    let same = slots_are s.slots child c.in-Some.place c.requires.unsent.slot c.index_mut.result.now found waits c.index_mut.ensures.value
    sent_slot c.send.new.self c.self.invariant.apart c.send.ensures in
    subst (λ xs. IsSound (with_slots s xs s.failed) (vec_capacity c.self.inside.entries)
    (vec_capacity c.self.inside.knowledge.asked)) (sym same)
    (sound_changed s (vec_capacity c.self.inside.entries) (vec_capacity c.self.inside.knowledge.asked) child sent_slot s.failed
    (λ t. refl) c.self.invariant)

pub returns-clause-after : goal.returns-clause-after
returns-clause-after c =
    let s = shown_session c.self.inside in
    let child = c.args.child in
    let found : slice_get s.slots c.in-Some.place ≡ slot_of s.slots child =
    sym (ap (λ xs. slice_get xs c.in-Some.place) c.as_slice.ensures.value) ∙ c.in-Some.ensures.found
    ∙ ap (λ xs. slot_of xs child) c.as_slice.ensures.value in
    let waits : slot_of s.slots child ≡ Some c.requires.unsent.slot =
    ap (λ (t : State). slot_of t.slots child) c.self.view_is ∙ c.requires.unsent.found in
    let same = slots_are s.slots child c.in-Some.place c.requires.unsent.slot c.index_mut.result.now found waits c.index_mut.ensures.value
    sent_slot c.send.new.self c.self.invariant.apart c.send.ensures in
    ap (λ xs. with_slots s xs s.failed) same ∙ ap (λ (t : State). after_sent t child) c.self.view_is

pub returns-clause-kept : goal.returns-clause-kept
returns-clause-kept c = λ task h.
    let s = shown_session c.self.inside in
    let child = c.args.child in
    let found : slice_get s.slots c.in-Some.place ≡ slot_of s.slots child =
    sym (ap (λ xs. slice_get xs c.in-Some.place) c.as_slice.ensures.value) ∙ c.in-Some.ensures.found
    ∙ ap (λ xs. slot_of xs child) c.as_slice.ensures.value in
    let waits : slot_of s.slots child ≡ Some c.requires.unsent.slot =
    ap (λ (t : State). slot_of t.slots child) c.self.view_is ∙ c.requires.unsent.found in
    let same = slots_are s.slots child c.in-Some.place c.requires.unsent.slot c.index_mut.result.now found waits c.index_mut.ensures.value
    sent_slot c.send.new.self c.self.invariant.apart c.send.ensures in
    subst (λ xs. IsSession task (with_slots s xs s.failed))
    (sym same) (sent_kept task s child (subst (IsSession task) (sym c.self.view_is) h))
