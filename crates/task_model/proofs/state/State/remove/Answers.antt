use Rattle.std.proofs.Common.{ap, sym, ◌∙◌, ◌≡◌, ◌<◌, false, length, subst}
use Rattle.task_model.specs.State.{contains, remove, from_list}
use Rattle.task_model.proofs.StateLemmas.{contains-from_list}
use Rattle.task_model.proofs.state.State.remove.Goals as goal
use Rattle.std.specs.List.{HoldsAt}
use Rattle.std.specs.List.Sorted.{IsStrictlySortedBy, IsNonDecreasingBy}
use Rattle.std.specs.Ordering.{ordering_index}
use Rattle.std.specs.declared.cmp.Ordering.TheVariants.{Equal}
use Rattle.task_model.specs.AtomOrder.{atom_cmp}
use Rattle.task_model.proofs.StateOrderLemmas.{Parts, searchable, any_found, any_absent, sorted_without, from_list-remove, remove-absent}

pub invariant_of-self : goal.invariant_of-self
invariant_of-self c =
    subst (IsStrictlySortedBy atom_cmp) (sym c.remove.ensures.items)
    (sorted_without c.self.inside.atoms.items c.in-Ok.place c.self.invariant)

pub returns-in-Ok-clause-state : goal.returns-in-Ok-clause-state
returns-in-Ok-clause-state c =
    let ks = c.self.inside.atoms.items in
    let k = c.args.atom.now in
    let within = subst (λ xs. c.in-Ok.place < length xs) c.deref.ensures.value c.in-Ok.ensures.bound in
    let at = subst (λ xs. HoldsAt (λ y. atom_cmp y k ≡ Equal) xs c.in-Ok.place) c.deref.ensures.value c.in-Ok.ensures.ok in
    ap from_list c.remove.ensures.items ∙ from_list-remove ks k c.in-Ok.place c.self.invariant within at
    ∙ ap (λ s. remove s k) c.self.view_is

pub returns-in-Ok-clause-there : goal.returns-in-Ok-clause-there
returns-in-Ok-clause-there c =
    let ks = c.self.inside.atoms.items in
    let k = c.args.atom.now in
    let within = subst (λ xs. c.in-Ok.place < length xs) c.deref.ensures.value c.in-Ok.ensures.bound in
    let at = subst (λ xs. HoldsAt (λ y. atom_cmp y k ≡ Equal) xs c.in-Ok.place) c.deref.ensures.value c.in-Ok.ensures.ok in
    sym (any_found ks k c.in-Ok.place within at) ∙ sym (contains-from_list ks k) ∙ ap (λ s. contains s k) c.self.view_is

absent : (c : goal.In-Err) → contains c.args.self.now c.args.atom.now ≡ false
absent c =
    let ks = c.self.inside.atoms.items in
    let k = c.args.atom.now in
    let parts : Parts k ks c.in-Err.field-0 =
    subst (λ xs. IsNonDecreasingBy (λ y. ordering_index (atom_cmp y k)) xs → Parts k xs c.in-Err.field-0) c.deref.ensures.value
    c.in-Err.ensures.position (searchable ks k c.self.invariant) in
    sym (ap (λ s. contains s k) c.self.view_is) ∙ contains-from_list ks k ∙ any_absent ks k c.in-Err.field-0 parts

pub returns-in-Err-clause-state : goal.returns-in-Err-clause-state
returns-in-Err-clause-state c = sym (remove-absent c.args.self.now c.args.atom.now (absent c))

pub returns-in-Err-clause-there : goal.returns-in-Err-clause-there
returns-in-Err-clause-there c = sym (absent c)
