use Rattle.std.proofs.Common.{ap, sym, ◌∙◌, not, ◌≡◌, ◌<◌, ◌≤◌, true, length, subst}
use Rattle.task_model.specs.State.{contains, insert, from_list}
use Rattle.task_model.proofs.StateLemmas.{contains-from_list}
use Rattle.task_model.proofs.state.State.add.Goals as goal
use Rattle.std.specs.List.{HoldsAt}
use Rattle.std.specs.List.Sorted.{IsStrictlySortedBy, IsNonDecreasingBy}
use Rattle.std.specs.Ordering.{ordering_index}
use Rattle.std.specs.declared.cmp.Ordering.TheVariants.{Equal}
use Rattle.task_model.specs.AtomOrder.{atom_cmp}
use Rattle.task_model.proofs.StateOrderLemmas.{Parts, searchable, any_found, any_absent, sorted_with, from_list-insert, insert-there}

pub invariant_of-self-in-Err : goal.invariant_of-self-in-Err
invariant_of-self-in-Err c =
    let ks = c.self.inside.atoms.items in
    let within : c.in-Err.place ≤ length ks = subst (λ xs. c.in-Err.place ≤ length xs) c.deref.ensures.value c.in-Err.ensures.bound in
    let parts : Parts c.args.atom ks c.in-Err.place =
    subst (λ xs. IsNonDecreasingBy (λ y. ordering_index (atom_cmp y c.args.atom)) xs → Parts c.args.atom xs c.in-Err.place)
    c.deref.ensures.value c.in-Err.ensures.position (searchable ks c.args.atom c.self.invariant) in
    subst (IsStrictlySortedBy atom_cmp) (sym c.in_ok-insert-in-Err.ensures.items)
    (sorted_with ks c.args.atom c.in-Err.place c.self.invariant within parts)

there : (c : goal.Joined-atom) → contains c.args.self.now c.args.atom ≡ true
there c =
    let ks = c.self.inside.atoms.items in
    let within = subst (λ xs. c.in-Ok.field-0 < length xs) c.deref.ensures.value c.in-Ok.ensures.bound in
    let at = subst (λ xs. HoldsAt (λ y. atom_cmp y c.args.atom ≡ Equal) xs c.in-Ok.field-0) c.deref.ensures.value c.in-Ok.ensures.ok in
    sym (ap (λ s. contains s c.args.atom) c.self.view_is) ∙ contains-from_list ks c.args.atom
    ∙ any_found ks c.args.atom c.in-Ok.field-0 within at

pub returns-in-Ok-clause-state : goal.returns-in-Ok-clause-state
returns-in-Ok-clause-state c = sym (insert-there c.args.self.now c.args.atom (there c))

pub returns-in-Ok-clause-fresh : goal.returns-in-Ok-clause-fresh
returns-in-Ok-clause-fresh c = ap not (sym (there c))

pub returns-in_ok-insert-in-Err-clause-state : goal.returns-in_ok-insert-in-Err-clause-state
returns-in_ok-insert-in-Err-clause-state c =
    ap from_list c.in_ok-insert-in-Err.ensures.items ∙ from_list-insert c.self.inside.atoms.items c.args.atom c.in-Err.place
    ∙ ap (λ s. insert s c.args.atom) c.self.view_is

pub returns-in_ok-insert-in-Err-clause-fresh : goal.returns-in_ok-insert-in-Err-clause-fresh
returns-in_ok-insert-in-Err-clause-fresh c =
    let ks = c.self.inside.atoms.items in
    let parts : Parts c.args.atom ks c.in-Err.place =
    subst (λ xs. IsNonDecreasingBy (λ y. ordering_index (atom_cmp y c.args.atom)) xs → Parts c.args.atom xs c.in-Err.place)
    c.deref.ensures.value c.in-Err.ensures.position (searchable ks c.args.atom c.self.invariant) in
    ap not (sym (sym (ap (λ s. contains s c.args.atom) c.self.view_is) ∙ contains-from_list ks c.args.atom
    ∙ any_absent ks c.args.atom c.in-Err.place parts))
