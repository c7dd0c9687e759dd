use Rattle.std.proofs.Common.{◌<◌, map, length, get_or, Some, slice_get, option_map, ap, sym, ◌∙◌, subst, All}
use Rattle.std.proofs.lemmas.Option.{slice_get-map}
use Rattle.std.specs.List.Sorted.{IsStrictlySortedBy}
use Rattle.task_model.specs.AtomOrder.{atom_cmp}
use Rattle.task_model.specs.State.{from_list}
use Rattle.state_store.specs.Rows.{state_of, states_of, row_atoms}
use Rattle.state_store.proofs.EditsLemmas.{row_sorted}
use Rattle.state_store.proofs.RowsLemmas.{row_at}
use Rattle.state_store.proofs.store.StateStore.get.Goals as goal

pub atoms_of-requires : goal.atoms_of-requires
atoms_of-requires c =
    let keys = c.self.inside.rows.keys in
    let key = c.index-as_slice-id.result in
    let within : c.args.id < length (states_of c.self.inside.atoms.keys (map (λ v. v.items) keys)) =
    subst (λ ss. c.args.id < length ss) (sym c.self.view_is) c.requires in
    let at = row_at (λ v. v.items) c.self.inside.atoms.keys keys key c.args.id within
    (c.index-as_slice-id.is ∙ ap (λ ks. get_or ks c.args.id key) c.as_slice.ensures.keys) in
    let known = (c.self.invariant.each c.args.id key.items at).known in
    subst (λ row. All (λ n. n < length c.as_slice-2.result.now) row)
    (sym c.as_slice-3.ensures.value) (subst (λ atoms. All (λ n. n < length atoms) key.items) (sym c.as_slice-2.ensures.keys) known)

pub from_ascending-requires : goal.from_ascending-requires
from_ascending-requires c =
    let keys = c.self.inside.rows.keys in
    let key = c.index-as_slice-id.result in
    let atoms = c.self.inside.atoms.keys in
    let within : c.args.id < length (states_of atoms (map (λ v. v.items) keys)) =
    subst (λ ss. c.args.id < length ss) (sym c.self.view_is) c.requires in
    let at = row_at (λ v. v.items) atoms keys key c.args.id within
    (c.index-as_slice-id.is ∙ ap (λ ks. get_or ks c.args.id key) c.as_slice.ensures.keys) in
    subst (IsStrictlySortedBy atom_cmp)
    (sym (c.in_ok-atoms.ensures ∙ (λ i. row_atoms (c.as_slice-2.ensures.keys i) (c.as_slice-3.ensures.value i))))
    (row_sorted atoms key.items (c.self.invariant.each c.args.id key.items at))

pub returns : goal.returns
returns c =
    let keys = c.self.inside.rows.keys in
    let key = c.index-as_slice-id.result in
    let atoms = c.self.inside.atoms.keys in
    let within : c.args.id < length (states_of atoms (map (λ v. v.items) keys)) =
    subst (λ ss. c.args.id < length ss) (sym c.self.view_is) c.requires in
    let at = row_at (λ v. v.items) atoms keys key c.args.id within
    (c.index-as_slice-id.is ∙ ap (λ ks. get_or ks c.args.id key) c.as_slice.ensures.keys) in
    let is = c.from_ascending.ensures
    ∙ ap from_list (c.in_ok-atoms.ensures ∙ (λ i. row_atoms (c.as_slice-2.ensures.keys i) (c.as_slice-3.ensures.value i))) in
    ap (λ ss. slice_get ss c.args.id) (sym c.self.view_is) ∙ slice_get-map (state_of atoms) (map (λ v. v.items) keys) c.args.id
    ∙ ap (option_map (state_of atoms)) at ∙ ap Some (sym is)
