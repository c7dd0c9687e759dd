use Rattle.std.proofs.Common.{ap, sym, ◌∙◌, subst}
use Rattle.std.proofs.lemmas.List.Filters.{dedup_is}
use Rattle.std.specs.List.Sorted.{IsStrictlySortedBy}
use Rattle.task_model.specs.AtomOrder.{atom_cmp}
use Rattle.task_model.specs.State.{from_list}
use Rattle.task_model.proofs.StateOrderLemmas.{same_atom, sorted_of, from_list-dedup}
use Rattle.task_model.proofs.state.State.from_atoms.Goals as goal

pub invariant_of-result : goal.invariant_of-result
invariant_of-result c =
    let sorted = c.sort_unstable.new.self.items in
    subst (IsStrictlySortedBy atom_cmp) (sym (dedup_is same_atom sorted c.dedup.new.self.items c.dedup.ensures.filtered))
    (sorted_of sorted c.sort_unstable.ensures.sorted)

pub returns : goal.returns
returns c =
    let sorted = c.sort_unstable.new.self.items in
    ap from_list (dedup_is same_atom sorted c.dedup.new.self.items c.dedup.ensures.filtered)
    ∙ from_list-dedup c.args.atoms.items sorted c.sort_unstable.ensures.permutation
