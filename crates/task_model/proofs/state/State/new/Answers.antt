use Rattle.std.proofs.Common.{sym, subst}
use Rattle.std.specs.List.Sorted.{IsStrictlySortedBy}
use Rattle.task_model.specs.AtomOrder.{atom_cmp}
use Rattle.task_model.proofs.state.State.new.Goals as goal

pub invariant_of-result : goal.invariant_of-result
unfolding IsStrictlySortedBy
invariant_of-result c = subst (IsStrictlySortedBy atom_cmp) (sym c.new.ensures.items) tt
