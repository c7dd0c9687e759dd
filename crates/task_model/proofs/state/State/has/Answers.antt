use Rattle.std.proofs.Common.{ap, sym, ◌∙◌, length, subst}
use Rattle.task_model.specs.State.{contains}
use Rattle.task_model.proofs.StateLemmas.{contains-from_list}
use Rattle.task_model.proofs.state.State.has.Goals as goal
use Rattle.std.specs.List.Sorted.{IsSearchInRange, IsBinarySearchResult}
use Rattle.task_model.specs.AtomOrder.{atom_cmp}
use Rattle.task_model.proofs.StateOrderLemmas.{found_is}

pub returns : goal.returns
returns c =
    let ks = c.self.inside.atoms.items in
    let k = c.args.atom.now in
    let found = c.binary_search.result in
    let within = subst (λ xs. IsSearchInRange found (length xs)) c.deref.ensures.value c.binary_search.ensures.bound in
    let at = subst (λ xs. IsBinarySearchResult (λ y. atom_cmp y k) xs found) c.deref.ensures.value c.binary_search.ensures.position in
    c.is_ok.ensures.value ∙ found_is ks k c.self.invariant found within at ∙ sym (contains-from_list ks k)
    ∙ ap (λ s. contains s k) c.self.view_is
