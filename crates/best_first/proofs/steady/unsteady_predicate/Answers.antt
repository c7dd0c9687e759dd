use Rattle.std.proofs.Common.{◌<◌, ◌∙◌, ap, length, subst, get_or}
use Rattle.formula_eval.proofs.ReadableLemmas.{fit_item, item_readable}
use Rattle.best_first.proofs.steady.unsteady_predicate.Goals as goal

pub is_steady_item-requires-clause-readable : goal.is_steady_item-requires-clause-readable
is_steady_item-requires-clause-readable c =
    let domain = c.args.domain.now in
    let index = c.loop-item.item-index in
    let items = c.as_slice-item-items.ensures in
    let inside : index < length domain.derived = subst (λ xs. index < length xs) items c.loop-item-test.true in
    let is = c.item-item.is ∙ ap (λ xs. get_or xs index c.item-item.result) items in
    item_readable domain c.requires c.item-item.result (fit_item domain c.requires index c.item-item.result inside is)
