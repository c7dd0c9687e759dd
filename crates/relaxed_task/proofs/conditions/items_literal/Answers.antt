use Rattle.std.proofs.Common.{◌<◌, length, ap, ◌∙◌, subst, get_or}
use Rattle.formula_eval.proofs.ReadableLemmas.{fit_item, item_readable}
use Rattle.relaxed_task.proofs.conditions.items_literal.Goals as goal

pub literal-requires-clause-readable : goal.literal-requires-clause-readable
literal-requires-clause-readable g c =
    let domain = c.args.scene.now.task.now.domain in
    let index = c.loop-item.item-index in
    let items = c.as_slice-item-items.ensures in
    let inside : index < length domain.derived = subst (λ xs. index < length xs) items c.loop-item-test.true in
    let is = c.item-item.is ∙ ap (λ xs. get_or xs index c.item-item.result) items in
    item_readable domain c.requires c.item-item.result (fit_item domain c.requires index c.item-item.result inside is)
