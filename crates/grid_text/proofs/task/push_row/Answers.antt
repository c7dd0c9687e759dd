use Rattle.std.proofs.Common.{◌≡◌, ◌∙◌, ◌++◌, ◌+◌, ap, sym, append-nil}
use Rattle.grid_text.specs.Tasks.{item_text, row_text}
use Rattle.grid_text.proofs.TasksLemmas.{row_more, row_none}
use Rattle.grid_text.proofs.task.push_row.Goals as goal

pub loop-before-init : goal.loop-before-init
loop-before-init c = sym (ap (λ t. c.args.text.now.items ++ t) (row_none c.args.row) ∙ append-nil c.args.text.now.items)

pub loop-before-preserved : goal.loop-before-preserved
loop-before-preserved c =
    let bytes : c.as_bytes.result.now ≡ item_text c.args.row (c.loop-before.before + 1) = c.as_bytes.ensures.value ∙ c.in_ok-item.ensures in
    c.in_ok-extend_from_slice.ensures.items
    ∙ ap (λ t. t ++ c.as_bytes.result.now) c.loop-before.invariant
    ∙ ap (λ t. (c.args.text.now.items ++ row_text c.args.row c.loop-before.before) ++ t) bytes
    ∙ row_more c.args.row c.args.text.now.items c.loop-before.before
