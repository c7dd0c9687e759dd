use Rattle.std.proofs.Common.{sym, ◌∙◌, arith}
use Rattle.task_model.proofs.ObjectsLemmas.{left_cmp}
use Rattle.task_model.proofs.object.compared.Goals as goal

pub returns : goal.returns
returns c =
    c.cmp.ensures
    ∙ sym (left_cmp c.args.ours.now c.args.others.now c.loop-index.index (omega (arith, c.min-common.ensures, c.loop-index-test.false)))
    ∙ c.loop-index.invariant
