use Rattle.std.proofs.Common.{◌≡◌, sym, ap, subst, ◌∙◌, length}
use Rattle.plan_deorder.proofs.PairLemmas.{pairs_in}
use Rattle.plan_deorder.proofs.StagingLemmas.{is_order}
use Rattle.plan_deorder.specs.Clashes.{stages_of}
use Rattle.plan_deorder.specs.Orders.{IsOrder}
use Rattle.plan_deorder.proofs.order.order_of.Goals as goal

pub returns : goal.returns
returns c =
    let task = c.args.task.now in
    let steps = c.args.steps.now in
    let touched = c.in_ok-touched.touched.items in
    let pairs : c.from_vec.result ≡ pairs_in touched =
    c.from_vec.ensures ∙ c.in_ok-pairs.ensures ∙ ap pairs_in c.as_slice.ensures.value in
    let stages : c.from_vec-2.result ≡ stages_of touched (length touched) =
    c.from_vec-2.ensures ∙ c.in_ok-stages.ensures ∙ ap (λ ts. stages_of ts (length ts)) c.as_slice-2.ensures.value in
    subst (λ ps. IsOrder task steps ps c.from_vec-2.result) (sym pairs)
    (subst (IsOrder task steps (pairs_in touched)) (sym stages) (is_order task steps touched c.in_ok-touched.ensures))
