use Rattle.std.proofs.Common.{sym, subst}
use Rattle.task_model.specs.Initial.{initial_state}
use Rattle.plan_deorder.proofs.NamedLemmas.{all_named}
use Rattle.plan_deorder.proofs.OrderLemmas.{kept_order}
use Rattle.plan_deorder.specs.Clashes.{AreStepsNamed}
use Rattle.plan_deorder.specs.Orders.{IsOrder}
use Rattle.plan_deorder.proofs.order.deorder.Goals as goal

pub order_of-requires-clause-named : goal.order_of-requires-clause-named
order_of-requires-clause-named g c =
    let task = c.args.task.now in
    let runs = c.requires.valid.1.1 in
    subst (AreStepsNamed task) (sym c.as_slice.ensures)
    (all_named task (g.L.Look.known c.args.look.now) c.requires.fit.domain (initial_state task) c.requires.valid.1.0 c.args.plan.now.steps
    c.requires.valid.0 runs)

pub returns-in-Ok-clause-kept : goal.returns-in-Ok-clause-kept
returns-in-Ok-clause-kept g c listing others start end cost keeps are runs =
    let task = c.args.task.now in
    let order = subst (λ steps. IsOrder task steps c.in-Ok.order.pairs c.in-Ok.order.stages) c.as_slice.ensures c.in-Ok.ensures in
    kept_order task (g.L.Look.known c.args.look.now) c.args.plan.now.steps others c.in-Ok.order.pairs c.in-Ok.order.stages listing
    start end cost order keeps are runs
