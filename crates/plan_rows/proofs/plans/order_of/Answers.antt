use Rattle.plan_rows.proofs.plans.order_of.Goals as goal

pub deorder-requires-clause-valid : goal.deorder-requires-clause-valid
deorder-requires-clause-valid c = (c.in-Ok.field-0, c.in-Ok.ensures.ok)
