use Rattle.std.proofs.Common.{inr, refl}
use Rattle.pddlstream_app.proofs.deorder.order_said.Goals as goal

pub deorder-requires-clause-valid : goal.deorder-requires-clause-valid
deorder-requires-clause-valid c = (c.requires.plan.0, c.in_ok-plan.ensures.valid c.requires.plan.0 c.requires.plan.1)

pub returns-in-Ok : goal.returns-in-Ok
returns-in-Ok c = record {
  steps = c.in_ok-plan.plan.steps;
  shown = c.in_ok-plan.ensures.shown;
  said = inr (record {
    short = c.in-Ok.ensures.short;
    order = c.in-Ok.order;
    right = c.in-Ok.ensures.order;
    kind = refl;
    is = c.in_ok-text-in-Ok.ensures;
  });
}
