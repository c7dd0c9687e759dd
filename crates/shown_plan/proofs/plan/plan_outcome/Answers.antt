use Rattle.std.proofs.Common.{map, refl, subst, ap, ◌∙◌}
use Rattle.transcript_model.specs.Calls.{call_of_step}
use Rattle.transcript_model.specs.Outcomes.{AreOrigins}
use Rattle.shown_plan.proofs.plan.plan_outcome.Goals as goal

pub plan_origins-requires : goal.plan_origins-requires
plan_origins-requires g c = record {
  task = c.args.task.now;
  fit = c.requires.fit;
  legal = c.requires.legal;
  steps = c.args.steps.now;
  named = c.requires.steps;
  shown =
      c.as_slice.ensures ∙ c.in_ok-calls.ensures
      ∙ ap (λ ns. map (call_of_step c.args.task.now ns) c.args.steps.now) c.requires.names;
}

pub returns : goal.returns
returns g c = record {
  calls = c.in_ok-calls.calls;
  from = c.in_ok-from.from;
  is = refl;
  shown =
      c.in_ok-calls.ensures
      ∙ ap (λ ns. map (call_of_step c.args.task.now ns) c.args.steps.now) c.requires.names;
  origins = subst (λ calls. AreOrigins c.args.version c.args.entries.now calls c.in_ok-from.from) c.as_slice.ensures c.in_ok-from.ensures;
}
