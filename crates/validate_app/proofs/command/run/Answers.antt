use Rattle.std.proofs.Common.{◌∙◌, refl}
use Rattle.validate_app.proofs.OutcomesLemmas.{ends_told, sink_failed}
use Rattle.validate_app.specs.declared.outcome.Outcome.TheVariants.{Stopped}
use Rattle.validate_app.specs.declared.stop.Stop.TheVariants.{Memory}
use Rattle.validate_app.proofs.command.run.Goals as goal

pub returns-in-Ok-clause-ends : goal.returns-in-Ok-clause-ends
returns-in-Ok-clause-ends g c =
    ends_told _ _ _ _ _ c.outcome_of-outcome.result c.outcome_of-outcome.ensures _
    (c.as_slice.ensures.value ∙ c.in-Ok.ensures) _ c.status.ensures c.tell.ensures.told

pub returns-clause-ends : goal.returns-clause-ends
returns-clause-ends g c =
    ends_told _ _ _ _ _ (Stopped Memory) tt _ refl _ refl c.tell-in-Err.ensures.told

pub returns-in-Ok-clause-sink : goal.returns-in-Ok-clause-sink
returns-in-Ok-clause-sink g c =
    sink_failed c.outcome_of-outcome.result _ _ c.status.ensures c.tell.ensures.cause

pub returns-clause-sink : goal.returns-clause-sink
returns-clause-sink g c = sink_failed (Stopped Memory) _ _ refl c.tell-in-Err.ensures.cause
