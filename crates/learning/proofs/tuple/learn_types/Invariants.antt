use Rattle.std.proofs.Common.{◌≡◌, drop}
use Rattle.learning.proofs.tuple.learn_types.Given as goal
use Rattle.fact_store.specs.Growth.{IsFrontOf}
use Rattle.task_model.specs.Known.{with_facts}
use Rattle.task_model.specs.Streams.{output_types}

-- with what is left, all are there, and all from before are
abbrev pub invariant-loop-place : goal.invariant-loop-place
invariant-loop-place l = record {
  facts : with_facts l.facts.known.facts (output_types l.domain (drop l.place l.sorts) (drop l.place l.objects))
      ≡ with_facts l.initial.facts.known.facts (output_types l.domain l.sorts l.objects);
  grown : IsFrontOf l.initial.facts.known.facts l.facts.known.facts;
  names : l.facts.known.names ≡ l.initial.facts.known.names;
  values : l.facts.known.values ≡ l.initial.facts.known.values;
}
