use Rattle.std.proofs.Common.{◌≡◌, drop}
use Rattle.fact_store.proofs.initial.add_objects.Given as goal
use Rattle.task_model.specs.Initial.{declared_types}
use Rattle.task_model.specs.Known.{with_facts}

-- with what is left, all are there
abbrev pub invariant-loop-place : goal.invariant-loop-place
invariant-loop-place l = record {
  facts : with_facts l.facts.known.facts (declared_types l.domain l.place (drop l.place l.objects))
      ≡ with_facts l.initial.facts.known.facts (declared_types l.domain 0 l.objects);
  names : l.facts.known.names ≡ l.initial.facts.known.names;
  values : l.facts.known.values ≡ l.initial.facts.known.values;
}
