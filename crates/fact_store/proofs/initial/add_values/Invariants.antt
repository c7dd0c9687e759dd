use Rattle.std.proofs.Common.{◌≡◌, drop}
use Rattle.fact_store.proofs.initial.add_values.Given as goal
use Rattle.task_model.specs.Known.{with_values}

-- with what is left, all are there
abbrev pub invariant-loop-valued : goal.invariant-loop-valued
invariant-loop-valued l = record {
  values : with_values l.facts.known.values (drop l.valued-index l.values) ≡ with_values l.initial.facts.known.values l.values;
  names : l.facts.known.names ≡ l.initial.facts.known.names;
  facts : l.facts.known.facts ≡ l.initial.facts.known.facts;
}
