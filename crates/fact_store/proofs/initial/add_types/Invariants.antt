use Rattle.std.proofs.Common.{◌≡◌, map, drop}
use Rattle.fact_store.proofs.initial.add_types.Given as goal
use Rattle.fact_store.specs.Growth.{IsFrontOf}
use Rattle.task_model.specs.Known.{type_fact, with_facts}

-- with what is left, all are there, and all from before are
abbrev pub invariant-loop-sort : goal.invariant-loop-sort
invariant-loop-sort l = record {
  facts : with_facts l.facts.known.facts (map (λ s. type_fact s l.object) (drop l.sort-index l.sorts))
      ≡ with_facts l.initial.facts.known.facts (map (λ s. type_fact s l.object) l.sorts);
  grown : IsFrontOf l.initial.facts.known.facts l.facts.known.facts;
  names : l.facts.known.names ≡ l.initial.facts.known.names;
  values : l.facts.known.values ≡ l.initial.facts.known.values;
}
