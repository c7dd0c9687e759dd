use Rattle.std.proofs.Common.{◌≡◌, drop}
use Rattle.std.specs.List.{flat_map}
use Rattle.fact_store.proofs.initial.add_object.Given as goal
use Rattle.task_model.specs.Initial.{type_facts}
use Rattle.task_model.specs.Known.{with_facts}

-- with what is left, all are there
abbrev pub invariant-loop-sort : goal.invariant-loop-sort
invariant-loop-sort l = record {
  facts : with_facts l.facts.known.facts (flat_map (λ sort. type_facts l.domain sort l.object) (drop l.sort-index l.declared.sorts))
      ≡ with_facts l.initial.facts.known.facts (flat_map (λ sort. type_facts l.domain sort l.object) l.declared.sorts);
  names : l.facts.known.names ≡ l.initial.facts.known.names;
  values : l.facts.known.values ≡ l.initial.facts.known.values;
}
