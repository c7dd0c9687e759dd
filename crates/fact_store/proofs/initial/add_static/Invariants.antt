use Rattle.std.proofs.Common.{◌≡◌, drop, filter}
use Rattle.fact_store.proofs.initial.add_static.Given as goal
use Rattle.task_model.specs.Initial.{is_static}
use Rattle.task_model.specs.Known.{with_facts}

-- with what is left, all are there
abbrev pub invariant-loop-fact : goal.invariant-loop-fact
invariant-loop-fact l = record {
  facts : with_facts l.facts.known.facts (filter (is_static l.domain) (drop l.fact-index l.init))
      ≡ with_facts l.initial.facts.known.facts (filter (is_static l.domain) l.init);
  names : l.facts.known.names ≡ l.initial.facts.known.names;
  values : l.facts.known.values ≡ l.initial.facts.known.values;
}
