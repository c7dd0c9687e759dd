use Rattle.std.proofs.Common.{◌≡◌, ◌++◌, drop}
use Rattle.task_model.specs.Known.{with_facts}
use Rattle.fact_layer.proofs.more.More.add_all.Given as goal

-- with what is left, all are there
abbrev pub invariant-loop-fact : goal.invariant-loop-fact
invariant-loop-fact l = record {
  facts : with_facts (l.base.known.facts ++ l.self.facts) (drop l.fact-index l.facts)
      ≡ with_facts (l.base.known.facts ++ l.initial.self.facts) l.facts;
  values : l.self.values ≡ l.initial.self.values;
}
