use Rattle.std.proofs.Common.{◌≡◌, map, drop}
use Rattle.learning.proofs.tuple.learn_atoms.Given as goal
use Rattle.fact_store.specs.Growth.{IsFrontOf}
use Rattle.task_model.specs.Known.{with_facts}
use Rattle.task_model.specs.Streams.{fact_of}
use Rattle.task_model.specs.Truth.{slots_of}

-- with what is left, all are there, and all from before are
abbrev pub invariant-loop-pattern : goal.invariant-loop-pattern
invariant-loop-pattern l = record {
  facts : with_facts l.facts.known.facts (map (fact_of (slots_of l.args)) (drop l.pattern-index l.patterns))
      ≡ with_facts l.initial.facts.known.facts (map (fact_of (slots_of l.args)) l.patterns);
  grown : IsFrontOf l.initial.facts.known.facts l.facts.known.facts;
  names : l.facts.known.names ≡ l.initial.facts.known.names;
  values : l.facts.known.values ≡ l.initial.facts.known.values;
}
