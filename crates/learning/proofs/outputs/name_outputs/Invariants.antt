use Rattle.std.proofs.Common.{◌≡◌, ◌+◌, ◌≤◌, map, drop, take, length}
use Rattle.learning.proofs.outputs.name_outputs.Given as goal
use Rattle.learning.specs.Outputs.{AreNamed}
use Rattle.fact_store.specs.Growth.{IsFrontOf}
use Rattle.transcript_model.specs.Names.{generated}
use Rattle.task_model.specs.Known.{with_names}

-- with the names that are left, all are there, all from before are, and the objects so far have theirs
abbrev pub invariant-loop-value : goal.invariant-loop-value
invariant-loop-value l = record {
  names : with_names l.facts.known.names (map generated (drop l.value-index l.values))
      ≡ with_names l.initial.facts.known.names (map generated l.values);
  grown : IsFrontOf l.initial.facts.known.names l.facts.known.names;
  objects : AreNamed l.facts.known.names l.objects (take l.value-index l.values);
  room : length l.facts.known.names ≤ length l.initial.facts.known.names + l.value-index;
  facts : l.facts.known.facts ≡ l.initial.facts.known.facts;
  values : l.facts.known.values ≡ l.initial.facts.known.values;
}
