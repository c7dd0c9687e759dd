use Rattle.std.proofs.Common.{◌≡◌, ◌≤◌, ◌+◌, ◌-◌, ◌++◌, length, replicate}
use Rattle.fact_store.specs.Growth.{IsFrontOf}
use Rattle.task_model.specs.Streams.{Yielded}
use Rattle.learning.proofs.learn.note_tuples.Given as goal

-- with the notes that are left, all are there, and all from before are
abbrev pub invariant-loop : goal.invariant-loop
invariant-loop l = record {
  notes : l.queue ++ replicate (l.tuples - l.counter) (Yielded l.instance) ≡ l.initial.queue ++ replicate l.tuples (Yielded l.instance);
  grown : IsFrontOf l.initial.queue l.queue;
  few : length l.queue ≤ length l.initial.queue + l.counter;
}
