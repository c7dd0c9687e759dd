use Rattle.std.proofs.Common.{◌≡◌, take}
use Rattle.fact_store.specs.Growth.{Grows, IsFrontOf}
use Rattle.transcript_model.specs.Transcript.{known_of, notes_of}
use Rattle.learning.proofs.learn.learn_from.Given as goal

-- the entries that were passed are learnt, and all from before stands
abbrev pub invariant-loop-place : goal.invariant-loop-place
invariant-loop-place l = record {
  known : l.facts.known ≡ known_of l.task (take l.place l.entries);
  notes : l.queue ≡ notes_of l.task (take l.place l.entries);
  grown : Grows l.initial.facts.known l.facts.known;
  more : IsFrontOf l.initial.queue l.queue;
}
