use Rattle.std.proofs.Common.{◌≡◌, ◌≤◌, ◌+◌, ◌-◌, ◌*◌, ◌<◌, length, All}
use Rattle.fact_store.specs.Growth.{Grows}
use Rattle.learning.specs.Learning.{asked_by}
use Rattle.task_model.specs.Known.{IsIn}
use Rattle.transcript_model.specs.Transcript.{known_with}
use Rattle.transcript_model.specs.declared.entry.Entry.TheVariants as entry
use Rattle.learning.proofs.learn.learn_tuples.Given as goal

-- with the tuples that are left, all is known, and all from before is
abbrev pub invariant-loop : goal.invariant-loop
invariant-loop l = record {
  known : known_with l.task l.facts.known (asked_by l.asked) (entry.Got 0 (l.tuples - l.counter) l.rest)
      ≡ known_with l.task l.initial.facts.known (asked_by l.asked) (entry.Got 0 l.tuples l.values);
  grown : Grows l.initial.facts.known l.facts.known;
  long : length l.rest ≡ (l.tuples - l.counter) * length l.asked.stream.now.outputs;
  named : All (IsIn l.facts.known.names) l.asked.instance.now.inputs;
  constants : length l.task.domain.constants ≤ length l.facts.known.names;
  room : length l.facts.known.names + length l.rest < 4294705152;
}
