use Rattle.std.proofs.Common.{◌≡◌, ◌++◌, drop}
use Rattle.task_model.specs.Streams.{output_types}
use Rattle.learning.proofs.certified.add_output_types.Given as goal

-- with what is left, all are there
abbrev pub invariant-loop-place : goal.invariant-loop-place
invariant-loop-place l =
    l.facts.items ++ output_types l.domain (drop l.place l.sorts) (drop l.place l.objects)
    ≡ l.initial.facts.items ++ output_types l.domain l.sorts l.objects
