use Rattle.std.proofs.Common.{◌≡◌, ◌++◌, map, take}
use Rattle.task_model.specs.Streams.{fact_of}
use Rattle.task_model.specs.Truth.{slots_of}
use Rattle.learning.proofs.certified.add_atoms.Given as goal

-- the atoms that were passed are there
abbrev pub invariant-loop-pattern : goal.invariant-loop-pattern
invariant-loop-pattern l =
    l.facts.items ≡ l.initial.facts.items ++ map (fact_of (slots_of l.args)) (take l.pattern-index l.patterns)
