use Rattle.std.proofs.Common.{◌≡◌, map, take}
use Rattle.transcript_model.specs.Names.{generated}
use Rattle.dream_asks.proofs.answers.names_of.Given as goal

-- the names of the first values
abbrev pub invariant-loop-value : goal.invariant-loop-value
invariant-loop-value l = l.names.items ≡ map generated (take l.value-index l.values)
