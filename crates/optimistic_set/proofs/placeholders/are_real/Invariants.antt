use Rattle.std.proofs.Common.{take}
use Rattle.optimistic_set.specs.Dreamable.{AreReal}
use Rattle.optimistic_set.proofs.placeholders.are_real.Given as goal

-- the names that were passed are such
abbrev pub invariant-loop-name : goal.invariant-loop-name
invariant-loop-name l = AreReal (take l.name-index l.names)
