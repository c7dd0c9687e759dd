use Rattle.std.proofs.Common.{take}
use Rattle.grounder.specs.Parts.{AreNeeded}
use Rattle.grounder.proofs.atoms.static_atoms.Given as goal

-- the atoms are those of the parts that were passed
abbrev pub invariant-loop-part : goal.invariant-loop-part
invariant-loop-part l = AreNeeded l.domain (take l.part-index l.part-items) l.atoms.items
