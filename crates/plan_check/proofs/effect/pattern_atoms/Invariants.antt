use Rattle.std.proofs.Common.{◌≡◌, map, take}
use Rattle.task_model.specs.Steps.{atom_of}
use Rattle.plan_check.proofs.effect.pattern_atoms.Given as goal

-- the atoms of the patterns that were passed
abbrev pub invariant-loop-pattern : goal.invariant-loop-pattern
invariant-loop-pattern l = l.atoms.items ≡ map (atom_of l.env) (take l.pattern-index l.patterns)
