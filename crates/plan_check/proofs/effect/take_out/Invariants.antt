use Rattle.std.proofs.Common.{◌≡◌, map, drop}
use Rattle.task_model.specs.State.{without_atoms}
use Rattle.task_model.specs.Steps.{atom_of}
use Rattle.plan_check.proofs.effect.take_out.Given as goal

-- without what is left to take out, it is what was wanted
abbrev pub invariant-loop-pattern : goal.invariant-loop-pattern
invariant-loop-pattern l =
    without_atoms l.state (map (atom_of l.env) (drop l.pattern-index l.patterns))
    ≡ without_atoms l.initial.state (map (atom_of l.env) l.patterns)
