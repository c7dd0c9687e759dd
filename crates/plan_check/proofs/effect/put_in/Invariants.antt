use Rattle.std.proofs.Common.{◌≡◌, map, drop}
use Rattle.task_model.specs.State.{with_atoms}
use Rattle.task_model.specs.Steps.{atom_of}
use Rattle.plan_check.proofs.effect.put_in.Given as goal

-- with what is left to put in, it is what was wanted
abbrev pub invariant-loop-pattern : goal.invariant-loop-pattern
invariant-loop-pattern l =
    with_atoms l.state (map (atom_of l.env) (drop l.pattern-index l.patterns))
    ≡ with_atoms l.initial.state (map (atom_of l.env) l.patterns)
