use Rattle.std.proofs.Common.{◌≡◌, drop}
use Rattle.task_model.specs.State.{without_atoms}
use Rattle.spread_state.proofs.advance.take_out.Given as goal

-- without what is left to take out it is what was wanted
abbrev pub invariant-loop-atom : goal.invariant-loop-atom
invariant-loop-atom l = without_atoms l.state (drop l.atom-index l.gone) ≡ without_atoms l.initial.state l.gone
