use Rattle.std.proofs.Common.{◌≡◌, drop}
use Rattle.task_model.specs.State.{with_atoms}
use Rattle.spread_state.proofs.advance.put_in.Given as goal

-- with what is left to put in it is what was wanted
abbrev pub invariant-loop-atom : goal.invariant-loop-atom
invariant-loop-atom l = with_atoms l.state (drop l.atom-index l.come) ≡ with_atoms l.initial.state l.come
