use Rattle.std.proofs.Common.{◌≡◌, drop}
use Rattle.task_model.specs.Fit as fit
use Rattle.task_model.proofs.feeding.is_fed.Given as goal

-- what is left to see decides
abbrev pub invariant-loop-slot : goal.invariant-loop-slot
invariant-loop-slot l =
    fit.is_fed l.domain l.second l.slot (drop l.slot l.second.inputs) l.output ≡ fit.is_fed l.domain l.second 0 l.second.inputs l.output
