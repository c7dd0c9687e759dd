use Rattle.std.proofs.Common.{◌≡◌}
use Rattle.plan_check.proofs.InitialLemmas.{fluents_of}
use Rattle.plan_check.proofs.start.initial.Given as goal

-- the fluents' atoms among the facts that were passed
abbrev pub invariant-loop-fact : goal.invariant-loop-fact
invariant-loop-fact l =
    (l.atoms.items ≡ fluents_of l.task.domain l.task.problem.init l.fact-index)
    × (l.roles ≡ l.task.domain.roles)
