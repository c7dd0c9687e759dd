use Rattle.std.proofs.Common.{◌≡◌, ℕ, take}
use Rattle.shown_steps.specs.Plans.{IsPlan}
use Rattle.replay_check.proofs.read_back.plan_of.Given as goal

-- the steps so far are those of the plan
abbrev pub invariant-loop-call : goal.invariant-loop-call
invariant-loop-call l =
    (cost : ℕ) (plan : IsPlan l.task l.facts.known l.calls cost) → l.steps.items ≡ take l.call-index plan.steps
