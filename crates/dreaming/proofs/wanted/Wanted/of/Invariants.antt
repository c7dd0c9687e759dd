use Rattle.std.proofs.Common.{ℕ, Contains}
use Rattle.std.specs.List.{flat_map}
use Rattle.task_model.specs.declared.task.GroundAction.{GroundAction}
use Rattle.dreaming.specs.Thinning.{IsWanted}
use Rattle.dreaming.proofs.wanted.Wanted.of.Given as goal

abbrev pub invariant-loop-step : goal.invariant-loop-step
invariant-loop-step l =
    (object : ℕ) → IsWanted l.wanted object → Contains (flat_map (λ (s : GroundAction). s.args) l.step-items) object
