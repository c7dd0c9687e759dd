use Rattle.std.proofs.Common.{List}
use Rattle.task_model.specs.Known.{IsCoherent}
use Rattle.task_model.specs.declared.task.GroundAction.{GroundAction}
use Rattle.task_model.specs.declared.task.Task.{Task}
use Rattle.dreaming.specs.Parts.{IsListed}
use Rattle.dreaming.specs.Thinning.{AreEssential}
use Rattle.dreaming.proofs.wanted.Wanted.want_inputs.Given as goal

abbrev pub invariant-loop-place : goal.invariant-loop-place
invariant-loop-place l =
    (task : Task) (steps : List GroundAction) → IsListed task l.supposed → IsCoherent l.supposed.base
    → AreEssential task l.supposed steps l.initial.self → AreEssential task l.supposed steps l.self
