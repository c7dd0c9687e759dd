-- The action that a step names stands at its place.
use Rattle.std.proofs.Common.{◌≡◌, List, ap, ◌∙◌, Some, slice_get, get_or}
use Rattle.std.proofs.lemmas.Option.{slice_get_within}
use Rattle.lemmas.proofs.ListTests.{get_some}
use Rattle.task_model.specs.declared.domain.Action.{Action}
use Rattle.task_model.specs.declared.task.GroundAction.{GroundAction}
use Rattle.task_model.specs.declared.task.Task.{Task}
use Rattle.plan_deorder.specs.Clashes.{IsNamedStep}

pub at_place : (task : Task) (step : GroundAction) → IsNamedStep task step → (actions : List Action)
    → actions ≡ task.domain.actions → (action : Action) → action ≡ get_or actions step.action action
    → slice_get task.domain.actions step.action ≡ Some action
at_place task step named actions same action is =
    let within = slice_get_within task.domain.actions step.action named.action named.named in
    get_some task.domain.actions step.action action within (is ∙ ap (λ xs. get_or xs step.action action) same)
