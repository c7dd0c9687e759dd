use Rattle.std.proofs.Common.{◌≡◌, ℕ, ◌<◌, Some, slice_get}
use Rattle.task_model.specs.declared.domain.Action.{Action}
use Rattle.best_first.specs.Reach.{LeadsWithin}
use Rattle.best_first.proofs.reach.are_closed.Given as goal

-- the actions that were passed lead from no state within the atoms out of them
abbrev pub invariant-loop-number : goal.invariant-loop-number
invariant-loop-number g l =
    (n : ℕ) (action : Action) → n < l.number → slice_get l.bounds.task.now.domain.actions n ≡ Some action
    → LeadsWithin l.bounds.task.now (g.L.Look.known l.bounds.look.now) l.bounds.atoms.now action
