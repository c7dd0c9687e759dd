use Rattle.std.proofs.Common.{◌≡◌, ℕ, List, Option, Some, IfSome, length, slice_get}
use Rattle.task_model.specs.declared.domain.Action.{Action}
use Rattle.grounder.specs.Candidates.{AreCandidateRows}
use Rattle.grounder.proofs.candidates.Candidates.new.Given as goal

-- each action that was passed has its rows, if it has any
abbrev pub invariant-loop-action : goal.invariant-loop-action
invariant-loop-action g l =
    (length l.actions.items ≡ l.action-index)
    × ((number : ℕ) (action : Action) (rows : Option (List (List ℕ)))
    → slice_get l.task.domain.actions number ≡ Some action
    → slice_get l.actions.items number ≡ Some rows
    → IfSome rows (AreCandidateRows l.task.domain (g.L.Look.known l.look) action))
