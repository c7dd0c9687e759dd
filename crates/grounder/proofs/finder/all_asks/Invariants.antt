use Rattle.std.proofs.Common.{◌≡◌, ℕ, List, Some, length, slice_get}
use Rattle.lemmas.specs.Lists.{AreDistinct}
use Rattle.task_model.specs.declared.domain.Action.{Action}
use Rattle.grounder.specs.Asks.{AreAsks}
use Rattle.grounder.specs.Parts.{tops_of}
use Rattle.grounder.specs.declared.asks.Ask.{Ask}
use Rattle.grounder.proofs.finder.all_asks.Given as goal

-- what the conditions ask of the actions that were passed
abbrev pub invariant-loop-number : goal.invariant-loop-number
invariant-loop-number l =
    (length l.asks.items ≡ l.number)
    × ((number : ℕ) (action : Action) (rows : List (List ℕ)) (asked : List Ask)
    → slice_get l.task.domain.actions number ≡ Some action
    → slice_get l.candidates.actions number ≡ Some (Some rows)
    → slice_get l.asks.items number ≡ Some asked
    → AreAsks l.task.domain (tops_of action.condition) rows l.numbered.keys asked)
    × AreDistinct l.numbered.keys
