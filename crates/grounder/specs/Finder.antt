-- What is found once for all states of a search.
use Rattle.std.specs.Prelude.{◌≡◌, ℕ, ◌≤◌, List, length, map, All, Some, slice_get}
use Rattle.lemmas.specs.Lists.{AreDistinct}
use Rattle.task_model.specs.Known.{Known}
use Rattle.task_model.specs.State.{Atoms, contains}
use Rattle.task_model.specs.declared.domain.Action.{Action}
use Rattle.task_model.specs.declared.domain.Domain.{Domain}
use Rattle.task_model.specs.declared.fact.Atom.{Atom}
use Rattle.task_model.specs.declared.task.Task.{Task}
use Rattle.grounder.specs.Asks.{AreAsks}
use Rattle.grounder.specs.Candidates.{AreCandidates, AreCandidateRows}
use Rattle.grounder.specs.Parts.{tops_of}
use Rattle.grounder.specs.declared.asks.Ask.{Ask}
use Rattle.grounder.specs.declared.candidates.Candidates.{Candidates}
use Rattle.grounder.specs.declared.finder.StepFinder.{StepFinder}
use Rattle.grounder.specs.declared.finder.Table.{Table}
use Rattle.task_model.specs.declared.limits.TheConstants.{SLOTS}

-- each action has a place, and the rows that stand there are short enough for its slots
pub record AreShort (task : Task) (candidates : Candidates) : Type 0 where
  pub places : length candidates.actions ≡ length task.domain.actions
  pub each : (number : ℕ) (rows : List (List ℕ)) → slice_get candidates.actions number ≡ Some (Some rows)
      → All (λ args. length args ≤ SLOTS) rows

-- Each action has a place, and where rows are kept of it, what stands there is what its condition asks for these.
pub record AreAllAsks (task : Task) (candidates : Candidates) (numbered : List Atom) (asks : List (List Ask)) : Type 0 where
  pub places : length asks ≡ length task.domain.actions
  pub each : (number : ℕ) (action : Action) (rows : List (List ℕ)) (asked : List Ask)
      → slice_get task.domain.actions number ≡ Some action
      → slice_get candidates.actions number ≡ Some (Some rows)
      → slice_get asks number ≡ Some asked
      → AreAsks task.domain (tops_of action.condition) rows numbered asked

-- These are the task's candidates, and what its conditions ask for them.
pub record FindsSteps (task : Task) (known : Known) (finder : StepFinder) : Type 0 where
  pub candidates : AreCandidates task known finder.candidates
  pub distinct : AreDistinct finder.atoms.keys
  pub asks : AreAllAsks task finder.candidates finder.atoms.keys finder.asks

-- These are the rows of the action, what its condition asks for them, and which atoms are in the state.
pub record IsTable (domain : Domain) (known : Known) (state : Atoms) (action : Action) (table : Table) : Type 0 where
  pub numbered : List Atom
  pub rows : AreCandidateRows domain known action table.rows.now
  pub asks : AreAsks domain (tops_of action.condition) table.rows.now numbered table.asks.now
  pub marks : table.marks.now ≡ map (contains state) numbered
