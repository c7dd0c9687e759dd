use Rattle.std.proofs.Common.{◌≡◌, ◌++◌, map, take}
use Rattle.std.specs.List.{filter}
use Rattle.formula_memo.specs.Remembered.{StandsFor}
use Rattle.grounder.proofs.CandidatesLemmas.{goes}
use Rattle.grounder.proofs.ListingLemmas.{step_with}
use Rattle.grounder.proofs.finder.add_from_rows.Given as goal

-- the steps with those of the rows that were passed and go on stand behind the old ones, and what is remembered is true
abbrev pub invariant-loop-row : goal.invariant-loop-row
invariant-loop-row g l =
    let known = g.L.Look.known l.scene.look.now in
    (l.steps.items
    ≡ l.initial.steps.items
    ++ map (step_with l.scene.number)
    (filter (goes l.scene.task.now known l.scene.state.now l.scene.action.now) (take l.row l.table.rows.now)))
    × StandsFor l.scene.task.now.domain known l.scene.state.now l.memo
