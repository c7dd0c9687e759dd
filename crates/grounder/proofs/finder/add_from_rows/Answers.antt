use Rattle.std.proofs.Common.{◌++◌, map, ap, ◌∙◌}
use Rattle.std.proofs.lemmas.List.{take_all}
use Rattle.std.specs.List.{filter}
use Rattle.grounder.proofs.CandidatesLemmas.{goes, going_rows}
use Rattle.grounder.proofs.ListingLemmas.{steps_of_action, step_with}
use Rattle.grounder.proofs.finder.add_from_rows.Goals as goal

pub returns : goal.returns
returns g c =
    let scene = c.args.scene.now in
    let task = scene.task.now in
    let known = g.L.Look.known scene.look.now in
    let state = scene.state.now in
    let action = scene.action.now in
    let rows = c.args.table.rows.now in
    let whole = take_all c.loop-row.row rows c.loop-row-test.false in (
      map (step_with scene.number) (filter (goes task known state action) rows),
      c.loop-row.invariant.0
          ∙ ap (λ xs. c.args.steps.now.items ++ map (step_with scene.number) (filter (goes task known state action) xs)) whole,
      steps_of_action task known state scene.number action c.requires.named
          (filter (goes task known state action) rows) (going_rows task known state action rows c.requires.table.rows),
    )
