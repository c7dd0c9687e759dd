use Rattle.std.proofs.Common.{◌+◌, ◌∙◌, ap, sym}
use Rattle.grid_world.specs.Answers.{nth}
use Rattle.grid_world.proofs.PlacesLemmas.{rows_from, rows_more}
use Rattle.grid_world.proofs.place.pose_in.Goals as goal

pub returns-in-Here : goal.returns-in-Here
returns-in-Here c =
    let grid = c.args.grid.now in
    let block = c.args.block.now in
    let region = c.args.region.now in
    let row = c.loop-row.row in
    sym (c.loop-row.invariant ∙ ap (nth c.loop-row.left) (rows_more grid block region row c.loop-row-test.true)
    ∙ c.in-Here.ensures (rows_from grid block region (row + 1)))

pub loop-row-preserved : goal.loop-row-preserved
loop-row-preserved c =
    let grid = c.args.grid.now in
    let block = c.args.block.now in
    let region = c.args.region.now in
    let row = c.loop-row.row in
    c.loop-row.invariant ∙ ap (nth c.loop-row.left) (rows_more grid block region row c.loop-row-test.true)
    ∙ c.in-Left.ensures (rows_from grid block region (row + 1))
