use Rattle.std.proofs.Common.{arith, ◌≡◌, ◌+◌, ◌∙◌, sym, subst, refl, true, false, List}
use Rattle.grid_text.specs.declared.rect.Rect.{Rect}
use Rattle.grid_world.specs.Answers.{may_lie, poses_at, row_corners}
use Rattle.grid_world.specs.Covers.{CoversColumns, corner_in}
use Rattle.grid_world.proofs.CoversLemmas.{may_same}
use Rattle.grid_world.proofs.PlacesLemmas.{Leaves, counts, finds, passes, row_from}
use Rattle.grid_world.proofs.place.pose_in_row.Goals as goal
use Rattle.grid_world.proofs.place.pose_in_row.Goals.{then-is_free+else-left-eq0, else-is_free}

pub returns-then-left-eq0 : goal.returns-then-left-eq0
returns-then-left-eq0 c =
    let grid = c.args.grid.now in
    let block = c.args.block.now in
    let region = c.args.region.now in
    let column = c.loop-column.column in
    let covers =
    subst (λ (obstacles : List Rect). CoversColumns c.row_cover-ends.result obstacles block region c.args.y) c.obstacles.ensures
    c.row_cover-ends.ensures in
    let same = may_same grid block region c.args.y column c.row_cover-ends.result covers (omega arith) in
    let may : may_lie grid block region (corner_in region c.args.y column) ≡ true = sym same ∙ sym c.is_free.ensures ∙ c.if-is_free.true in
    finds grid block region c.args.y column c.args.turn c.loop-column.left
    (poses_at grid block region (row_corners region.x region.w c.args.y)) (corner_in region c.args.y column) c.loop-column-test.true
    refl may c.if-left-eq0.true c.loop-column.invariant

pub loop-column-preserved : goal.loop-column-preserved
loop-column-preserved c =
    let grid = c.args.grid.now in
    let block = c.args.block.now in
    let region = c.args.region.now in
    let column = c.loop-column.column in
    let all = poses_at grid block region (row_corners region.x region.w c.args.y) in
    let rest = row_from grid block region c.args.y (column + 1) in
    let covers =
    subst (λ (obstacles : List Rect). CoversColumns c.row_cover-ends.result obstacles block region c.args.y) c.obstacles.ensures
    c.row_cover-ends.ensures in
    let same = may_same grid block region c.args.y column c.row_cover-ends.result covers (omega arith) in
    elim c.if-is_free.branch [
      | then-is_free+else-left-eq0 w ↦
          let may : may_lie grid block region (corner_in region c.args.y column) ≡ true =
          sym same ∙ sym c.is_free.ensures ∙ w.if-is_free.true in
          subst (λ left. Leaves all c.args.turn left rest) (sym w.left-is)
          (counts grid block region c.args.y column c.args.turn c.loop-column.left all (corner_in region c.args.y column)
          c.loop-column-test.true refl may (omega (arith, w.if-left-eq0.false)) c.loop-column.invariant)
      | else-is_free w ↦
          let may : may_lie grid block region (corner_in region c.args.y column) ≡ false =
          sym same ∙ sym c.is_free.ensures ∙ w.if-is_free.false in
          subst (λ left. Leaves all c.args.turn left rest) (sym w.left-is)
          (passes grid block region c.args.y column c.args.turn c.loop-column.left all
          (corner_in region c.args.y column) c.loop-column-test.true refl may c.loop-column.invariant)
    ]
