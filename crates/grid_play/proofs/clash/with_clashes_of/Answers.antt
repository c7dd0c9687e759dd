use Rattle.std.proofs.Common.{◌≡◌, ◌+◌, ◌≤◌, ◌&&◌, false, length, sym, subst, ap, ◌∙◌, arith}
use Rattle.std.proofs.lemmas.Bool.{and_left, and_right}
use Rattle.grid_play.specs.Clashes.{LeastBefore, is_before, is_clash}
use Rattle.grid_play.proofs.ClashLemmas.{least_left, least_row, least_taken}
use Rattle.grid_play.proofs.clash.with_clashes_of.Goals as goal
use Rattle.grid_play.proofs.clash.with_clashes_of.Goals.{then-clashes+then-comes_first, else-clashes, else-clashes-via-then-clashes+else-comes_first, else-clashes-via-else-clashes}

pub loop-other-preserved : goal.loop-other-preserved
loop-other-preserved c =
    let grid = c.args.grid.now in
    let world = c.args.world.now in
    let one = c.args.one in
    let other = c.loop-other.other in
    let best = c.loop-other.best in
    elim c.if-clashes.branch [
      | then-clashes+then-comes_first w ↦
          subst (LeastBefore grid world one (other + 1)) (sym w.best-is)
          (least_taken grid world one other best c.loop-other.invariant (sym c.clashes.ensures ∙ w.if-clashes.true)
          (sym w.comes_first.ensures ∙ w.if-comes_first.true))
      | else-clashes w ↦
          let left : (is_clash grid world one other && is_before grid (one, other) best) ≡ false =
          elim w.else-clashes.branch [
            | else-clashes-via-then-clashes+else-comes_first v ↦
                and_right (is_clash grid world one other) (is_before grid (one, other) best)
                (sym v.comes_first.ensures ∙ v.if-comes_first.false)
            | else-clashes-via-else-clashes v ↦
                and_left (is_clash grid world one other) (is_before grid (one, other) best)
                (sym c.clashes.ensures ∙ v.if-clashes.false)
          ] in
          subst (LeastBefore grid world one (other + 1)) (sym w.best-is)
          (least_left grid world one other best c.loop-other.invariant left)
    ]

pub returns : goal.returns
returns c =
    let all : length c.args.grid.now.blocks ≤ c.loop-other.other = omega (arith, ap length c.blocks-other-end.ensures) in
    least_row c.args.grid.now c.args.world.now c.args.one c.loop-other.other c.loop-other.best all c.loop-other.invariant
