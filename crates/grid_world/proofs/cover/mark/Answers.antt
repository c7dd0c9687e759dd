use Rattle.std.proofs.Common.{arith, ap, ◌∙◌, ◌||◌}
use Rattle.grid_world.specs.Covers.{reaches}
use Rattle.grid_world.proofs.CoversLemmas.{above, below, beyond, none_more, run_met}
use Rattle.grid_world.proofs.cover.mark.Goals as goal

pub returns-then-from-bottom : goal.returns-then-from-bottom
returns-then-from-bottom c column h =
    none_more c.args.ends.now column _ (above c.args.obstacle.now c.args.region.now c.args.block.now c.args.y column
    (omega (arith, c.if-from-bottom.true, c.from.ensures, c.bottom.ensures)))

pub returns-then-from : goal.returns-then-from
returns-then-from c column h =
    none_more c.args.ends.now column _ (below c.args.obstacle.now c.args.region.now c.args.block.now c.args.y column
    (omega (arith, c.if-from.true, c.from-2.ensures, c.from-3.ensures, c.from-4.ensures)))

pub returns-then-begin : goal.returns-then-begin
returns-then-begin c column h =
    none_more c.args.ends.now column _ (beyond c.args.obstacle.now c.args.region.now c.args.block.now c.args.y column
    c.saturating_sub-begin.result (omega (arith, c.saturating_sub-begin.ensures, c.from-5.ensures, c.from-6.ensures, c.from-7.ensures))
    (omega (arith, c.if-begin.true, h)))

pub returns : goal.returns
returns c column h =
    c.raise.ensures column h
    ∙ ap (λ b. reaches c.args.ends.now column || b)
    (run_met c.args.obstacle.now c.args.region.now c.args.block.now c.args.y column c.saturating_sub-begin.result
    c.saturating_sub-end.result (omega (arith, c.if-from-bottom.false, c.from.ensures, c.bottom.ensures))
    (omega (arith, c.if-from.false, c.from-2.ensures, c.from-3.ensures, c.from-4.ensures))
    (omega (arith, c.saturating_sub-begin.ensures, c.from-5.ensures, c.from-6.ensures, c.from-7.ensures))
    (omega (arith, c.saturating_sub-end.ensures, c.right.ensures, c.from-8.ensures)))
