use Rattle.std.proofs.Common.{◌≡◌, take}
use Rattle.plan_deorder.specs.Occurring.{below_in}
use Rattle.plan_deorder.proofs.predicates.below.Given as goal

-- the predicates of the items that were passed
abbrev pub invariant-loop-item : goal.invariant-loop-item
invariant-loop-item l = l.preds.items ≡ below_in (take l.item-index l.items) l.pred
