use Rattle.std.proofs.Common.{◌≡◌, take}
use Rattle.plan_deorder.specs.Occurring.{fluents_of}
use Rattle.plan_deorder.proofs.reads.fluents.Given as goal

-- the fluents among the predicates that were passed
abbrev pub invariant-loop-pred : goal.invariant-loop-pred
invariant-loop-pred l = l.fluents.items ≡ fluents_of l.domain (take l.pred-index l.preds)
