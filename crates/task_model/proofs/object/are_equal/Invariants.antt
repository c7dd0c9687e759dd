use Rattle.std.proofs.Common.{◌≡◌, drop, nat_eq}
use Rattle.std.specs.Cmp.Lexicographic.{pointwise}
use Rattle.task_model.proofs.object.are_equal.Given as goal

-- what is left decides
abbrev pub invariant-loop-index : goal.invariant-loop-index
invariant-loop-index l =
    pointwise nat_eq (drop l.index l.ours) (drop l.index l.others) ≡ pointwise nat_eq l.ours l.others
