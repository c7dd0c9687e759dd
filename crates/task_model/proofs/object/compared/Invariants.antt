use Rattle.std.proofs.Common.{◌≡◌, drop, nat_cmp}
use Rattle.std.specs.Cmp.Lexicographic.{slice_cmp}
use Rattle.task_model.proofs.object.compared.Given as goal

-- what is left decides
abbrev pub invariant-loop-index : goal.invariant-loop-index
invariant-loop-index l =
    slice_cmp nat_cmp (drop l.index l.ours) (drop l.index l.others) ≡ slice_cmp nat_cmp l.ours l.others
