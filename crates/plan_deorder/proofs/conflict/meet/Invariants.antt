use Rattle.std.proofs.Common.{◌≡◌, drop}
use Rattle.std.specs.List.{list_any}
use Rattle.task_model.specs.State.{contains, items}
use Rattle.plan_deorder.proofs.conflict.meet.Given as goal

-- what is left to see decides
abbrev pub invariant-loop-atom : goal.invariant-loop-atom
invariant-loop-atom l =
    list_any (contains l.second) (drop l.atom-index (items l.first)) ≡ list_any (contains l.second) (items l.first)
