use Rattle.std.proofs.Common.{◌≡◌, drop}
use Rattle.std.specs.List.{list_any}
use Rattle.task_model.specs.State.{items}
use Rattle.plan_deorder.specs.Clashes.{is_read}
use Rattle.plan_deorder.proofs.conflict.reads_some.Given as goal

-- what is left to see decides
abbrev pub invariant-loop-atom : goal.invariant-loop-atom
invariant-loop-atom l =
    list_any (is_read l.touched) (drop l.atom-index (items l.atoms)) ≡ list_any (is_read l.touched) (items l.atoms)
