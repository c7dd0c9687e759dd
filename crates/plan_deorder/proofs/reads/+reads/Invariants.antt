use Rattle.std.proofs.Common.{◌≡◌, ◌+◌, ◌*◌, ◌++◌, drop}
use Rattle.formula_eval.proofs.WeightLemmas.{weight, weights}
use Rattle.task_model.specs.Condition.{parts_of}
use Rattle.plan_deorder.specs.Touches.{all_reads_in}
use Rattle.plan_deorder.proofs.reads.+reads.Given as goal

abbrev pub decreases-put_reads : goal.decreases-put_reads
decreases-put_reads l = 2 * weight l.condition.now

abbrev pub decreases-put_all_reads : goal.decreases-put_all_reads
decreases-put_all_reads l = 2 * weights (parts_of l.parts.now) + 1

-- with what is left to come there are all
abbrev pub invariant-put_all_reads-loop-part : goal.invariant-put_all_reads-loop-part
invariant-put_all_reads-loop-part l =
    l.atoms.items ++ all_reads_in l.domain l.env (parts_of (drop l.part-index l.parts))
    ≡ l.initial.atoms.items ++ all_reads_in l.domain l.env (parts_of l.parts)
