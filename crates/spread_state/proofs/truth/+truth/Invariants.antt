use Rattle.std.proofs.Common.{◌≡◌, ◌+◌, ◌*◌, drop, length}
use Rattle.formula_eval.proofs.WeightLemmas.{weight, weights}
use Rattle.formula_eval.specs.Judged.{all_at, any_at}
use Rattle.task_model.specs.Condition.{parts_of}
use Rattle.spread_state.proofs.truth.+truth.Given as goal

abbrev pub decreases-all_true : goal.decreases-all_true
decreases-all_true g l = 2 * weights (parts_of l.parts.now) + 1

abbrev pub decreases-any_true : goal.decreases-any_true
decreases-any_true g l = 2 * weights (parts_of l.parts.now) + 1

abbrev pub decreases-truth : goal.decreases-truth
decreases-truth g l = 2 * weight l.formula.now

-- what is left to see decides
abbrev pub invariant-all_true-loop-part : goal.invariant-all_true-loop-part
invariant-all_true-loop-part g l =
    (all_at l.scene.task.now.domain (g.L.Look.known l.scene.look.now) l.scene.state.now
    (length l.scene.task.now.domain.derived)
    (parts_of (drop l.part-index l.parts)) l.initial.env
    ≡ all_at l.scene.task.now.domain (g.L.Look.known l.scene.look.now) l.scene.state.now
    (length l.scene.task.now.domain.derived)
    (parts_of l.parts) l.initial.env)
    × (l.env ≡ l.initial.env)

abbrev pub invariant-any_true-loop-part : goal.invariant-any_true-loop-part
invariant-any_true-loop-part g l =
    (any_at l.scene.task.now.domain (g.L.Look.known l.scene.look.now) l.scene.state.now
    (length l.scene.task.now.domain.derived)
    (parts_of (drop l.part-index l.parts)) l.initial.env
    ≡ any_at l.scene.task.now.domain (g.L.Look.known l.scene.look.now) l.scene.state.now
    (length l.scene.task.now.domain.derived)
    (parts_of l.parts) l.initial.env)
    × (l.env ≡ l.initial.env)
