use Rattle.std.proofs.Common.{◌≡◌, ◌+◌, ◌*◌, ℕ, length, drop, slice_set}
use Rattle.std.specs.List.{list_any}
use Rattle.task_model.specs.Condition.{parts_of}
use Rattle.task_model.specs.Known.{objects_of}
use Rattle.formula_eval.specs.Judged.{all_at, any_at, some_at, is_item_true}
use Rattle.formula_eval.proofs.WeightLemmas.{weight, weights, items_weight}
use Rattle.formula_eval.proofs.truth.+truth.Given as goal

abbrev pub decreases-all_true : goal.decreases-all_true
decreases-all_true g l = 2 * (l.depth * items_weight l.scene.now.task.now.domain.derived + weights (parts_of l.parts.now)) + 1

abbrev pub decreases-any_true : goal.decreases-any_true
decreases-any_true g l = 2 * (l.depth * items_weight l.scene.now.task.now.domain.derived + weights (parts_of l.parts.now)) + 1

abbrev pub decreases-atom : goal.decreases-atom
decreases-atom g l = 2 * (l.depth * items_weight l.scene.now.task.now.domain.derived) + 1

abbrev pub decreases-derived : goal.decreases-derived
decreases-derived g l = 2 * (l.depth * items_weight l.scene.now.task.now.domain.derived + items_weight l.scene.now.task.now.domain.derived)

abbrev pub decreases-some_tuple : goal.decreases-some_tuple
decreases-some_tuple g l = 2 * (l.depth * items_weight l.scene.now.task.now.domain.derived + (weight l.body.now + length l.sorts.now)) + 1

abbrev pub decreases-truth : goal.decreases-truth
decreases-truth g l =
    2 * (l.depth * items_weight l.scene.now.task.now.domain.derived + weight l.formula.now)

-- what is left to see decides
abbrev pub invariant-all_true-loop-part : goal.invariant-all_true-loop-part
invariant-all_true-loop-part g l =
    (all_at l.scene.task.now.domain (g.L.Look.known l.scene.look.now) l.scene.state.now l.depth
    (parts_of (drop l.part-index l.parts)) l.initial.env
    ≡ all_at l.scene.task.now.domain (g.L.Look.known l.scene.look.now) l.scene.state.now l.depth (parts_of l.parts) l.initial.env)
    × (l.env ≡ l.initial.env)

abbrev pub invariant-any_true-loop-part : goal.invariant-any_true-loop-part
invariant-any_true-loop-part g l =
    (any_at l.scene.task.now.domain (g.L.Look.known l.scene.look.now) l.scene.state.now l.depth
    (parts_of (drop l.part-index l.parts)) l.initial.env
    ≡ any_at l.scene.task.now.domain (g.L.Look.known l.scene.look.now) l.scene.state.now l.depth (parts_of l.parts) l.initial.env)
    × (l.env ≡ l.initial.env)

abbrev pub invariant-derived-loop-item : goal.invariant-derived-loop-item
invariant-derived-loop-item g l =
    list_any (is_item_true l.scene.task.now.domain (g.L.Look.known l.scene.look.now) l.scene.state.now l.depth l.pred l.args)
    (drop l.item-index l.scene.task.now.domain.derived)
    ≡ list_any (is_item_true l.scene.task.now.domain (g.L.Look.known l.scene.look.now) l.scene.state.now l.depth l.pred l.args)
    l.scene.task.now.domain.derived

-- what is left to see decides, and only the slot changes
abbrev pub invariant-some_tuple-loop-place : goal.invariant-some_tuple-loop-place
invariant-some_tuple-loop-place g l =
    (list_any (λ o. some_at l.scene.task.now.domain (g.L.Look.known l.scene.look.now) l.scene.state.now l.depth
    (l.first + 1) l.rest l.body (slice_set l.initial.env l.first o))
    (drop l.place (objects_of (g.L.Look.known l.scene.look.now).facts l.sort))
    ≡ list_any (λ o. some_at l.scene.task.now.domain (g.L.Look.known l.scene.look.now) l.scene.state.now l.depth
    (l.first + 1) l.rest l.body (slice_set l.initial.env l.first o)) (objects_of (g.L.Look.known l.scene.look.now).facts l.sort))
    × ((o : ℕ) → slice_set l.env l.first o ≡ slice_set l.initial.env l.first o)
