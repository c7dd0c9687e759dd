use Rattle.std.proofs.Common.{◌≡◌, ◌+◌, ◌*◌, length, drop}
use Rattle.std.specs.List.{list_any}
use Rattle.task_model.specs.Condition.{parts_of}
use Rattle.formula_eval.specs.Judged.{all_at, any_at, is_item_true}
use Rattle.formula_eval.proofs.WeightLemmas.{weight, weights, items_weight}
use Rattle.formula_memo.proofs.TriesLemmas.{TriedBefore}
use Rattle.formula_memo.specs.Remembered.{StandsFor}
use Rattle.formula_memo.specs.Scenes.{IsSameBut}
use Rattle.formula_memo.proofs.judge.+truth.Given as goal

abbrev pub decreases-all_true : goal.decreases-all_true
decreases-all_true g l = 4 * (l.depth * items_weight l.scene.now.task.now.domain.derived + weights (parts_of l.parts.now)) + 1

abbrev pub decreases-any_true : goal.decreases-any_true
decreases-any_true g l = 4 * (l.depth * items_weight l.scene.now.task.now.domain.derived + weights (parts_of l.parts.now)) + 1

abbrev pub decreases-atom : goal.decreases-atom
decreases-atom g l = 4 * (l.depth * items_weight l.scene.now.task.now.domain.derived) + 3

abbrev pub decreases-derived_atom : goal.decreases-derived_atom
decreases-derived_atom g l = 4 * (l.depth * items_weight l.scene.now.task.now.domain.derived) + 2

abbrev pub decreases-derived : goal.decreases-derived
decreases-derived g l =
    4 * (l.depth * items_weight l.scene.now.task.now.domain.derived + items_weight l.scene.now.task.now.domain.derived)
    + 1

abbrev pub decreases-follows_by : goal.decreases-follows_by
decreases-follows_by g l =
    4 * (l.depth * items_weight l.scene.now.task.now.domain.derived + items_weight l.scene.now.task.now.domain.derived)

abbrev pub decreases-some_tuple : goal.decreases-some_tuple
decreases-some_tuple g l = 4 * (l.depth * items_weight l.scene.now.task.now.domain.derived + (weight l.left.now.body.now + length l.left.now.sorts.now)) + 1

abbrev pub decreases-some_object : goal.decreases-some_object
decreases-some_object g l = 4 * (l.depth * items_weight l.scene.now.task.now.domain.derived + (weight l.left.now.body.now + length l.left.now.sorts.now)) + 3

abbrev pub decreases-passes : goal.decreases-passes
decreases-passes g l = 4 * (l.depth * items_weight l.scene.now.task.now.domain.derived + (weight l.left.now.body.now + length l.left.now.sorts.now)) + 2

abbrev pub decreases-truth : goal.decreases-truth
decreases-truth g l =
    4 * (l.depth * items_weight l.scene.now.task.now.domain.derived + weight l.formula.now)

-- what is left to see decides, and what is remembered is true
abbrev pub invariant-all_true-loop-part : goal.invariant-all_true-loop-part
invariant-all_true-loop-part g l =
    let domain = l.scene.task.now.domain in let known = g.L.Look.known l.scene.look.now in
    let depth = length domain.derived in
    (all_at domain known l.scene.state.now depth (parts_of (drop l.part-index l.parts)) l.initial.env
    ≡ all_at domain known l.scene.state.now depth (parts_of l.parts) l.initial.env)
    × (l.env ≡ l.initial.env) × StandsFor domain known l.scene.state.now l.memo

abbrev pub invariant-any_true-loop-part : goal.invariant-any_true-loop-part
invariant-any_true-loop-part g l =
    let domain = l.scene.task.now.domain in let known = g.L.Look.known l.scene.look.now in
    let depth = length domain.derived in
    (any_at domain known l.scene.state.now depth (parts_of (drop l.part-index l.parts)) l.initial.env
    ≡ any_at domain known l.scene.state.now depth (parts_of l.parts) l.initial.env)
    × (l.env ≡ l.initial.env) × StandsFor domain known l.scene.state.now l.memo

abbrev pub invariant-derived-loop-item : goal.invariant-derived-loop-item
invariant-derived-loop-item g l =
    let domain = l.scene.task.now.domain in let known = g.L.Look.known l.scene.look.now in
    let test = is_item_true domain known l.scene.state.now (length domain.derived) l.pred l.args in
    (list_any test (drop l.item-index domain.derived) ≡ list_any test domain.derived)
    × StandsFor domain known l.scene.state.now l.memo

-- what was tried doesn't pass, only the slot changes, and what is remembered is true
abbrev pub invariant-some_object-loop-place : goal.invariant-some_object-loop-place
invariant-some_object-loop-place g l =
    let domain = l.scene.task.now.domain in let known = g.L.Look.known l.scene.look.now in
    TriedBefore domain known l.scene.state.now (length domain.derived) l.sort l.left.first l.left.sorts.now l.left.body.now l.initial.env l.lead l.place
    × IsSameBut l.left.first l.initial.env l.env
    × StandsFor domain known l.scene.state.now l.memo
