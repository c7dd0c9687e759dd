use Rattle.std.proofs.Common.{◌≡◌, ◌≤◌, drop, length, refl, sym, ap, subst, ◌∙◌, arith, if◌then◌else◌}
use Rattle.std.proofs.lemmas.List.{at_drop_all}
use Rattle.lemmas.proofs.ListTests.{get_some}
use Rattle.optimal_search.specs.Bounds.{least_own}
use Rattle.optimal_search.specs.FewestLemmas.{least_low}
use Rattle.plan_check.proofs.ReadableLemmas.{fit_action, readable_action}
use Rattle.std.proofs.Common.{Some, slice_get}
use Rattle.optimal_search.proofs.fewest.least_cost.Goals as goal

pub loop-action-init : goal.loop-action-init
loop-action-init c =
    let actions = c.args.task.now.domain.actions in
    let whole : least_own (drop 0 actions) ≡ least_own actions = refl in
    (omega (arith, least_low actions, whole), omega arith)

pub own_cost-requires : goal.own_cost-requires
own_cost-requires c =
    let domain = c.args.task.now.domain in
    let listed = c.as_slice-action-items.result.now in
    let action = c.action-item.result in
    let at = subst (λ xs. slice_get xs c.loop-action.action-index ≡ Some action) c.as_slice-action-items.ensures
    (get_some listed c.loop-action.action-index action c.loop-action-test.true c.action-item.is) in
    let few =
    (readable_action domain c.requires.domain action (fit_action domain c.requires.domain c.loop-action.action-index action at)).few in
    subst (λ ts. length ts ≤ 262144) (sym c.as_slice.ensures) few

pub returns : goal.returns
returns c =
    let actions = c.args.task.now.domain.actions in
    let index = c.loop-action.action-index in
    let past : length actions ≤ index = omega (arith, ap length c.as_slice-action-items.ensures) in
    let end = at_drop_all least_own actions index past in
    let is : c.loop-action.least ≡ least_own actions = omega (arith, c.loop-action.invariant.0, c.loop-action.invariant.1, end) in
    is ∙ sym (ap (λ b. if b then least_own actions else 1) c.if-not-task.false)
