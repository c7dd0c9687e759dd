use Rattle.std.proofs.Common.{◌≡◌, ℕ, ◌≤◌, List, true, length, get_or, Some, slice_get, ap, sym, ◌∙◌, subst, arith}
use Rattle.std.proofs.lemmas.Option.{get_or_from_slice_get}
use Rattle.task_model.proofs.TruthLemmas.{have_types-length}
use Rattle.plan_check.proofs.ReadableLemmas.{IsReadableAction, fit_action, readable_action}
use Rattle.task_model.specs.Fit.{IsFitDomain, is_fit_action}
use Rattle.task_model.specs.Known.{Known}
use Rattle.task_model.specs.State.{Atoms}
use Rattle.task_model.specs.Steps.{IsStep, cost_of, effect_of}
use Rattle.task_model.specs.declared.domain.Action.{Action}
use Rattle.task_model.specs.declared.task.GroundAction.{GroundAction}
use Rattle.task_model.specs.declared.task.Task.{Task}
use Rattle.best_first.proofs.expand.take_step.Goals as goal

-- the action at the step's place is the step's
named_is : (actions listed : List Action) (place : ℕ) (found action : Action) → listed ≡ actions
    → found ≡ get_or listed place found → slice_get actions place ≡ Some action → found ≡ action
named_is actions listed place found action same is named =
    is ∙ ap (λ xs. get_or xs place found) same
    ∙ get_or_from_slice_get actions place action found named

readable_step : (task : Task) (known : Known) (before after : Atoms) (step : GroundAction) (cost : ℕ)
    → (fit : IsFitDomain task.domain) → (is : IsStep task known before step after cost)
    → IsReadableAction task.domain fit is.action
readable_step task known before after step cost fit is =
    readable_action task.domain fit is.action (fit_action task.domain fit step.action is.action is.named)

few_args : (task : Task) (known : Known) (before after : Atoms) (step : GroundAction) (cost : ℕ)
    → IsFitDomain task.domain → IsStep task known before step after cost → length step.args ≤ 16
few_args task known before after step cost fit is =
    omega (
      arith,
      have_types-length known step.args is.action.params is.typed,
      (readable_step task known before after step cost fit is).params,
    )

pub cost-requires-clause-action : goal.cost-requires-clause-action
cost-requires-clause-action g c =
    let domain = c.args.task.now.domain in
    let step = c.args.step.now in
    let is = c.requires.can.2 in
    let found =
    named_is domain.actions c.as_slice.result.now step.action c.index-as_slice-step.result is.action c.as_slice.ensures
    c.index-as_slice-step.is is.named in
    subst (λ a. is_fit_action domain a ≡ true) (sym found) (fit_action domain c.requires.fit.domain step.action is.action is.named)

pub cost-requires-clause-few : goal.cost-requires-clause-few
cost-requires-clause-few g c =
    let known = g.L.Look.known c.args.look.now in
    subst (λ xs. length xs ≤ 16) (sym c.as_slice-args.ensures)
    (few_args c.args.task.now known c.args.state.now c.requires.can.0 c.args.step.now c.requires.can.1 c.requires.fit.domain
    c.requires.can.2)

pub unreachable-requires : goal.unreachable-requires
unreachable-requires g c =
    let task = c.args.task.now in
    let known = g.L.Look.known c.args.look.now in
    let step = c.args.step.now in
    let is = c.requires.can.2 in
    let found =
    named_is task.domain.actions c.as_slice.result.now step.action c.index-as_slice-step.result is.action c.as_slice.ensures
    c.index-as_slice-step.is is.named in
    c.in_default.not-Some c.requires.can.1
    (c.cost.ensures.value ∙ (λ i. cost_of task known (found i) (c.as_slice-args.ensures i)) ∙ is.costs)

pub changes_of-requires-clause-few : goal.changes_of-requires-clause-few
changes_of-requires-clause-few g c =
    let known = g.L.Look.known c.args.look.now in
    subst (λ xs. length xs ≤ 16) (sym c.as_slice-args.ensures)
    (few_args c.args.task.now known c.args.state.now c.requires.can.0 c.args.step.now c.requires.can.1 c.requires.fit.domain
    c.requires.can.2)

readable : (task : Task) (known : Known) (before after : Atoms) (step : GroundAction) (cost : ℕ) (listed : List Action) (found : Action)
    → (fit : IsFitDomain task.domain) → IsStep task known before step after cost
    → listed ≡ task.domain.actions → found ≡ get_or listed step.action found
    → IsReadableAction task.domain fit found
readable task known before after step cost listed found fit is same at =
    subst (IsReadableAction task.domain fit) (sym (named_is task.domain.actions listed step.action found is.action same at is.named))
    (readable_step task known before after step cost fit is)

pub changes_of-requires-clause-adds : goal.changes_of-requires-clause-adds
changes_of-requires-clause-adds g c =
    let known = g.L.Look.known c.args.look.now in
    (readable c.args.task.now known c.args.state.now c.requires.can.0 c.args.step.now c.requires.can.1 c.as_slice.result.now
    c.index-as_slice-step.result c.requires.fit.domain c.requires.can.2 c.as_slice.ensures c.index-as_slice-step.is).adds

pub changes_of-requires-clause-deletes : goal.changes_of-requires-clause-deletes
changes_of-requires-clause-deletes g c =
    let known = g.L.Look.known c.args.look.now in
    (readable c.args.task.now known c.args.state.now c.requires.can.0 c.args.step.now c.requires.can.1 c.as_slice.result.now
    c.index-as_slice-step.result c.requires.fit.domain c.requires.can.2 c.as_slice.ensures c.index-as_slice-step.is).deletes

pub returns-clause-step : goal.returns-clause-step
returns-clause-step g c =
    let task = c.args.task.now in
    let known = g.L.Look.known c.args.look.now in
    let step = c.args.step.now in
    let is = c.requires.can.2 in
    let found =
    named_is task.domain.actions c.as_slice.result.now step.action c.index-as_slice-step.result is.action c.as_slice.ensures
    c.index-as_slice-step.is is.named in
    record {
      action = is.action;
      named = is.named;
      typed = is.typed;
      condition = is.condition;
      costs =
          sym (λ i. cost_of task known (found i) (c.as_slice-args.ensures i))
          ∙ sym c.cost.ensures.value ∙ c.in-Some.is;
      leads =
          c.in_ok-changes.ensures.effect c.args.state.now
          ∙ (λ i. effect_of (found i) (c.as_slice-args.ensures i) c.args.state.now);
    }
