use Rattle.std.proofs.Common.{◌≡◌, ◌∙◌, length, true, sym, ap, arith, option_copied}
use Rattle.plan_check.proofs.ReadableLemmas.{fit_action, readable_action}
use Rattle.plan_check.specs.Faults.{Names}
use Rattle.task_model.proofs.TruthLemmas.{have_types-length}
use Rattle.task_model.specs.Truth.{have_types}
use Rattle.spread_state.proofs.advance.judged.Goals as goal

pub new-requires : goal.new-requires
new-requires g c =
    let task = c.args.task.now in
    let named : Names task c.args.step.now c.in-Some.action.now = sym c.action_of.ensures
    ∙ ap option_copied c.in-Some.is in
    let action =
    readable_action task.domain c.requires.domain c.in-Some.action.now
    (fit_action task.domain c.requires.domain c.args.step.now.action c.in-Some.action.now named) in
    let typed : have_types (g.L.Look.known c.args.look.now) c.as_slice-args.result.now c.as_slice.result.now ≡ true =
    sym c.have_types.ensures ∙ c.if-not-have_types.false in
    let long = have_types-length (g.L.Look.known c.args.look.now) c.as_slice-args.result.now c.as_slice.result.now
    typed in
    let params : length c.as_slice.result.now ≡ length c.in-Some.action.now.params = ap length c.as_slice.ensures in
    omega (arith, action.params)

pub truth-requires-clause-readable : goal.truth-requires-clause-readable
truth-requires-clause-readable g c =
    let task = c.args.task.now in
    let named : Names task c.args.step.now c.in-Some.action.now = sym c.action_of.ensures
    ∙ ap option_copied c.in-Some.is in
    (readable_action task.domain c.requires.domain c.in-Some.action.now
    (fit_action task.domain c.requires.domain c.args.step.now.action c.in-Some.action.now named)).condition

pub cost-requires-clause-action : goal.cost-requires-clause-action
cost-requires-clause-action g c =
    let named : Names c.args.task.now c.args.step.now c.in-Some.action.now = sym c.action_of.ensures
    ∙ ap option_copied c.in-Some.is in
    fit_action c.args.task.now.domain c.requires.domain c.args.step.now.action c.in-Some.action.now named

pub returns-in-Some-step_cost-clause-fit : goal.returns-in-Some-step_cost-clause-fit
returns-in-Some-step_cost-clause-fit g c =
    let named : Names c.args.task.now c.args.step.now c.in-Some.action.now = sym c.action_of.ensures
    ∙ ap option_copied c.in-Some.is in
    fit_action c.args.task.now.domain c.requires.domain c.args.step.now.action c.in-Some.action.now named
