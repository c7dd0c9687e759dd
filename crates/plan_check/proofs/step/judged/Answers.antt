use Rattle.std.proofs.Common.{◌≡◌, ◌∙◌, refl, length, true, false, None, sym, ap, arith, option_copied}
use Rattle.task_model.proofs.TruthLemmas.{have_types-length}
use Rattle.task_model.specs.Steps.{cost_of}
use Rattle.task_model.specs.Truth.{slots_of, have_types, is_true}
use Rattle.plan_check.proofs.ReadableLemmas.{fit_action, readable_action}
use Rattle.plan_check.specs.Faults.{Names}
use Rattle.plan_check.proofs.step.judged.Goals as goal

pub new-requires : goal.new-requires
new-requires g c =
    let task = c.args.task.now in
    let named : Names task c.args.step.now c.in-Some.action.now = sym c.action_of.ensures ∙ ap option_copied c.in-Some.is in
    let action =
    readable_action task.domain c.requires.domain c.in-Some.action.now
    (fit_action task.domain c.requires.domain c.args.step.now.action c.in-Some.action.now named) in
    let typed : have_types (g.L.Look.known c.args.look.now) c.as_slice-args.result.now c.as_slice.result.now ≡ true =
    sym c.have_types.ensures ∙ c.if-not-have_types.false in
    let long = have_types-length (g.L.Look.known c.args.look.now) c.as_slice-args.result.now c.as_slice.result.now typed in
    let params : length c.as_slice.result.now ≡ length c.in-Some.action.now.params = ap length c.as_slice.ensures in
    omega (arith, action.params)

pub holds_once-requires-clause-readable : goal.holds_once-requires-clause-readable
holds_once-requires-clause-readable g c =
    let task = c.args.task.now in
    let named : Names task c.args.step.now c.in-Some.action.now = sym c.action_of.ensures ∙ ap option_copied c.in-Some.is in
    (readable_action task.domain c.requires.domain c.in-Some.action.now
    (fit_action task.domain c.requires.domain c.args.step.now.action c.in-Some.action.now named)).condition

pub returns-then-not-holds_once-clause-err : goal.returns-then-not-holds_once-clause-err
returns-then-not-holds_once-clause-err g c =
    let task = c.args.task.now in
    let known = g.L.Look.known c.args.look.now in
    let named : Names task c.args.step.now c.in-Some.action.now = sym c.action_of.ensures ∙ ap option_copied c.in-Some.is in
    let typed : have_types known c.args.step.now.args c.in-Some.action.now.params ≡ true =
    (λ i. have_types known (sym c.as_slice-args.ensures i) (sym c.as_slice.ensures i)) ∙ sym c.have_types.ensures
    ∙ c.if-not-have_types.false in
    let slots : c.new.result ≡ slots_of c.args.step.now.args = c.new.ensures ∙ ap slots_of c.as_slice-args.ensures in
    let unmet : is_true task.domain known c.args.state.now c.in-Some.action.now.condition (slots_of c.args.step.now.args) ≡ false =
    ap (is_true task.domain known c.args.state.now c.in-Some.action.now.condition) (sym slots) ∙ sym c.holds_once.ensures.value
    ∙ c.if-not-holds_once.true in
    (c.in-Some.action.now, named, typed, unmet)

pub cost-requires-clause-action : goal.cost-requires-clause-action
cost-requires-clause-action g c =
    let named : Names c.args.task.now c.args.step.now c.in-Some.action.now = sym c.action_of.ensures ∙ ap option_copied c.in-Some.is in
    fit_action c.args.task.now.domain c.requires.domain c.args.step.now.action c.in-Some.action.now named

pub returns-in-None-clause-err : goal.returns-in-None-clause-err
returns-in-None-clause-err g c =
    let task = c.args.task.now in
    let known = g.L.Look.known c.args.look.now in
    let named : Names task c.args.step.now c.in-Some.action.now = sym c.action_of.ensures ∙ ap option_copied c.in-Some.is in
    let typed : have_types known c.args.step.now.args c.in-Some.action.now.params ≡ true =
    (λ i. have_types known (sym c.as_slice-args.ensures i) (sym c.as_slice.ensures i)) ∙ sym c.have_types.ensures
    ∙ c.if-not-have_types.false in
    let slots : c.new.result ≡ slots_of c.args.step.now.args = c.new.ensures ∙ ap slots_of c.as_slice-args.ensures in
    let met : is_true task.domain known c.args.state.now c.in-Some.action.now.condition (slots_of c.args.step.now.args) ≡ true =
    ap (is_true task.domain known c.args.state.now c.in-Some.action.now.condition) (sym slots) ∙ sym c.holds_once.ensures.value
    ∙ c.if-not-holds_once.false in
    let none : cost_of task known c.in-Some.action.now c.args.step.now.args ≡ None =
    ap (cost_of task known c.in-Some.action.now) (sym c.as_slice-args.ensures) ∙ sym c.cost.ensures.value ∙ c.in-None.is in
    (c.in-Some.action.now, named, typed, met, none)

pub returns-in-Some-cost-clause-fit : goal.returns-in-Some-cost-clause-fit
returns-in-Some-cost-clause-fit g c =
    let named : Names c.args.task.now c.args.step.now c.in-Some.action.now = sym c.action_of.ensures ∙ ap option_copied c.in-Some.is in
    fit_action c.args.task.now.domain c.requires.domain c.args.step.now.action c.in-Some.action.now named

pub returns-in-Some-cost-clause-ok : goal.returns-in-Some-cost-clause-ok
returns-in-Some-cost-clause-ok g c =
    let task = c.args.task.now in
    let known = g.L.Look.known c.args.look.now in
    let action = c.in-Some.action.now in
    let named : Names task c.args.step.now action = sym c.action_of.ensures ∙ ap option_copied c.in-Some.is in
    let slots : c.new.result ≡ slots_of c.args.step.now.args = c.new.ensures ∙ ap slots_of c.as_slice-args.ensures in
    record {
      action = action;
      named = named;
      typed =
          (λ i. have_types known (sym c.as_slice-args.ensures i) (sym c.as_slice.ensures i))
          ∙ sym c.have_types.ensures ∙ c.if-not-have_types.false;
      condition =
          ap (is_true task.domain known c.args.state.now action.condition) (sym slots)
          ∙ sym c.holds_once.ensures.value ∙ c.if-not-holds_once.false;
      costs =
          ap (cost_of task known action) (sym c.as_slice-args.ensures) ∙ sym c.cost.ensures.value
          ∙ c.in-Some-cost.is;
      leads = refl;
    }
