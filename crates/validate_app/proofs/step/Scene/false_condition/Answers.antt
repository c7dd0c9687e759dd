use Rattle.std.proofs.Common.{◌≡◌, ◌∙◌, None, Some, ap, arith, length, slice_get, sym}
use Rattle.std.proofs.lemmas.Option.{none-some}
use Rattle.plan_check.proofs.ReadableLemmas.{fit_action, readable_action}
use Rattle.task_model.proofs.TruthLemmas.{have_types-length}
use Rattle.validate_app.proofs.StepsLemmas.{condition_fails}
use Rattle.validate_app.specs.Parts.{false_text}
use Rattle.validate_app.specs.declared.verdict.StepFlaw.TheVariants as flaw
use Rattle.validate_app.proofs.step.Scene.false_condition.Goals as goal

pub returns-in_default : goal.returns-in_default
returns-in_default g c =
    let fails = c.requires.fails in
    let none : slice_get c.args.self.now.task.now.domain.actions c.args.step.now.action ≡ None =
    sym c.in_default.ensures in
    absurd (none-some fails.0 (sym none ∙ fails.1))

pub false_text-requires-clause-readable : goal.false_text-requires-clause-readable
false_text-requires-clause-readable g c =
    let domain = c.args.self.now.task.now.domain in
    (readable_action domain c.requires.fit.domain c.in-Some.action.now
    (fit_action domain c.requires.fit.domain c.args.step.now.action c.in-Some.action.now
    (sym c.in-Some.ensures))).condition

pub false_text-requires-clause-few : goal.false_text-requires-clause-few
false_text-requires-clause-few g c =
    let domain = c.args.self.now.task.now.domain in
    let fails = c.requires.fails in
    let action = readable_action domain c.requires.fit.domain fails.0
    (fit_action domain c.requires.fit.domain c.args.step.now.action fails.0 fails.1) in
    let long = have_types-length c.args.self.now.facts.now.known c.args.step.now.args fails.0.params fails.2 in
    let same : length c.as_slice.result.now ≡ length c.args.step.now.args = ap length c.as_slice.ensures in
    omega (arith, action.params, long, same)

pub returns : goal.returns
returns g c =
    let task = c.args.self.now.task.now in
    let known = c.args.self.now.facts.now.known in
    let a = c.requires.counted in
    let action = c.in-Some.action.now in
    condition_fails task known (g.B.Board.atoms c.args.board.now) c.args.call.now a.0 a.1 a.2 c.args.step.now
    c.requires.named c.requires.fails action
    (sym c.in-Some.ensures)
    ∙ ap (λ t. Some (flaw.Condition t))
    (ap (λ s. false_text task known s action.condition c.args.step.now.args) (sym c.in_ok-state.ensures)
    ∙ ap (false_text task known c.in_ok-state.state action.condition) (sym c.as_slice.ensures)
    ∙ sym c.in_ok-part.ensures)
