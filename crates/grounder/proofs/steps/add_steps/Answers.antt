use Rattle.std.proofs.Common.{◌++◌, map, ap, ◌∙◌}
use Rattle.std.proofs.lemmas.List.{take_all}
use Rattle.plan_check.proofs.ReadableLemmas.{fit_action}
use Rattle.grounder.proofs.ListingLemmas.{steps_of_action, step_with}
use Rattle.grounder.proofs.steps.add_steps.Goals as goal

pub arguments-requires-clause-action : goal.arguments-requires-clause-action
arguments-requires-clause-action g c =
    fit_action c.args.scene.now.task.now.domain c.requires.fit.domain c.args.scene.now.number c.args.scene.now.action.now c.requires.named

pub returns : goal.returns
returns g c =
    let scene = c.args.scene.now in
    let known = g.L.Look.known scene.look.now in
    let rows = c.in_ok-rows.rows.items in
    let items = c.as_slice-args-items.result.now in
    let whole = take_all c.loop-args.args-index items c.loop-args-test.false ∙ c.as_slice-args-items.ensures.value in (
      map (step_with scene.number) rows,
      c.loop-args.invariant ∙ ap (λ xs. c.args.steps.now.items ++ map (step_with scene.number) xs) whole,
      steps_of_action scene.task.now known scene.state.now scene.number scene.action.now c.requires.named rows c.in_ok-rows.ensures,
    )
