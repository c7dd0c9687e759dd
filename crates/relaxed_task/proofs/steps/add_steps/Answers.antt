use Rattle.std.proofs.Common.{◌<◌, IfSome, length, get_or, slice_get, sym, ap, subst, ◌∙◌, arith}
use Rattle.lemmas.proofs.ListTests.{get_some}
use Rattle.plan_check.proofs.ReadableLemmas.{fit_action}
use Rattle.grounder.specs.Candidates.{AreCandidateRows}
use Rattle.relaxed_task.proofs.steps.add_steps.Goals as goal

pub add_rows-requires-clause-action : goal.add_rows-requires-clause-action
add_rows-requires-clause-action g c =
    let domain = c.args.scene.now.task.now.domain in
    let number = c.loop-number.number in
    let action = c.action-item.result in
    let inside : number < length domain.actions = omega (arith, ap length c.as_slice-action-items.ensures) in
    let named =
    get_some domain.actions number action inside
    (c.action-item.is ∙ ap (λ xs. get_or xs number action) c.as_slice-action-items.ensures) in
    fit_action domain c.requires.fit.domain number action named

pub add_rows-requires-clause-rows : goal.add_rows-requires-clause-rows
add_rows-requires-clause-rows g c =
    let scene = c.args.scene.now in
    let domain = scene.task.now.domain in
    let number = c.loop-number.number in
    let action = c.action-item.result in
    let known = g.L.Look.known scene.look.now in
    let inside : number < length domain.actions = omega (arith, ap length c.as_slice-action-items.ensures) in
    let kept = c.index-as_slice-number.result in
    let tables = c.as_slice.result.now in
    let placed : number < length tables = omega (arith, inside, ap length c.as_slice.ensures, c.requires.candidates.places) in
    let at = ap (λ xs. slice_get xs number) (sym c.as_slice.ensures) ∙ get_some tables number kept placed c.index-as_slice-number.is in
    let named =
    get_some domain.actions number action inside
    (c.action-item.is ∙ ap (λ xs. get_or xs number action) c.as_slice-action-items.ensures) in
    let rows = subst (λ o. IfSome o (AreCandidateRows domain known action)) c.in-Some.is
    (c.requires.candidates.each number action kept named at) in
    subst (AreCandidateRows domain known action) (sym c.as_slice-in-loop-number.ensures) rows
