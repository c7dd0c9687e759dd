use Rattle.std.proofs.Common.{◌≡◌, ◌<◌, IfSome, ap, arith, get_or, length, subst, sym, slice_get, true, ◌∙◌}
use Rattle.std.proofs.lemmas.Option.{slice_get_within}
use Rattle.std.specs.List.{list_all}
use Rattle.grounder.specs.Candidates.{AreCandidateRows}
use Rattle.lemmas.proofs.ListTests.{get_some}
use Rattle.plan_check.proofs.ReadableLemmas.{fit_action}
use Rattle.task_model.specs.State.{contains}
use Rattle.best_first.specs.Reach.{IsWithin, LeadsWithin}
use Rattle.best_first.proofs.ReachLemmas.{all_within, closed_by, next_too}
use Rattle.best_first.proofs.reach.are_closed.Goals as goal

pub all_stay_within-requires-clause-action : goal.all_stay_within-requires-clause-action
all_stay_within-requires-clause-action g c =
    let domain = c.args.bounds.now.task.now.domain in
    let number = c.loop-number.number in
    let action = c.action-item.result in
    let inside : number < length domain.actions = omega (arith, ap length c.as_slice-action-items.ensures) in
    let named =
    get_some domain.actions number action inside
    (c.action-item.is ∙ ap (λ xs. get_or xs number action) c.as_slice-action-items.ensures) in
    fit_action domain c.requires.domain number action named

pub all_stay_within-requires-clause-rows : goal.all_stay_within-requires-clause-rows
all_stay_within-requires-clause-rows g c =
    let bounds = c.args.bounds.now in
    let domain = bounds.task.now.domain in
    let number = c.loop-number.number in
    let action = c.action-item.result in
    let known = g.L.Look.known bounds.look.now in
    let inside : number < length domain.actions = omega (arith, ap length c.as_slice-action-items.ensures) in
    let kept = c.index-as_slice-number.result in
    let tables = c.as_slice-in-loop-number.result.now in
    let placed : number < length tables =
    omega (arith, inside, ap length c.as_slice-in-loop-number.ensures, c.in_ok-candidates.ensures.places) in
    let at =
    ap (λ xs. slice_get xs number) (sym c.as_slice-in-loop-number.ensures)
    ∙ get_some tables number kept placed c.index-as_slice-number.is in
    let named =
    get_some domain.actions number action inside
    (c.action-item.is ∙ ap (λ xs. get_or xs number action) c.as_slice-action-items.ensures) in
    let rows = subst (λ o. IfSome o (AreCandidateRows domain known action)) c.in-Some.is
    (c.in_ok-candidates.ensures.each number action kept named at) in
    subst (AreCandidateRows domain known action) (sym c.as_slice-in-loop-number-2.ensures) rows

pub loop-number-preserved : goal.loop-number-preserved
loop-number-preserved g c =
    let bounds = c.args.bounds.now in
    let actions = bounds.task.now.domain.actions in
    let number = c.loop-number.number in
    let action = c.action-item.result in
    let leads = LeadsWithin bounds.task.now (g.L.Look.known bounds.look.now) bounds.atoms.now in
    let inside : number < length actions = omega (arith, ap length c.as_slice-action-items.ensures) in
    let named =
    get_some actions number action inside
    (c.action-item.is ∙ ap (λ xs. get_or xs number action) c.as_slice-action-items.ensures) in
    next_too leads actions number action named (c.in_ok-all_stay_within.ensures c.if-not-branch.false)
    (λ n other below at. c.loop-number.invariant n other below at)

pub returns : goal.returns
returns g c =
    let bounds = c.args.bounds.now in
    let atoms = bounds.atoms.now in
    let all = sym c.has_all.ensures ∙ c.if-not-has_all.false in
    let start =
    subst (λ s. IsWithin s atoms) c.in_ok-state.ensures
    (all_within c.in_ok-state.state atoms (subst (λ xs. list_all (λ a. contains atoms a) xs ≡ true) c.as_slice.ensures all)) in
    λ _. closed_by bounds.task.now (g.L.Look.known bounds.look.now) atoms start
    (λ n action at. c.loop-number.invariant n action (omega (
      arith,
      c.loop-number-test.false,
      ap length c.as_slice-action-items.ensures,
      slice_get_within bounds.task.now.domain.actions n action at,
    )) at)
