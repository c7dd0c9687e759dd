use Rattle.std.proofs.Common.{◌<◌, [], ◌∷◌, IfSome, inl, inr, length, length-append, slice_get, get_or, ap, sym, ◌∙◌, subst, arith}
use Rattle.std.proofs.lemmas.Option.{same_Some}
use Rattle.lemmas.proofs.ListTests.{get_some}
use Rattle.lemmas.proofs.Members.{push_cases}
use Rattle.plan_check.proofs.ReadableLemmas.{fit_action}
use Rattle.grounder.specs.Candidates.{AreCandidateRows}
use Rattle.grounder.proofs.candidates.Candidates.new.Goals as goal

pub rows_of-requires-clause-action : goal.rows_of-requires-clause-action
rows_of-requires-clause-action g c =
    let domain = c.args.task.now.domain in
    let number = c.loop-action.action-index in
    let action = c.action-item.result in
    let inside : number < length domain.actions = omega (arith, c.loop-action-test.true, ap length c.as_slice-action-items.ensures) in
    let named =
    get_some domain.actions number action inside
    (c.action-item.is ∙ ap (λ xs. get_or xs number action) c.as_slice-action-items.ensures) in
    fit_action domain c.requires.domain number action named

pub loop-action-preserved : goal.loop-action-preserved
loop-action-preserved g c =
    let domain = c.args.task.now.domain in
    let known = g.L.Look.known c.args.look.now in
    let old = c.loop-action.actions.items in
    let index = c.loop-action.action-index in
    let here = c.action-item.result in
    let added = c.in_ok-rows.rows in
    let inside : index < length domain.actions = omega (arith, c.loop-action-test.true, ap length c.as_slice-action-items.ensures) in
    let named_here =
    get_some domain.actions index here inside (c.action-item.is ∙ ap (λ xs. get_or xs index here) c.as_slice-action-items.ensures) in (
      omega (arith, ap length c.in_ok-push.ensures.items, length-append old (added ∷ []), c.loop-action.invariant.0),
      λ number action rows named at.
          elim (push_cases old added number rows (ap (λ xs. slice_get xs number) (sym c.in_ok-push.ensures.items) ∙ at)) [
            | inl before ↦ c.loop-action.invariant.1 number action rows named before
            | inr (last, is) ↦
                let same = same_Some here action
                (sym named_here ∙ ap (slice_get domain.actions) (sym (last ∙ c.loop-action.invariant.0)) ∙ named) in
                subst (λ o. IfSome o (AreCandidateRows domain known action))
                (sym is) (subst (λ a. IfSome added (AreCandidateRows domain known a)) same c.in_ok-rows.ensures)
          ],
    )
