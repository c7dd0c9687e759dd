use Rattle.std.proofs.Common.{◌≡◌, ℕ, ◌+◌, ◌<◌, IfSome, List, length, get_or, Some, slice_get, sym, ap, subst, ◌∙◌, arith}
use Rattle.std.proofs.lemmas.Option.{slice_get_within}
use Rattle.grounder.specs.Candidates.{AreCandidateRows}
use Rattle.lemmas.proofs.ListTests.{get_some}
use Rattle.plan_check.proofs.ReadableLemmas.{fit_action}
use Rattle.task_model.specs.declared.domain.Action.{Action}
use Rattle.optimal_search.proofs.PayLemmas.{pays_next}
use Rattle.optimal_search.specs.Share.{goals_of}
use Rattle.optimal_search.specs.Shares.{PayShares}
use Rattle.optimal_search.specs.declared.share.Share.{Share}
use Rattle.optimal_search.proofs.shares.share_all.Goals.{in-Some+in_ok-share_rows-in-Some, in-None}
use Rattle.optimal_search.proofs.shares.share_all.Goals as goal

-- the action at the loop's place
here : (actions listed : List Action) (number : ℕ) (action : Action) → number < length listed → listed ≡ actions
    → action ≡ get_or listed number action → slice_get actions number ≡ Some action
here actions listed number action inside same is =
    get_some actions number action (omega (arith, inside, ap length same))
    (is ∙ ap (λ (xs : List Action). get_or xs number action) same)

pub share_rows-requires-clause-action : goal.share_rows-requires-clause-action
share_rows-requires-clause-action g c =
    let domain = c.args.task.now.domain in
    fit_action domain c.requires.fit.domain c.loop-number.number c.action-item.result
    (here domain.actions c.as_slice-action-items.result.now c.loop-number.number c.action-item.result
    c.loop-number-test.true
    c.as_slice-action-items.ensures c.action-item.is)

pub share_unlisted-requires-clause-action : goal.share_unlisted-requires-clause-action
share_unlisted-requires-clause-action g c =
    let domain = c.args.task.now.domain in
    fit_action domain c.requires.fit.domain c.loop-number.number c.action-item.result
    (here domain.actions c.as_slice-action-items.result.now c.loop-number.number c.action-item.result
    c.loop-number-test.true
    c.as_slice-action-items.ensures c.action-item.is)

pub share_rows-requires-clause-rows : goal.share_rows-requires-clause-rows
share_rows-requires-clause-rows g c =
    let domain = c.args.task.now.domain in
    let number = c.loop-number.number in
    let known = g.L.Look.known c.args.look.now in
    let action = c.action-item.result in
    let kept = c.index-as_slice-number.result in
    let tables = c.as_slice.result.now in
    let named = here domain.actions c.as_slice-action-items.result.now number action c.loop-number-test.true
    c.as_slice-action-items.ensures c.action-item.is in
    let inside = slice_get_within domain.actions number action named in
    let placed : number < length tables =
    omega (arith, inside, ap length c.as_slice.ensures, c.requires.candidates.places) in
    let at = ap (λ xs. slice_get xs number) (sym c.as_slice.ensures) ∙ get_some tables number kept placed
    c.index-as_slice-number.is in
    let rows = subst (λ o. IfSome o (AreCandidateRows domain known action)) c.in-Some.is
    (c.requires.candidates.each number action kept named at) in
    subst (AreCandidateRows domain known action) (sym c.as_slice-in-Some.ensures) rows

pub loop-number-preserved : goal.loop-number-preserved
loop-number-preserved g c =
    let task = c.args.task.now in
    let known = g.L.Look.known c.args.look.now in
    let number = c.loop-number.number in
    let action = c.action-item.result in
    let old = c.loop-number.shares in
    let named = here task.domain.actions c.as_slice-action-items.result.now number action c.loop-number-test.true
    c.as_slice-action-items.ensures c.action-item.is in
    elim c.match-as_slice-number.branch [
      | in-Some+in_ok-share_rows-in-Some w ↦
          let new = w.share_rows.new.shares in
          let done = w.in_ok-share_rows-in-Some.ensures in
          subst (λ (ss : List Share). record {
            goals : goals_of ss ≡ goals_of c.args.shares.now;
            paid : PayShares task known (number + 1) ss;
          }) (sym w.shares-is) (record {
            goals = done.lower.goals ∙ c.loop-number.invariant.goals;
            paid = pays_next task known number action old new named done.lower c.loop-number.invariant.paid done.shared;
          })
      | in-None w ↦
          let new = w.share_unlisted.new.shares in
          let done = w.share_unlisted.ensures in
          subst (λ (ss : List Share). record {
            goals : goals_of ss ≡ goals_of c.args.shares.now;
            paid : PayShares task known (number + 1) ss;
          }) (sym w.shares-is) (record {
            goals = done.lower.goals ∙ c.loop-number.invariant.goals;
            paid = pays_next task known number action old new named done.lower c.loop-number.invariant.paid
                (done.paid known);
          })
    ]

pub returns-clause-paid : goal.returns-clause-paid
returns-clause-paid g c number action inside at =
    c.loop-number.invariant.paid number action (omega (arith, inside, ap length c.as_slice-action-items.ensures)) at
