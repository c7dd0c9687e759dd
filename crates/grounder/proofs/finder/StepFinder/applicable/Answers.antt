use Rattle.std.proofs.Common.{◌+◌, ◌<◌, IfSome, Some, length, get_or, slice_get, sym, ap, subst, ◌∙◌, arith}
use Rattle.std.specs.Vec.{vec_items}
use Rattle.lemmas.proofs.ListTests.{get_some}
use Rattle.grounder.proofs.ListingLemmas.{AreListed, listed_none, listed_next, all_listed}
use Rattle.grounder.specs.Asks.{AreAsks}
use Rattle.grounder.specs.Candidates.{AreCandidateRows}
use Rattle.grounder.specs.Parts.{tops_of}
use Rattle.grounder.proofs.finder.StepFinder.applicable.Goals.{in-Some+in_ok-add_from_rows-in-Some, in-None+in_ok-add_steps-in-None}
use Rattle.grounder.proofs.finder.StepFinder.applicable.Goals as goal

pub loop-number-init : goal.loop-number-init
loop-number-init g c =
    subst (AreListed c.args.task.now (g.L.Look.known c.args.look.now) c.args.state.now 0)
    (sym c.new-steps.ensures.items) (listed_none c.args.task.now (g.L.Look.known c.args.look.now) c.args.state.now)

pub add_from_rows-requires-clause-named : goal.add_from_rows-requires-clause-named
add_from_rows-requires-clause-named g c =
    let actions = c.args.task.now.domain.actions in
    let number = c.loop-number.number in
    let inside : number < length actions = omega (arith, ap length c.as_slice-action-items.ensures) in
    get_some actions number c.action-item.result inside
    (c.action-item.is ∙ ap (λ xs. get_or xs number c.action-item.result) c.as_slice-action-items.ensures)

pub add_from_rows-requires-clause-table : goal.add_from_rows-requires-clause-table
add_from_rows-requires-clause-table g c =
    let domain = c.args.task.now.domain in
    let known = g.L.Look.known c.args.look.now in
    let number = c.loop-number.number in
    let action = c.action-item.result in
    let keys = c.args.self.now.atoms.keys in
    let tops = tops_of action.condition in
    let inside : number < length domain.actions = omega (arith, ap length c.as_slice-action-items.ensures) in
    let named =
    get_some domain.actions number action inside
    (c.action-item.is ∙ ap (λ xs. get_or xs number action) c.as_slice-action-items.ensures) in
    let kept = c.index-as_slice-number.result in
    let tables = c.as_slice.result.now in
    let placed : number < length tables =
    omega (arith, inside, ap length c.as_slice.ensures, c.requires.finds.candidates.places) in
    let at = ap (λ xs. slice_get xs number) (sym c.as_slice.ensures) ∙ get_some tables number kept placed c.index-as_slice-number.is in
    let rows = subst (λ o. IfSome o (AreCandidateRows domain known action)) c.in-Some.is
    (c.requires.finds.candidates.each number action kept named at) in
    let asked = c.index-as_slice-number-in-Some.result in
    let lists = c.as_slice-in-Some.result.now in
    let listed : number < length lists =
    omega (arith, inside, ap length c.as_slice-in-Some.ensures, c.requires.finds.asks.places) in
    let asked_at =
    ap (λ xs. slice_get xs number) (sym c.as_slice-in-Some.ensures)
    ∙ get_some lists number asked listed c.index-as_slice-number-in-Some.is in
    let asks : AreAsks domain tops c.in-Some.rows keys asked =
    c.requires.finds.asks.each number action c.in-Some.rows asked named (at ∙ ap Some c.in-Some.is) asked_at in
    record {
      numbered = keys;
      rows = subst (AreCandidateRows domain known action) (sym c.as_slice-in-Some-2.ensures) rows;
      asks =
          subst (λ xs. AreAsks domain tops xs keys c.as_slice-in-Some-3.result.now) (sym c.as_slice-in-Some-2.ensures)
          (subst (AreAsks domain tops c.in-Some.rows keys) (sym c.as_slice-in-Some-3.ensures) asks);
      marks = c.as_slice-in-Some-4.ensures.value ∙ c.in_ok-marks.ensures;
    }

pub add_steps-requires-clause-named : goal.add_steps-requires-clause-named
add_steps-requires-clause-named g c =
    let actions = c.args.task.now.domain.actions in
    let number = c.loop-number.number in
    let inside : number < length actions = omega (arith, ap length c.as_slice-action-items.ensures) in
    get_some actions number c.action-item.result inside
    (c.action-item.is ∙ ap (λ xs. get_or xs number c.action-item.result) c.as_slice-action-items.ensures)

pub loop-number-preserved : goal.loop-number-preserved
loop-number-preserved g c =
    let task = c.args.task.now in
    let known = g.L.Look.known c.args.look.now in
    let state = c.args.state.now in
    let number = c.loop-number.number in
    let old = c.loop-number.steps.items in
    elim c.match-as_slice-number.branch [
      | in-Some+in_ok-add_from_rows-in-Some w ↦
          subst (AreListed task known state (number + 1)) (sym (ap vec_items w.steps-is))
          (listed_next task known state number old w.add_from_rows.new.steps.items c.loop-number.invariant
          w.in_ok-add_from_rows-in-Some.ensures)
      | in-None+in_ok-add_steps-in-None w ↦
          subst (AreListed task known state (number + 1)) (sym (ap vec_items w.steps-is))
          (listed_next task known state number old w.add_steps.new.steps.items c.loop-number.invariant
          w.in_ok-add_steps-in-None.ensures)
    ]

pub returns : goal.returns
returns g c =
    all_listed c.args.task.now (g.L.Look.known c.args.look.now) c.args.state.now c.loop-number.number c.loop-number.steps.items
    (omega (arith, ap length c.as_slice-action-items.ensures)) c.loop-number.invariant
