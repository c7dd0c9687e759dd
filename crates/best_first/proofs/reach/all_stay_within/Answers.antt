use Rattle.std.proofs.Common.{arith, length, ap, subst}
use Rattle.lemmas.proofs.ListTests.{get_some}
use Rattle.lemmas.proofs.Members.{member_at}
use Rattle.plan_check.proofs.ReadableLemmas.{readable_action}
use Rattle.task_model.proofs.TruthLemmas.{have_types-length}
use Rattle.std.proofs.lemmas.Option.{slice_get_within}
use Rattle.best_first.proofs.ReachLemmas.{next_too, rows_lead_within}
use Rattle.best_first.specs.Reach.{StaysWithin}
use Rattle.best_first.proofs.reach.all_stay_within.Goals as goal

pub stays_within-requires-clause-few : goal.stays_within-requires-clause-few
stays_within-requires-clause-few g c =
    let bounds = c.args.bounds.now in
    let domain = bounds.task.now.domain in
    let action = c.args.action.now in
    let known = g.L.Look.known bounds.look.now in
    let rows = c.args.rows.now in
    let objects = c.objects-item.result in
    let params = (readable_action domain c.requires.fit.domain action c.requires.action).params in
    let there =
    member_at rows c.loop-objects.objects-index objects
    (get_some rows c.loop-objects.objects-index objects c.loop-objects-test.true c.objects-item.is) in
    let typed = ((c.requires.rows.each objects).0 there).0 in
    omega (arith, params, ap length c.as_slice.ensures, have_types-length known objects action.params typed)

pub loop-objects-preserved : goal.loop-objects-preserved
loop-objects-preserved g c =
    let bounds = c.args.bounds.now in
    let rows = c.args.rows.now in
    let index = c.loop-objects.objects-index in
    let objects = c.objects-item.result in
    let stays = StaysWithin bounds.task.now (g.L.Look.known bounds.look.now) bounds.atoms.now c.args.action.now in
    let here = subst stays c.as_slice.ensures (c.in_ok-stays_within.ensures c.if-not-branch.false) in
    next_too stays rows index objects (get_some rows index objects c.loop-objects-test.true c.objects-item.is) here
    (λ n args below at. c.loop-objects.invariant n args below at)

pub returns : goal.returns
returns g c =
    let bounds = c.args.bounds.now in
    λ _. rows_lead_within bounds.task.now (g.L.Look.known bounds.look.now) bounds.atoms.now c.args.action.now c.args.rows.now
    c.requires.rows (λ n args at.
    c.loop-objects.invariant n args (omega (arith, slice_get_within c.args.rows.now n args at)) at)
