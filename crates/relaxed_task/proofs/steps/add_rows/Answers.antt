use Rattle.std.proofs.Common.{length, ap, arith}
use Rattle.lemmas.proofs.ListTests.{get_some}
use Rattle.lemmas.proofs.Members.{member_at}
use Rattle.plan_check.proofs.ReadableLemmas.{readable_action}
use Rattle.task_model.proofs.TruthLemmas.{have_types-length}
use Rattle.relaxed_task.proofs.steps.add_rows.Goals as goal

pub add_rule-requires-clause-few : goal.add_rule-requires-clause-few
add_rule-requires-clause-few g c =
    let scene = c.args.scene.now in
    let domain = scene.task.now.domain in
    let action = c.args.action.now in
    let known = g.L.Look.known scene.look.now in
    let rows = c.args.rows.now in
    let objects = c.objects-item.result in
    let params = (readable_action domain c.requires.fit.domain action c.requires.action).params in
    let there =
    member_at rows c.loop-objects.objects-index objects
    (get_some rows c.loop-objects.objects-index objects c.loop-objects-test.true c.objects-item.is) in
    let typed = ((c.requires.rows.each objects).0 there).0 in
    omega (arith, params, ap length c.as_slice.ensures, have_types-length known objects action.params typed)
