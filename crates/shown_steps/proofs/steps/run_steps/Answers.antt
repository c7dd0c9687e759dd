use Rattle.std.proofs.Common.{◌≡◌, false, take, rules, tests}
use Rattle.shown_steps.proofs.RunsLemmas.{stops_at}
use Rattle.shown_steps.proofs.steps.run_steps.Goals as goal

pub returns-then-not-branch : goal.returns-then-not-branch
returns-then-not-branch g c =
    let calls = c.args.calls.now in
    let place = c.loop-place.place in
    let so_far = c.loop-place.invariant in
    let over : c.in_ok-take.field-0 ≡ false = search (rules, tests) in
    stops_at c.args.task.now (g.L.Look.known c.args.look.now) calls place c.index-calls-place.result c.loop-place.run so_far
    c.loop-place-test.true c.index-calls-place.is (rw over at (c.in_ok-take.ensures (take place calls) so_far))
