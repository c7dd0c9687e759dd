use Rattle.std.proofs.Common.{◌≤◌, ap, length, arith}
use Rattle.std.proofs.lemmas.Result.{err_from_is_err_and}
use Rattle.instance_search.proofs.FoundLemmas.{none_below, whole_below, stream_at, stream_more, stream_fault}
use Rattle.instance_search.proofs.ReadableLemmas.{fit_readable_stream}
use Rattle.instance_search.proofs.search.found.Goals as goal

pub add_instances-requires-clause-readable : goal.add_instances-requires-clause-readable
add_instances-requires-clause-readable g c =
    let task = c.args.task.now in
    let place = c.loop-place.place in
    let stream = c.stream-item.result in
    let items = c.as_slice-stream-items in
    let at = stream_at task.streams items.result.now place stream items.ensures c.loop-place-test.true c.stream-item.is in
    fit_readable_stream task c.requires place stream at

pub returns-in_err-add_instances-clause-fault : goal.returns-in_err-add_instances-clause-fault
returns-in_err-add_instances-clause-fault g c =
    let task = c.args.task.now in
    let known = g.L.Look.known c.args.look.now in
    let seeks = g.S.Sought.seeks c.args.sought.now in
    let place = c.loop-place.place in
    let stream = c.stream-item.result in
    let fault = c.in_err-add_instances.field-0.0 in
    let items = c.as_slice-stream-items in
    let at = stream_at task.streams items.result.now place stream items.ensures c.loop-place-test.true c.stream-item.is in
    let p = err_from_is_err_and c.from_residual.result c.from_residual.ensures.1 in
    rw (p.1, p.2)
    (stream_fault task known seeks place stream c.args.most c.loop-place.instances.items fault at c.loop-place.invariant.0
    c.loop-place.invariant.1 c.in_err-add_instances.ensures.fault)

pub loop-place-init : goal.loop-place-init
loop-place-init g c =
    none_below c.args.task.now.streams (g.L.Look.known c.args.look.now) (g.S.Sought.seeks c.args.sought.now) c.args.most
    c.new-instances.result.items c.new-instances.ensures.items

pub loop-place-preserved : goal.loop-place-preserved
loop-place-preserved g c =
    let streams = c.args.task.now.streams in
    let place = c.loop-place.place in
    let stream = c.stream-item.result in
    let items = c.as_slice-stream-items in
    let at = stream_at streams items.result.now place stream items.ensures c.loop-place-test.true c.stream-item.is in (
      stream_more streams (g.L.Look.known c.args.look.now) (g.S.Sought.seeks c.args.sought.now) place stream at
          c.loop-place.instances.items c.add_instances.new.instances.items c.loop-place.invariant.0
          c.in_ok-add_instances.ensures.found,
      c.in_ok-add_instances.ensures.few,
    )

pub returns-clause-found : goal.returns-clause-found
returns-clause-found g c =
    let streams = c.args.task.now.streams in
    let place = c.loop-place.place in
    let past : length streams ≤ place = omega (arith, c.loop-place-test.false, ap length c.as_slice-stream-items.ensures) in
    whole_below streams (g.L.Look.known c.args.look.now) (g.S.Sought.seeks c.args.sought.now) place c.loop-place.instances.items past
    c.loop-place.invariant.0
