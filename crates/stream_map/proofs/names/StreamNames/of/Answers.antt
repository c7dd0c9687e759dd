use Rattle.std.proofs.Common.{◌≡◌, ◌∙◌, sym, ap, Some, slice_get, arith}
use Rattle.stream_map.specs.Form.{all_stream_names}
use Rattle.stream_map.proofs.FaultsLemmas.{key_pushed, name_at}
use Rattle.stream_map.proofs.names.StreamNames.of.Goals as goal

pub loop-stream-preserved : goal.loop-stream-preserved
loop-stream-preserved c =
    let names = all_stream_names c.args.task.now in
    let i = c.loop-stream.stream-index in
    let key : c.in_ok-from_slice.field-0.items ≡ c.stream-item.result.name = c.in_ok-from_slice.ensures.items ∙ c.bytes.ensures in
    let here : slice_get names i ≡ Some c.in_ok-from_slice.field-0.items =
    name_at names c.as_slice-stream-items.result.now i c.stream-item.result c.loop-stream.invariant.streams (omega arith) c.stream-item.is
    ∙ ap Some (sym key) in
    record {
      streams = c.loop-stream.invariant.streams;
      names = key_pushed (λ v. v.items) c.loop-stream.names.keys c.insert.new.self.keys c.in_ok-from_slice.field-0 names i
          c.loop-stream.invariant.names here
          (λ j below at. let same = c.requires.streams.names.distinct j i _ at here in omega (arith, below, same))
          c.in_ok-_new.ensures.keys;
    }
