use Rattle.std.proofs.Common.{◌≡◌, map, take}
use Rattle.task_model.specs.declared.stream.Stream.{Stream}
use Rattle.stream_map.specs.Form.{all_stream_names}
use Rattle.stream_map.proofs.names.StreamNames.of.Given as goal

-- the keys are the names of the streams that were passed
abbrev pub invariant-loop-stream : goal.invariant-loop-stream
invariant-loop-stream l = record {
  streams : map (λ (s : Stream). s.name) l.stream-items ≡ all_stream_names l.fn.task;
  names : map (λ v. v.items) l.names.keys ≡ take l.stream-index (all_stream_names l.fn.task);
}
