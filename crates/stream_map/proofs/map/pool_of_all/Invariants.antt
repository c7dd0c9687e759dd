use Rattle.std.proofs.Common.{◌≡◌, map, string_bytes, take}
use Rattle.task_model.specs.declared.stream.Stream.{Stream}
use Rattle.stream_map.proofs.map.pool_of_all.Given as goal

-- the words so far
abbrev pub invariant-loop-word : goal.invariant-loop-word
invariant-loop-word l = map string_bytes l.run.items ≡ map string_bytes (take l.word-index l.argv)

-- the names so far
abbrev pub invariant-loop-stream : goal.invariant-loop-stream
invariant-loop-stream l = record {
  words : map string_bytes l.run.items ≡ map string_bytes l.fn.argv;
  all : l.stream-items ≡ l.fn.task.streams;
  names : l.streams.items ≡ map (λ (s : Stream). s.name) (take l.stream-index l.stream-items);
}
