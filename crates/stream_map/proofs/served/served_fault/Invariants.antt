use Rattle.std.proofs.Common.{◌≡◌, [], drop, take, length}
use Rattle.stream_map.specs.Served.{AreMarks, has_repeat, streams_in}
use Rattle.stream_map.proofs.served.served_fault.Given as goal

-- what was passed is marked, and the repeats are those of what is left
abbrev pub invariant-loop-pool : goal.invariant-loop-pool
invariant-loop-pool l = record {
  count : length l.marks.items ≡ l.count;
  marks : AreMarks (streams_in (take l.pool-index l.pools)) l.marks.items;
  repeats : has_repeat [] (streams_in l.pools)
      ≡ has_repeat (streams_in (take l.pool-index l.pools)) (streams_in (drop l.pool-index l.pools));
}
