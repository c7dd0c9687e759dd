use Rattle.std.proofs.Common.{take}
use Rattle.pools.specs.Served.{AreStreamsMarked}
use Rattle.pools.proofs.workers.marked.Given as goal

abbrev pub invariant-loop-stream : goal.invariant-loop-stream
invariant-loop-stream l = AreStreamsMarked (take l.stream-index l.streams) l.marks.items
