use Rattle.std.proofs.Common.{◌≡◌, ◌+◌, ◌++◌, drop}
use Rattle.form_reader.specs.Faults.{first}
use Rattle.stream_reader.specs.Cycles.{next_streams}
use Rattle.stream_reader.proofs.cycles.next_of.Given as goal

abbrev pub invariant-loop-place : goal.invariant-loop-place
invariant-loop-place l =
    next_streams l.domain l.first 0 l.all
    ≡ l.numbers.items ++ next_streams l.domain l.first l.place (drop l.place l.all)
