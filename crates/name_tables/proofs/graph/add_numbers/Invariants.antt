use Rattle.std.proofs.Common.{◌≡◌, drop}
use Rattle.name_tables.specs.Graphs.{with_numbers}
use Rattle.name_tables.proofs.graph.add_numbers.Given as goal

abbrev pub invariant-loop-number : goal.invariant-loop-number
invariant-loop-number l =
    with_numbers l.fn.seen.keys l.numbers ≡ with_numbers l.seen.keys (drop l.number-index l.numbers)
