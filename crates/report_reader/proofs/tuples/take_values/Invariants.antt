use Rattle.report_reader.specs.Tuples.{HasTaken}
use Rattle.report_reader.proofs.tuples.take_values.Given as goal

abbrev pub invariant-loop : goal.invariant-loop
invariant-loop l = HasTaken l.counter l.fn.values.items l.values.items l.fn.fields l.fields
