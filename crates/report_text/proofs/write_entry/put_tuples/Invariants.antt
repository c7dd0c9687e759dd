use Rattle.std.proofs.Common.{◌+◌, ◌*◌, ◌≤◌, length}
use Rattle.report_text.specs.Texts.{fields_text, tuples_of, tuple_fields}
use Rattle.report_text.proofs.PrintsLemmas.{IsBehind}
use Rattle.report_text.proofs.write_entry.put_tuples.Given as goal

-- what was written and what is left are the whole, and enough is left
abbrev pub invariant-loop-bars : goal.invariant-loop-bars
invariant-loop-bars g l = record {
  told : IsBehind (g.O.Sink.taken l.initial.out) (g.O.Sink.taken l.out)
      (fields_text (tuples_of l.width l.bars l.rest)) (fields_text (tuple_fields l.tuples l.values));
  enough : l.width + l.bars * l.width ≤ length l.rest;
  sink : g.O.Sink.faults l.initial.out ≤ g.O.Sink.faults l.out;
}

abbrev pub decreases-loop-bars : goal.decreases-loop-bars
decreases-loop-bars g l = l.bars
