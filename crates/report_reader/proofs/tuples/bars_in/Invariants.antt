use Rattle.std.proofs.Common.{◌≡◌, ◌+◌, count_by, length}
use Rattle.report_reader.specs.Tuples.{is_bar_field}
use Rattle.report_reader.proofs.tuples.bars_in.Given as goal

abbrev pub invariant-loop-field : goal.invariant-loop-field
invariant-loop-field l = record
    { counted : l.bars + count_by is_bar_field l.rest ≡ count_by is_bar_field l.fields; most : l.most ≡ length l.fields }

abbrev pub decreases-loop-field : goal.decreases-loop-field
decreases-loop-field l = length l.rest
