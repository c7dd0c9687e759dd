use Rattle.std.proofs.Common.{length}
use Rattle.report_reader.specs.Body.{IsReportFront}
use Rattle.report_reader.proofs.body_reader.body_in.Given as goal

abbrev pub invariant-loop-entries : goal.invariant-loop-entries
invariant-loop-entries l = IsReportFront l.version l.entries.items l.fn.lines l.lines

abbrev pub decreases-loop-entries : goal.decreases-loop-entries
decreases-loop-entries l = length l.lines
