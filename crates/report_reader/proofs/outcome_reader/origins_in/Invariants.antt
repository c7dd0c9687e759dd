use Rattle.std.proofs.Common.{length}
use Rattle.report_text.specs.Forms.{IsFormedOrigin}
use Rattle.report_text.specs.Texts.{from_line}
use Rattle.report_reader.specs.Finding.{TakesMany}
use Rattle.report_reader.proofs.outcome_reader.origins_in.Given as goal

abbrev pub invariant-loop-origins : goal.invariant-loop-origins
invariant-loop-origins l =
    TakesMany (IsFormedOrigin l.version) (from_line l.version) (length l.origins.items) l.origins.items l.fn.lines l.lines

abbrev pub decreases-loop-origins : goal.decreases-loop-origins
decreases-loop-origins l = length l.lines
