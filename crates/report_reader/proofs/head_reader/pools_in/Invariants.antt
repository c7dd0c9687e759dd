use Rattle.std.proofs.Common.{◌≡◌, ◌++◌, All, length}
use Rattle.report_text.specs.Forms.{IsFormedPool}
use Rattle.report_text.specs.Texts.{pool_line}
use Rattle.report_reader.specs.Finding.{shown_lines}
use Rattle.report_reader.proofs.head_reader.pools_in.Given as goal

abbrev pub invariant-loop-pools : goal.invariant-loop-pools
invariant-loop-pools l =
    record { formed : All IsFormedPool l.pools.items; shown : shown_lines pool_line l.pools.items ++ l.lines ≡ l.fn.lines }

abbrev pub decreases-loop-pools : goal.decreases-loop-pools
decreases-loop-pools l = length l.lines
