use Rattle.std.proofs.Common.{◌≡◌, ◌++◌, All, length}
use Rattle.report_text.specs.Forms.{IsName}
use Rattle.report_reader.proofs.calls.names_in.Given as goal

abbrev pub invariant-loop-field : goal.invariant-loop-field
invariant-loop-field l =
    record { formed : All IsName l.names.items; fields : l.names.items ++ l.fields ≡ l.fn.fields }

abbrev pub decreases-loop-field : goal.decreases-loop-field
decreases-loop-field l = length l.fields
