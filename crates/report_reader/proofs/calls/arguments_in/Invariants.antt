use Rattle.std.proofs.Common.{◌≡◌, ◌++◌, All, length}
use Rattle.report_reader.specs.Objects.{IsArgument}
use Rattle.report_reader.proofs.calls.arguments_in.Given as goal

abbrev pub invariant-loop-field : goal.invariant-loop-field
invariant-loop-field l = record { formed : All (IsArgument l.objects) l.names.items; fields : l.names.items ++ l.fields ≡ l.fn.fields }

abbrev pub decreases-loop-field : goal.decreases-loop-field
decreases-loop-field l = length l.fields
