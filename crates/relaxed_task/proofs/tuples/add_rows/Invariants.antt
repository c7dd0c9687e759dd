use Rattle.std.proofs.Common.{◌≤◌, length}
use Rattle.relaxed_task.proofs.tuples.add_rows.Given as goal

abbrev pub invariant-loop-number : goal.invariant-loop-number
invariant-loop-number g l = length l.rows.items ≤ l.query.most
