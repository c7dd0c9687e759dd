use Rattle.std.proofs.Common.{[]}
use Rattle.plan_rows.proofs.judged.add_judged.Goals as goal

pub add_entries-requires : goal.add_entries-requires
add_entries-requires c = (1, [], c.in_ok-knowledge.ensures 1)
