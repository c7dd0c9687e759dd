use Rattle.std.proofs.Common.{length}
use Rattle.instance_search.proofs.order.+compare_inputs.Given as goal

abbrev pub decreases-compare_inputs : goal.decreases-compare_inputs
decreases-compare_inputs l = length l.a.now
