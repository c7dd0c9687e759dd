use Rattle.std.proofs.Common.{length}
use Rattle.row_runs.proofs.replies.+reply_of.Given as goal

abbrev pub decreases-reply_of : goal.decreases-reply_of
decreases-reply_of l = length l.replies.now
