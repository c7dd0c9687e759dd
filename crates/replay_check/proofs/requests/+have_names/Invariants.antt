use Rattle.std.proofs.Common.{length}
use Rattle.replay_check.proofs.requests.+have_names.Given as goal

abbrev pub decreases-have_names : goal.decreases-have_names
decreases-have_names l = length l.objects.now
