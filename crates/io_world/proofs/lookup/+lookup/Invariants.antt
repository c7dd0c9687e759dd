use Rattle.std.proofs.Common.{length}
use Rattle.io_world.proofs.lookup.+lookup.Given as goal

abbrev pub decreases-lookup : goal.decreases-lookup
decreases-lookup l = length l.files.now
