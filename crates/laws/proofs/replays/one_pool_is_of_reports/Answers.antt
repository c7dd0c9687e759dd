use Rattle.laws.proofs.WrittenPoolLemmas.{one_pool}
use Rattle.laws.proofs.replays.one_pool_is_of_reports.Goals as goal

pub returns : goal.returns
returns c = one_pool
