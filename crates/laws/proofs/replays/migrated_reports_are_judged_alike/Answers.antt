use Rattle.laws.proofs.MigratedLemmas.{judged_alike}
use Rattle.laws.proofs.replays.migrated_reports_are_judged_alike.Goals as goal

pub returns : goal.returns
returns c = judged_alike
