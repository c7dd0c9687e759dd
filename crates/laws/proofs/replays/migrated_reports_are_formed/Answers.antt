use Rattle.laws.proofs.MigratedLemmas.{formed_second}
use Rattle.laws.proofs.replays.migrated_reports_are_formed.Goals as goal

pub returns : goal.returns
returns c = formed_second
