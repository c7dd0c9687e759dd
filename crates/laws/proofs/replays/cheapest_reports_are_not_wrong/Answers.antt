use Rattle.laws.proofs.SolvedLemmas.{cheapest_not_wrong}
use Rattle.laws.proofs.replays.cheapest_reports_are_not_wrong.Goals as goal

pub returns : goal.returns
returns c = cheapest_not_wrong
