use Rattle.session_core.proofs.EventsLemmas.{each_says_one}
use Rattle.session_core.proofs.laws.each_says_one.Goals as goal

pub returns : goal.returns
returns c = each_says_one
