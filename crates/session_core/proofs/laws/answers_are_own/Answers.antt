use Rattle.session_core.proofs.EventsLemmas.{answers_are_own}
use Rattle.session_core.proofs.laws.answers_are_own.Goals as goal

pub returns : goal.returns
returns c = answers_are_own
