use Rattle.session_core.proofs.EventsLemmas.{order_does_not_matter}
use Rattle.session_core.proofs.laws.order_does_not_matter.Goals as goal

pub returns : goal.returns
returns c = order_does_not_matter
