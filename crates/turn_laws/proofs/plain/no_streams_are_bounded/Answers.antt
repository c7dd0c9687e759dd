use Rattle.turn_laws.proofs.PlainBoundedLemmas.{no_streams}
use Rattle.turn_laws.proofs.plain.no_streams_are_bounded.Goals as goal

pub returns : goal.returns
returns c = λ version task answers calls states none few. no_streams version task answers calls states none few
