use Rattle.table_laws.proofs.StreamLemmas.{streams_declared}
use Rattle.table_laws.proofs.laws.stream_names_are_declared.Goals as goal

pub returns : goal.returns
returns c = streams_declared
