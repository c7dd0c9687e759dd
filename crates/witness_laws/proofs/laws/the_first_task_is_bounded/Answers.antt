use Rattle.witness_laws.proofs.TranscriptLemmas.{bounded}
use Rattle.witness_laws.proofs.laws.the_first_task_is_bounded.Goals as goal

pub returns : goal.returns
returns c = bounded
