use Rattle.table_runs.proofs.SpeakLemmas.{agreeing_speaks}
use Rattle.table_runs.proofs.laws.agreeing_dialogues_speak.Goals as goal

pub returns : goal.returns
returns c = agreeing_speaks
