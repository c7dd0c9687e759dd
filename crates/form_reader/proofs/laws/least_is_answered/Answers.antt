use Rattle.form_reader.proofs.FaultsLeastLemmas.{least_answers}
use Rattle.form_reader.proofs.laws.least_is_answered.Goals as goal

pub returns : goal.returns
returns c = least_answers
