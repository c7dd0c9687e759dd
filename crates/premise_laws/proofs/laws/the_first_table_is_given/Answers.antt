use Rattle.premise_laws.proofs.GivenLemmas.{table_given}
use Rattle.premise_laws.proofs.laws.the_first_table_is_given.Goals as goal

pub returns : goal.returns
returns c = table_given
