use Rattle.premise_laws.proofs.RunLemmas.{run_there}
use Rattle.premise_laws.proofs.laws.the_first_run_is_there.Goals as goal

pub returns : goal.returns
returns c = run_there c.args._alloc
