use Rattle.premise_laws.proofs.WellLemmas.{goes_well}
use Rattle.premise_laws.proofs.laws.the_first_run_goes_well.Goals as goal

pub returns : goal.returns
returns c = goes_well c.args._alloc
