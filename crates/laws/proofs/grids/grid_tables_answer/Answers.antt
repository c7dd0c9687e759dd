use Rattle.laws.proofs.GridOtherLemmas.{tables_answer}
use Rattle.laws.proofs.grids.grid_tables_answer.Goals as goal

pub returns : goal.returns
returns c = tables_answer
