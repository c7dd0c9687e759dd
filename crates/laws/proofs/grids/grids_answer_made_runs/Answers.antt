use Rattle.laws.proofs.GridMadeLemmas.{grids_answer}
use Rattle.laws.proofs.grids.grids_answer_made_runs.Goals as goal

pub returns : goal.returns
returns c = grids_answer
