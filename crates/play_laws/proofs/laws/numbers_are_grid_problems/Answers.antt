use Rattle.play_laws.proofs.NumberLemmas.{numbers_are_grid_problems}
use Rattle.play_laws.proofs.laws.numbers_are_grid_problems.Goals as goal

pub returns : goal.returns
returns c = numbers_are_grid_problems
