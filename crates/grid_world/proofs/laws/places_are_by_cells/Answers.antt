use Rattle.grid_world.proofs.AnswersCellsLemmas.{places_are_by_cells}
use Rattle.grid_world.proofs.laws.places_are_by_cells.Goals as goal

pub returns : goal.returns
returns c = places_are_by_cells
