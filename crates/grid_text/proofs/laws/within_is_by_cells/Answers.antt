use Rattle.grid_text.proofs.RectsLemmas.{within_is_by_cells}
use Rattle.grid_text.proofs.laws.within_is_by_cells.Goals as goal

pub returns : goal.returns
returns c = within_is_by_cells
