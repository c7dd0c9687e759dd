use Rattle.grid_text.proofs.RectsLemmas.{meeting_is_by_cells}
use Rattle.grid_text.proofs.laws.meeting_is_by_cells.Goals as goal

pub returns : goal.returns
returns c = meeting_is_by_cells
