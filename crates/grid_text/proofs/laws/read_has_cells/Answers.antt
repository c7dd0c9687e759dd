use Rattle.grid_text.proofs.FilesLemmas.{read_has_cells}
use Rattle.grid_text.proofs.laws.read_has_cells.Goals as goal

pub returns : goal.returns
returns c = read_has_cells
