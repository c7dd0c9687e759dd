use Rattle.grid_text.proofs.FilesLemmas.{read_is_ascii}
use Rattle.grid_text.proofs.laws.read_is_ascii.Goals as goal

pub returns : goal.returns
returns c = read_is_ascii
