use Rattle.gen_lines.proofs.CuttingLemmas.{whole}
use Rattle.gen_lines.proofs.laws.lines_ignore_cutting.Goals as goal

pub returns : goal.returns
returns c = whole
