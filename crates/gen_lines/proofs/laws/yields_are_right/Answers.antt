use Rattle.gen_lines.proofs.ReplyLemmas.{yields_are_right}
use Rattle.gen_lines.proofs.laws.yields_are_right.Goals as goal

pub returns : goal.returns
returns c = yields_are_right
