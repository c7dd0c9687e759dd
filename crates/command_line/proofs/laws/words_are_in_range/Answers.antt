use Rattle.command_line.proofs.RangesLemmas.{in_range}
use Rattle.command_line.proofs.laws.words_are_in_range.Goals as goal

pub returns : goal.returns
returns c = in_range
