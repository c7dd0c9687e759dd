use Rattle.gen_lines.proofs.ReplyLemmas.{numbers_are_small}
use Rattle.gen_lines.proofs.laws.numbers_are_small.Goals as goal

pub returns : goal.returns
returns c = numbers_are_small
