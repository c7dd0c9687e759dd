use Rattle.std.proofs.Common.{arith}
use Rattle.grid_world.proofs.AnswerLinesLemmas.{pair_one}
use Rattle.grid_world.proofs.answer_line.pair_line.Goals as goal

pub returns-clause-one : goal.returns-clause-one
returns-clause-one c =
    pair_one c.args.word.now c.args.x c.args.y c.requires.line (omega (arith, c.ranges.x)) (omega (arith, c.ranges.y))
