use Rattle.report_reader.proofs.tuples.+take_tuples.Given as goal

abbrev pub decreases-take_tuples : goal.decreases-take_tuples
decreases-take_tuples l = l.bars
