use Rattle.part_rows.proofs.trees.+write_front.Given as goal

abbrev pub decreases-write_front : goal.decreases-write_front
decreases-write_front l = l.depth
