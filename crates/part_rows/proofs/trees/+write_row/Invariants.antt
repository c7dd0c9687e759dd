use Rattle.part_rows.proofs.trees.+write_row.Given as goal

abbrev pub decreases-write_row : goal.decreases-write_row
decreases-write_row l = l.depth
