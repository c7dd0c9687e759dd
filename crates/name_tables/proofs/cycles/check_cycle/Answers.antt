use Rattle.name_tables.proofs.cycles.check_cycle.Goals as goal

pub returns : goal.returns
returns c = record { there = c.in_ok-cyclic.cyclic; right = c.in_ok-cyclic.ensures; least = c.with_fault.ensures }
