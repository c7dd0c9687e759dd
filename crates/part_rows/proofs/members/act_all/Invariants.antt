use Rattle.std.proofs.Common.{◌≡◌}
use Rattle.part_rows.proofs.members.act_all.Given as goal

abbrev pub invariant-loop-line : goal.invariant-loop-line
invariant-loop-line g l = g.G.Generator.running l.generator ≡ l.runs
