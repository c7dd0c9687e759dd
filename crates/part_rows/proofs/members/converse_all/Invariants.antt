use Rattle.std.proofs.Common.{◌≡◌, true}
use Rattle.part_rows.proofs.members.converse_all.Given as goal

abbrev pub invariant-loop-line : goal.invariant-loop-line
invariant-loop-line g l = g.H.Host.running l.host l.child ≡ true
