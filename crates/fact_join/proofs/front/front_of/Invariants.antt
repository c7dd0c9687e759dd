use Rattle.std.proofs.Common.{take}
use Rattle.fact_join.specs.Fronts.{AreKnown}
use Rattle.fact_join.proofs.front.front_of.Given as goal

-- the atoms that were passed are known
abbrev pub invariant-loop-place : goal.invariant-loop-place
invariant-loop-place g l = AreKnown (g.L.Look.known l.query.look.now) l.partial (take l.place l.atoms)
