use Rattle.std.proofs.Common.{IfSome}
use Rattle.fact_join.specs.Leads.{IsLead}
use Rattle.fact_join.proofs.lead.lead_of.Given as goal

abbrev pub invariant-loop-place : goal.invariant-loop-place
invariant-loop-place g l = IfSome l.best (IsLead (g.L.Look.known l.look) l.partial l.atom)
