use Rattle.std.proofs.Common.{IfSome}
use Rattle.formula_memo.specs.Tries.{IsInFacts}
use Rattle.formula_memo.proofs.choice.lead_in_facts.Given as goal

abbrev pub invariant-loop-at : goal.invariant-loop-at
invariant-loop-at g l = IfSome l.best (IsInFacts l.slot l.env l.lead)
