use Rattle.std.proofs.Common.{IfSome}
use Rattle.formula_memo.specs.Tries.{IsTryLead}
use Rattle.formula_memo.proofs.choice.lead_for.Given as goal

abbrev pub invariant-loop-number : goal.invariant-loop-number
invariant-loop-number g l = IfSome l.best (IsTryLead l.scene.task.now.domain l.condition l.slot l.env)
