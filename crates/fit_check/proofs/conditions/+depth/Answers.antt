use Rattle.std.proofs.Common.{sym}
use Rattle.fit_check.proofs.ConditionPartLemmas.{shallow}
use Rattle.fit_check.proofs.conditions.+depth.Goals as goal

pub is_shallow-returns-in_default : goal.is_shallow-returns-in_default
is_shallow-returns-in_default t c =
    sym (shallow c.args.most c.args.formula.now c.in_default.ensures)
