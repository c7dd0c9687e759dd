use Rattle.std.proofs.Common.{arith}
use Rattle.formula_memo.proofs.DepthLemmas.{condition_rests}
use Rattle.formula_memo.proofs.holds.holds_memo.Goals as goal

pub truth-requires-clause-rests : goal.truth-requires-clause-rests
truth-requires-clause-rests g c =
    condition_rests c.args.task.now.domain c.requires.fit.domain _ c.args.formula.now (omega (arith, c.len.ensures))
