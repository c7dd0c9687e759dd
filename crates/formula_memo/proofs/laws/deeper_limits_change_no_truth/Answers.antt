use Rattle.std.proofs.Common.{sym}
use Rattle.formula_memo.proofs.DepthLemmas.{deeper_truth}
use Rattle.formula_memo.proofs.laws.deeper_limits_change_no_truth.Goals as goal

pub returns : goal.returns
returns c domain known state depth condition slots fit enough =
    sym (deeper_truth domain fit known state depth condition slots enough)
