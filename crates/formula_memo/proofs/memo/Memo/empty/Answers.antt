use Rattle.std.proofs.Common.{sym, subst}
use Rattle.formula_memo.proofs.MemoLemmas.{stands_none}
use Rattle.formula_memo.specs.Remembered.{StandsFor}
use Rattle.formula_memo.proofs.memo.Memo.empty.Goals as goal

pub returns-clause-stands : goal.returns-clause-stands
returns-clause-stands c domain known state =
    subst (StandsFor domain known state) (sym c.new.ensures.empty) (stands_none domain known state)
