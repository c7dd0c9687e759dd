use Rattle.std.proofs.Common.{subst, sym}
use Rattle.formula_memo.proofs.MemoLemmas.{stands_noted}
use Rattle.formula_memo.specs.Remembered.{StandsFor}
use Rattle.formula_memo.proofs.memo.Memo.note.Goals as goal

pub returns : goal.returns
returns c domain known state stands right =
    stands_noted domain known state c.self.inside.truths.entries c.insert.new.self.entries c.args.atom c.args.value
    (λ q. c.in_ok-insert.ensures.updates.0 q) (subst (StandsFor domain known state) (sym c.self.view_is) stands) right
