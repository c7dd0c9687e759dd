use Rattle.std.proofs.Common.{length, ap, arith}
use Rattle.sexpr_text.proofs.NestLemmas.{begun_count}
use Rattle.sexpr_text.proofs.nest.Nest.open_count.Goals as goal

pub returns : goal.returns
returns c = λ os h.
    let a = c.len.ensures in
    let b = ap length h.begun in
    let e = begun_count os in
    omega arith
