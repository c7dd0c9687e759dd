use Rattle.std.proofs.Common.{arith}
use Rattle.formula_eval.proofs.ListTestLemmas.{have_types-unequal}
use Rattle.formula_eval.proofs.lookup.have_types.Goals as goal

pub returns-then-objects-sorts : goal.returns-then-objects-sorts
returns-then-objects-sorts g c =
    have_types-unequal (g.L.Look.known c.args.look.now) c.args.objects.now c.args.sorts.now (λ e. absurd (omega (arith, e)))
