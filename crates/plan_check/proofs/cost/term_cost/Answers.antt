use Rattle.std.proofs.Common.{◌≤◌, sym, subst, IfSome}
use Rattle.plan_check.proofs.CostLemmas.{value_small}
use Rattle.plan_check.proofs.cost.term_cost.Goals as goal

pub returns-in-Value-clause-small : goal.returns-in-Value-clause-small
returns-in-Value-clause-small g c =
    subst (λ o. IfSome o (λ n. n ≤ 1000000)) (sym c.value.ensures)
    (value_small (g.L.Look.known c.args.look.now) (g.met.L.Look.coherent c.args.look.now) _ _)
