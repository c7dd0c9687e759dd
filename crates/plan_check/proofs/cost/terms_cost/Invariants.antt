use Rattle.std.proofs.Common.{◌≡◌, ◌≤◌, ◌*◌, drop, Some}
use Rattle.task_model.specs.Steps.{sum_of, terms_cost}
use Rattle.plan_check.proofs.cost.terms_cost.Given as goal

-- with what is left to add, it is the whole sum
abbrev pub invariant-loop-term : goal.invariant-loop-term
invariant-loop-term g l =
    (sum_of (Some l.total) (terms_cost (g.L.Look.known l.look) l.env (drop l.term-index l.terms))
    ≡ terms_cost (g.L.Look.known l.look) l.env l.terms)
    × (l.total ≤ 1000000 * l.term-index)
