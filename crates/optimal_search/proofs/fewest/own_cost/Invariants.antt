use Rattle.std.proofs.Common.{◌≡◌, ◌+◌, ◌*◌, ◌≤◌, ◌^◌, drop}
use Rattle.optimal_search.specs.Bounds.{own_cost}
use Rattle.optimal_search.proofs.fewest.own_cost.Given as goal

-- the terms so far are counted
abbrev pub invariant-loop-term : goal.invariant-loop-term
invariant-loop-term l = (l.total + own_cost (drop l.term-index l.terms) ≡ own_cost l.terms) × (l.total ≤ 2 ^ 32 * l.term-index)
