use Rattle.std.proofs.Common.{◌≡◌, ◌+◌, ◌≤◌, ◌++◌}
use Rattle.plan_deorder.proofs.PairLemmas.{row_to}
use Rattle.plan_deorder.proofs.order.put_row.Given as goal

-- the pairs with the steps so far
abbrev pub invariant-loop-second : goal.invariant-loop-second
invariant-loop-second l =
    (l.first + 1 ≤ l.second) × (l.pairs.items ≡ l.initial.pairs.items ++ row_to l.touched l.first l.second)
