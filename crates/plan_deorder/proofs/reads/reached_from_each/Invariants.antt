use Rattle.std.proofs.Common.{◌≡◌, ◌↔◌, ℕ, take, true}
use Rattle.lemmas.specs.Lists.{has_number}
use Rattle.plan_deorder.specs.Occurring.{IsWay}
use Rattle.plan_deorder.proofs.reads.reached_from_each.Given as goal

-- what is reached from the starts that were passed
abbrev pub invariant-loop-start : goal.invariant-loop-start
invariant-loop-start l =
    (p : ℕ) → (has_number l.reached.items p ≡ true) ↔ IsWay l.edges (take l.start-index l.starts) p
