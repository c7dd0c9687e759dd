use Rattle.std.proofs.Common.{◌≡◌, ℕ, List, take}
use Rattle.task_model.specs.Truth.{objects_at}
use Rattle.fact_join.specs.Partials.{Agrees}
use Rattle.fact_join.proofs.partial.Partial.ground.Given as goal

-- the objects of the terms that were passed are there
abbrev pub invariant-loop-term : goal.invariant-loop-term
invariant-loop-term l =
    (slots : List ℕ) → Agrees l.self slots → objects_at slots (take l.term-index l.terms) ≡ l.row
