-- What is reached from a number tells whether it is on a cycle.
use Rattle.std.proofs.Common.{◌≡◌, ℕ, Bool, true, false, List, sym}
use Rattle.name_tables.specs.Graphs.{AreReached, IsCyclic}
use Rattle.lemmas.specs.Lists.{has_number}

pub cyclic_by : (edges : List (List ℕ)) (n : ℕ) (reached : List ℕ) (b : Bool)
    → AreReached edges n reached → b ≡ has_number reached n → IsCyclic edges n b
cyclic_by edges n reached true r e = r.only n (sym e)
cyclic_by edges n reached false r e =
    λ w. let h : has_number reached n ≡ true = r.all n w.between w.steps in cc
