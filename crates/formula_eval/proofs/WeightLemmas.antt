-- How much work a condition is: a measure for the judge of truth.
use Rattle.std.proofs.Common.{◌≡◌, ℕ, zero, suc, ◌+◌, ◌<◌, ◌≤◌, List, [], ◌∷◌, length, get_or, arith, ap}
use Rattle.task_model.specs.Condition.{Condition, Conditions, Atom, Equal, All as every, Any, Not, Exists, none, more, parts_of}
use Rattle.task_model.specs.declared.domain.Derived.{Derived}

abbrev mutual
  pub weight : Condition → ℕ
  weight (Atom pred args) = 1
  weight (Equal s t) = 1
  weight (every parts) = weights parts + 1
  weight (Any parts) = weights parts + 1
  weight (Not part) = weight part + 1
  weight (Exists first sorts body) = weight body + length sorts + 1

  pub weights : Conditions → ℕ
  weights none = 0
  weights (more part parts) = weight part + weights parts

-- more than any item's body weighs
abbrev pub items_weight : List Derived → ℕ
items_weight [] = 1
items_weight (d ∷ ds) = weight d.body + items_weight ds

pub part_lighter : (cs : List Condition) (i : ℕ) (c : Condition) → i < length cs → c ≡ get_or cs i c
    → weight c ≤ weights (parts_of cs)
part_lighter [] i c h e = absurd (omega arith)
part_lighter (x ∷ xs) zero c h e = omega (arith, ap weight e)
part_lighter (x ∷ xs) (suc i) c h e = omega (arith, part_lighter xs i c (omega arith) e)

pub body_lighter : (ds : List Derived) (i : ℕ) (d : Derived) → i < length ds → d ≡ get_or ds i d
    → weight d.body < items_weight ds
body_lighter [] i d h e = absurd (omega arith)
body_lighter (x ∷ xs) zero d h e = omega (arith, ap (λ (y : Derived). weight y.body) e, positive xs)
  where
    positive : (ds : List Derived) → 0 < items_weight ds
    positive [] = omega arith
    positive (y ∷ ys) = omega (arith, positive ys)
body_lighter (x ∷ xs) (suc i) d h e = omega (arith, body_lighter xs i d (omega arith) e)
