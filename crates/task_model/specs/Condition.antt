-- A condition as plain data, and when it holds.
use Rattle.std.specs.Prelude.{ℕ, ◌+◌, List, [], ◌∷◌}
use Rattle.task_model.specs.declared.condition.Term.{Term}

mutual
  -- an atom, an equation of terms, all of, any of, not, or some objects of given types
  pub data Condition : Type 0 where
    Atom : (pred : ℕ) (args : List Term) → Condition
    Equal : (first second : Term) → Condition
    All : (parts : Conditions) → Condition
    Any : (parts : Conditions) → Condition
    Not : (part : Condition) → Condition
    Exists : (first : ℕ) (sorts : List ℕ) (body : Condition) → Condition

  -- parts, one after another
  pub data Conditions : Type 0 where
    none : Conditions
    more : (part : Condition) (parts : Conditions) → Conditions

abbrev pub parts_of : List Condition → Conditions
parts_of [] = none
parts_of (c ∷ cs) = more c (parts_of cs)

-- the number of its parts, itself among them
abbrev mutual
  pub size_of : Condition → ℕ
  size_of (Atom pred args) = 1
  size_of (Equal s t) = 1
  size_of (All parts) = sizes_of parts + 1
  size_of (Any parts) = sizes_of parts + 1
  size_of (Not part) = size_of part + 1
  size_of (Exists first sorts body) = size_of body + 1

  pub sizes_of : Conditions → ℕ
  sizes_of none = 0
  sizes_of (more part parts) = size_of part + sizes_of parts
