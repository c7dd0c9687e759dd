-- The least of numbers of which there may be none, and of the values of each term.
use Rattle.std.specs.Prelude.{◌≡◌, ℕ, ◌≤◌, Bool, ◌&&◌, ◌==◌, List, length, take, min, Option, None, Some}
use Rattle.indexmap.specs.IndexMap.{IndexMap, get}
use Rattle.task_model.specs.Known.{same_numbers, value_of}
use Rattle.task_model.specs.declared.task.Valued.{Valued}

abbrev pub lesser_of : Option ℕ → ℕ → ℕ
lesser_of None n = n
lesser_of (Some m) n = min m n

-- a function with its arguments
abbrev pub Term : Type 0
Term = ℕ × List ℕ

abbrev pub same_term : Term → Term → Bool
same_term a b = (a.0 == b.0) && same_numbers a.1 b.1

-- what was noted of a term
abbrev pub least_in : {S : Type 0} → IndexMap Term ℕ S → Term → Option ℕ
least_in least q = get same_term least q

-- Of the first `done` values the least of each term is noted.
pub record HasLeast {S : Type 0} (values : List Valued) (table : IndexMap Term ℕ S) (done : ℕ) : Type 0 where
  pub within : done ≤ length values
  pub least : (q : Term) → least_in table q ≡ value_of (take done values) q.0 q.1
