-- Graphs without cycles, and how far a search for a cycle has come.
use Rattle.std.specs.Prelude.{◌≡◌, ℕ, ◌+◌, ◌-◌, ◌<◌, ◌≤◌, List, [], ◌∷◌, Bool, true, length, slice_index}
use Rattle.lemmas.specs.Lists.{LeadsAlong}

-- no node is reached from itself
abbrev pub IsAcyclic : (ℕ → ℕ → Bool) → Type 0
IsAcyclic edge = (node : ℕ) (between : List ℕ) → ¬ (LeadsAlong edge node between node)

-- Each node has the place up to which its edges lead to nodes that are done. It is done itself where this
-- place is the size, and then it is on no cycle.
pub record IsSettled (edge : ℕ → ℕ → Bool) (size : ℕ) (next : List ℕ) : Type 0 where
  pub long : length next ≡ size
  pub within : (i : ℕ) → slice_index next i ≤ size
  pub passed : (i k : ℕ) → i < size → k < slice_index next i → edge i k ≡ true
      → size ≤ slice_index next k
  pub clear : (i : ℕ) → i < size → size ≤ slice_index next i → (between : List ℕ)
      → ¬ (LeadsAlong edge i between i)

-- each node that isn't done has an edge to one that isn't
abbrev pub IsStill : (ℕ → ℕ → Bool) → ℕ → List ℕ → Type 0
IsStill edge size next =
    (i : ℕ) → i < size → slice_index next i < size
    → (edge i (slice_index next i) ≡ true) × (slice_index next (slice_index next i) < size)

-- how many places the nodes may still move
abbrev pub work_left : ℕ → List ℕ → ℕ
work_left size [] = 0
work_left size (n ∷ ns) = (size - n) + work_left size ns
