-- What is kept of children.
use Rattle.std.specs.Prelude.{ℕ, List, Bool, false, slice_get, unwrap_or}

-- For each child the bytes that were read and not yet taken as lines, and whether it was started.
pub record Held : Type 0 where
  pub buffers : List (List ℕ)
  pub started : List Bool

-- the child was started
abbrev pub is_child_running : Held → ℕ → Bool
is_child_running held child = unwrap_or (slice_get held.started child) false
