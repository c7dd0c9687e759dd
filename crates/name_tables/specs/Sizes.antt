-- How large trees are.
use Rattle.std.specs.Prelude.{◌≤◌}
use Rattle.sexpr_text.specs.Trees.{Trees, depth, size}

-- A tree as texts of at most 2^22 bytes give it: no larger than such a text, and with at most 64 lists in one another.
pub record IsBoundedTree (t : Trees) : Type 0 where
  pub small : size t ≤ 4194304
  pub shallow : depth t ≤ 64
