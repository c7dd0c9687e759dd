-- One list that stands alone is there.
use Rattle.std.proofs.Common.{◌≡◌}
use Rattle.sexpr_text.specs.declared.tree.Tree.{Tree}
use Rattle.sexpr_text.specs.Trees.{nothing, tree}

pub tree_there : (t : Tree) → tree t ≡ nothing → ⊥
tree_there t e = absurd (cc)
