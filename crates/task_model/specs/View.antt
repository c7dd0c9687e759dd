-- What contracts see of a condition of the program.
use Rattle.std.specs.Prelude.{◌+◌, ◌≤◌, List, [], ◌∷◌}
use Rattle.std.proofs.Common.{arith}
use denote.Param.Weighed.{most}
use Rattle.task_model.specs.Condition.{Condition, parts_of, size_of, sizes_of}
use Rattle.task_model.specs.Condition as plain
use Rattle.task_model.specs.declared.condition.FormulaNode.{FormulaNode}
use Rattle.task_model.specs.declared.condition.FormulaNode.TheVariants as node

-- what contracts see of a formula of the program
abbrev pub view_of : FormulaNode → Condition
view_of (node.Atom pred args) = plain.Atom pred args
view_of (node.Equal s t) = plain.Equal s t
view_of (node.All parts) = plain.All (parts_of parts.items)
view_of (node.Any parts) = plain.Any (parts_of parts.items)
view_of (node.Not part) = plain.Not part.value
view_of (node.Exists first sorts body) = plain.Exists first sorts body.value

pub most_le_sizes : (parts : List Condition)
    → most (λ k. size_of k + 1) parts ≤ sizes_of (parts_of parts) + 1
most_le_sizes [] = omega arith
most_le_sizes (part ∷ parts) = omega (arith, most_le_sizes parts)
