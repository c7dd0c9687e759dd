-- A part of a condition is smaller than the condition.
use Rattle.std.specs.Prelude.{◌≤◌}
use Rattle.std.proofs.Common.{arith}
use Rattle.task_model.specs.Condition.{size_of}
use Rattle.task_model.specs.View.{view_of, most_le_sizes}
use Rattle.task_model.specs.declared.condition.FormulaNode.{FormulaNode}
use Rattle.task_model.specs.declared.condition.FormulaNode.TheVariants as node
use Rattle.task_model.specs.declared.condition.Formula.TheDeep.{deep-FormulaNode}

pub deep_le_size : (n : FormulaNode) → deep-FormulaNode n ≤ size_of (view_of n)
deep_le_size (node.Atom pred args) = omega arith
deep_le_size (node.Equal s t) = omega arith
deep_le_size (node.All parts) = omega (arith, most_le_sizes parts.items)
deep_le_size (node.Any parts) = omega (arith, most_le_sizes parts.items)
deep_le_size (node.Not part) = omega arith
deep_le_size (node.Exists first sorts body) = omega arith
