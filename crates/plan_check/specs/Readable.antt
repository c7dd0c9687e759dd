-- Patterns and cost terms that can be read. Those of a fit task can.
use Rattle.std.specs.Prelude.{List, length, Bool, ◌&&◌, nat_le}
use Rattle.std.specs.List.{list_all}
use Rattle.task_model.specs.declared.domain.CostTerm.{CostTerm}
use Rattle.task_model.specs.declared.domain.CostTerm.TheVariants.{Number, Value}
use Rattle.task_model.specs.declared.domain.Pattern.{Pattern}
use Rattle.task_model.specs.declared.condition.Term.{Term}
use Rattle.task_model.specs.declared.limits.TheConstants.{LARGEST_NUMBER}
use Rattle.formula_eval.specs.Readable.{is_readable_term}

-- at most eight arguments, whose slots are below sixteen
abbrev pub are_readable_args : List Term → Bool
are_readable_args args = nat_le (length args) 8 && list_all is_readable_term args

abbrev pub is_readable_pattern : Pattern → Bool
is_readable_pattern p = are_readable_args p.args

-- a number of at most 1,000,000, or a function term that can be read
abbrev pub is_readable_cost : CostTerm → Bool
is_readable_cost (Number n) = nat_le n LARGEST_NUMBER
is_readable_cost (Value func args) = are_readable_args args
