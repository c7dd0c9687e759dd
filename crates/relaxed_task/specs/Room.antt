-- The room of a relaxed task.
use Rattle.std.specs.Prelude.{ℕ, ◌+◌, ◌≤◌, length}
use Rattle.relaxed_task.specs.declared.costs.Costs.{Costs}
use Rattle.relaxed_task.specs.declared.lists.Lists.{Lists}
use Rattle.relaxed_task.specs.declared.rules.TheConstants.{MOST_PARTS}
use Rattle.relaxed_task.specs.declared.task.RelaxedTask.{RelaxedTask}

-- how many rows there are, with the numbers in them
abbrev pub size_of : Lists → ℕ
size_of lists = length lists.spans.items + length lists.items.items

-- how many facts there are with the conditions that they meet, and rules with their effects
abbrev pub part_count : Costs → ℕ
part_count costs = size_of costs.needed_by + size_of costs.gives

-- There are no more of them than there is room for.
pub record HasRoom (relaxed : RelaxedTask) : Type 0 where
  pub parts : part_count relaxed.costs ≤ MOST_PARTS
