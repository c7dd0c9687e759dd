-- Bounds by what is missing of the goal.
use Rattle.std.specs.Prelude.{ℕ, ◌+◌, ◌/◌, ◌%◌, zero, suc, min, max, List, [], ◌∷◌, length, Bool, not, count_by, if◌then◌else◌}
use Rattle.std.specs.List.{filter_map}
use Rattle.grounder.specs.Parts.{fluent_in, tops_of}
use Rattle.task_model.specs.State.{Atoms, contains, from_list, items}
use Rattle.task_model.specs.Truth.{slots_of}
use Rattle.task_model.specs.declared.domain.Action.{Action}
use Rattle.task_model.specs.declared.domain.CostTerm.{CostTerm}
use Rattle.task_model.specs.declared.domain.CostTerm.TheVariants.{Number, Value}
use Rattle.task_model.specs.declared.task.Task.{Task}

-- m divided by n and rounded up, and 0 where n is 0
abbrev pub up : ℕ → ℕ → ℕ
up m zero = 0
up m (suc n) = m / suc n + min 1 (m % suc n)

-- at most the largest number of 64 bits
abbrev pub cut : ℕ → ℕ
cut n = min n 18446744073709551615

-- the fluent atoms that are the goal, or stand at its top where it is made of parts that all have to be true
abbrev pub goal_atoms : Task → Atoms
goal_atoms task = from_list (filter_map (fluent_in task.domain (slots_of [])) (tops_of task.problem.goal))

-- how many of the members aren't there
abbrev pub lacking : {A : Type 0} → List A → (A → Bool) → ℕ
lacking goals there = count_by (λ a. not (there a)) goals

-- how many of the atoms the state lacks
abbrev pub missing : Atoms → Atoms → ℕ
missing goals state = lacking (items goals) (contains state)

-- the greatest number of adds of an action
abbrev pub widest : List Action → ℕ
widest [] = 0
widest (action ∷ actions) = max (length action.adds) (widest actions)

-- the number, if it is one
abbrev pub own_number : CostTerm → ℕ
own_number (Number n) = n
own_number (Value func args) = 0

-- the sum of the terms that are numbers
abbrev pub own_cost : List CostTerm → ℕ
own_cost [] = 0
own_cost (term ∷ terms) = own_number term + own_cost terms

-- the least such sum of an action, and no more than a step can cost
abbrev pub least_own : List Action → ℕ
least_own [] = 262144000000
least_own (action ∷ actions) = min (own_cost action.costs) (least_own actions)

-- what each step costs at least
abbrev pub least_cost : Task → ℕ
least_cost task = if task.problem.metric then least_own task.domain.actions else 1
