use Rattle.std.proofs.Common.{◌≡◌, [], take}
use Rattle.std.specs.List.{filter_map}
use Rattle.grounder.specs.Parts.{fluent_in, tops_of}
use Rattle.task_model.specs.Truth.{slots_of}
use Rattle.optimal_search.proofs.goal.goal_atoms.Given as goal

-- those of the parts so far
abbrev pub invariant-loop-part : goal.invariant-loop-part
invariant-loop-part l =
    l.atoms.items ≡ filter_map (fluent_in l.task.domain (slots_of [])) (take l.part-index (tops_of l.task.problem.goal))
