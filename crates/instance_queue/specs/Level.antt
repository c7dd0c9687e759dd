-- Which asks are due, with their turns, and when there are too many.
use Rattle.std.specs.Prelude.{◌≡◌, ◌≤◌, List, map, length, All}
use Rattle.task_model.specs.Known.{Known}
use Rattle.task_model.specs.Streams.{Note, AreDue, MoreAreDue, yields_of}
use Rattle.task_model.specs.declared.limits.TheConstants.{MOST_DUE}
use Rattle.task_model.specs.declared.stream.Instance.{Instance}
use Rattle.task_model.specs.declared.task.Task.{Task}
use Rattle.instance_queue.specs.declared.due.Due.{Due}
use Rattle.instance_queue.specs.declared.due.QueueFault.{QueueFault}
use Rattle.instance_queue.specs.declared.due.QueueFault.TheVariants.{TooManyInstances, Memory}

abbrev pub due_instances : List Due → List Instance
due_instances = map (λ (d : Due). d.instance)

-- All asks that are due, in their order, each with the number of tuples that its instance has given.
pub record AreDueInTurn (task : Task) (known : Known) (notes : List Note) (dues : List Due) : Type 0 where
  pub due : AreDue task known notes (due_instances dues)
  pub turns : All (λ (d : Due). d.turn ≡ yields_of notes d.instance) dues
  pub few : length dues ≤ MOST_DUE

-- what is true where there is no list
abbrev pub HasLevelCause : Task → Known → List Note → QueueFault → Type 0
HasLevelCause task known notes TooManyInstances = MoreAreDue MOST_DUE task known notes
HasLevelCause task known notes Memory = Unit {0}
