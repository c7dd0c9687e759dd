-- When there is no list of entries.
use Rattle.std.specs.Prelude.{ℕ, List}
use Rattle.fact_join.specs.declared.query.JoinFault.{JoinFault}
use Rattle.fact_join.specs.declared.query.JoinFault.TheVariants as join
use Rattle.task_model.specs.Known.{Known}
use Rattle.task_model.specs.Streams.{Note}
use Rattle.task_model.specs.declared.limits.TheConstants.{MOST_SUPPOSED}
use Rattle.task_model.specs.declared.stream.Instance.{Instance}
use Rattle.task_model.specs.declared.task.Task.{Task}
use Rattle.transcript_model.specs.Dreaming.{MoreAreSupposed}
use Rattle.optimistic_set.specs.declared.fault.OptimisticFault.{OptimisticFault}
use Rattle.optimistic_set.specs.declared.fault.OptimisticFault.TheVariants.{TooManyEntries, Memory}

-- the faults of a join as faults of a list
abbrev pub optimistic_fault : JoinFault → OptimisticFault
optimistic_fault join.TooMany = TooManyEntries
optimistic_fault join.Memory = Memory

-- what is true where there is no list
abbrev pub HasListCause : Task → Known → List Note → List Instance → ℕ → OptimisticFault → Type 0
HasListCause task known notes tried depth TooManyEntries = MoreAreSupposed MOST_SUPPOSED task known notes tried depth
HasListCause task known notes tried depth Memory = Unit {0}
