-- The task that three texts spell, and which of them is refused: the first, in the order domain, problem, streams.
use Rattle.std.specs.Prelude.{ℕ, List}
use Rattle.task_model.specs.declared.domain.Domain.{Domain}
use Rattle.task_model.specs.declared.task.Problem.{Problem}
use Rattle.task_model.specs.declared.task.Task.{Task}
use Rattle.task_reader.specs.declared.refusal.FaultKind.{FaultKind}
use Rattle.task_reader.specs.Texts.{SpellsDomain, SpellsProblem, SpellsStreams, RefusesProblem, RefusesStreams}

-- The three texts are the task's parts, problem and streams over its domain.
pub record SpellsTask (domain_bytes problem_bytes stream_bytes : List ℕ) (task : Task) : Type 0 where
  pub domain : SpellsDomain domain_bytes task.domain
  pub problem : SpellsProblem task.domain problem_bytes task.problem
  pub streams : SpellsStreams task.domain stream_bytes task.streams

-- The first text is a domain, and over it the second is refused for this fault.
pub record RefusesSecond (domain_bytes problem_bytes : List ℕ) (kind : FaultKind) (place : ℕ) : Type 0 where
  pub domain : Domain
  pub first : SpellsDomain domain_bytes domain
  pub refused : RefusesProblem domain problem_bytes kind place

-- The first text is a domain, over it the second is a problem, and the third is refused for this fault.
pub record RefusesThird (domain_bytes problem_bytes stream_bytes : List ℕ) (kind : FaultKind) (place : ℕ) : Type 0 where
  pub domain : Domain
  pub first : SpellsDomain domain_bytes domain
  pub problem : Problem
  pub second : SpellsProblem domain problem_bytes problem
  pub refused : RefusesStreams domain stream_bytes kind place
