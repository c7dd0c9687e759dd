-- What each of the three texts spells, and why it is refused.
use Rattle.std.specs.Prelude.{ℕ, List}
use Rattle.task_model.specs.declared.domain.Domain.{Domain}
use Rattle.task_model.specs.declared.stream.Stream.{Stream}
use Rattle.task_model.specs.declared.task.Problem.{Problem}
use Rattle.domain_reader.specs.Domains as domains
use Rattle.problem_reader.specs.Problems as problems
use Rattle.stream_reader.specs.Reading as streams
use Rattle.task_reader.specs.declared.refusal.FaultKind.{FaultKind}
use Rattle.task_reader.specs.Refusals.{IsRefused, SpellsTree}

-- the text is this domain
abbrev pub SpellsDomain : List ℕ → Domain → Type 0
SpellsDomain bytes d = SpellsTree bytes (λ t. domains.IsDomainRead t d)

-- the text is this problem over the domain
abbrev pub SpellsProblem : Domain → List ℕ → Problem → Type 0
SpellsProblem d bytes p = SpellsTree bytes (λ t. problems.IsProblemRead d t p)

-- the text is these streams over the domain
abbrev pub SpellsStreams : Domain → List ℕ → List Stream → Type 0
SpellsStreams d bytes ss = SpellsTree bytes (λ t. streams.AreRead d t ss)

-- the text is no domain, for this fault
abbrev pub RefusesDomain : List ℕ → FaultKind → ℕ → Type 0
RefusesDomain bytes kind place = IsRefused domains.IsDomainAnswered bytes kind place

-- the text is no problem over the domain, for this fault
abbrev pub RefusesProblem : Domain → List ℕ → FaultKind → ℕ → Type 0
RefusesProblem d bytes kind place = IsRefused (problems.IsProblemAnswered d) bytes kind place

-- the text is no streams over the domain, for this fault
abbrev pub RefusesStreams : Domain → List ℕ → FaultKind → ℕ → Type 0
RefusesStreams d bytes kind place = IsRefused (streams.AreStreamsAnswered d) bytes kind place
