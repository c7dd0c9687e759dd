-- Which instances are found: those that are reachable and sought.
use Rattle.std.specs.Prelude.{◌≡◌, ◌<◌, ℕ, List, Bool, ◌&&◌, ◌++◌, map, true, Some, slice_get, Contains, ◌↔◌}
use Rattle.fact_join.specs.Adding.{AreAll}
use Rattle.fact_join.specs.declared.query.QueryAtom.{QueryAtom}
use Rattle.lemmas.specs.Lists.{AreAscending}
use Rattle.task_model.specs.Known.{Known}
use Rattle.task_model.specs.Streams.{is_reachable, instance_cmp}
use Rattle.task_model.specs.declared.domain.Pattern.{Pattern}
use Rattle.task_model.specs.declared.stream.Instance.{Instance}
use Rattle.task_model.specs.declared.stream.Stream.{Stream}
use Rattle.task_model.specs.declared.task.Task.{Task}

-- which instances are sought, each with its stream
abbrev pub Seeks : Type 0
Seeks = Stream → Instance → Bool

-- The instance is of a stream of the task, is reachable, and is sought.
pub record IsFound (task : Task) (known : Known) (seeks : Stream → Instance → Bool) (instance : Instance) : Type 0 where
  pub stream : Stream
  pub named : slice_get task.streams instance.stream ≡ Some stream
  pub reachable : is_reachable stream known instance ≡ true
  pub sought : seeks stream instance ≡ true

-- All of these, in the order of asks.
pub record AreFound (task : Task) (known : Known) (seeks : Stream → Instance → Bool)
    (instances : List Instance) : Type 0 where
  pub each : (i : Instance) → Contains instances i ↔ IsFound task known seeks i
  pub ascend : AreAscending (instance_cmp known.names) instances

-- ---- one stream

abbrev pub instance_at : ℕ → List ℕ → Instance
instance_at place inputs = record { stream = place; inputs = inputs }

abbrev pub pattern_of_query : QueryAtom → Pattern
pattern_of_query atom = record { pred = atom.pred; args = atom.terms.now }

-- these are the atoms of its domain
abbrev pub AreDomainAtoms : Stream → List QueryAtom → Type 0
AreDomainAtoms stream atoms = map pattern_of_query atoms ≡ stream.domain

-- the instance of this stream is reachable and sought
abbrev pub is_sought_at : Known → Seeks → Stream → Instance → Bool
is_sought_at known seeks stream instance = is_reachable stream known instance && seeks stream instance

-- its instance with these inputs is
abbrev pub IsSoughtInput : Known → Seeks → Stream → ℕ → List ℕ → Type 0
IsSoughtInput known seeks stream place inputs =
    is_sought_at known seeks stream (instance_at place inputs) ≡ true

-- behind the old instances stand those of all inputs with which they are sought, each once
abbrev pub AddsInstances : Known → Seeks → Stream → ℕ → List Instance → List Instance → Type 0
AddsInstances known seeks stream place old new =
    (rows : List (List ℕ)) × (new ≡ old ++ map (instance_at place) rows)
    × AreAll (IsSoughtInput known seeks stream place) rows

-- ---- the first streams

-- the instance is of one of the first streams, so many, and is reachable and sought
abbrev pub IsSoughtBelow : List Stream → Known → Seeks → ℕ → Instance → Type 0
IsSoughtBelow streams known seeks count instance =
    (instance.stream < count) × (stream : Stream) × (slice_get streams instance.stream ≡ Some stream)
    × (is_sought_at known seeks stream instance ≡ true)
