-- Stream instances: what they certify, and when they may be asked (PDDLStream 2020; the order of asks,
-- and what finishes an instance, are this project's).
use Rattle.std.specs.Prelude.{◌≡◌, ℕ, ◌<◌, List, [], ◌∷◌, ◌++◌, map, length, Bool, true, false, not, ◌&&◌, ◌||◌, ◌==◌, Option, None, Some, is_none, slice_get, unwrap_or, Contains, count_by, ◌↔◌}
use Rattle.std.specs.List.{list_any, list_all}
use Rattle.std.specs.Ordering.{ordering_then, nat_cmp}
use Rattle.std.specs.Cmp.Lexicographic.{slice_cmp}
use Rattle.std.specs.declared.cmp.Ordering.{Ordering}
use Rattle.task_model.specs.Initial.{type_facts}
use Rattle.task_model.specs.Known.{Known, is_fact, same_numbers, atom_fact}
use Rattle.lemmas.specs.Lists.{AreDistinct, AreAscending}
use Rattle.task_model.specs.Truth.{have_types, objects_at, slots_of}
use Rattle.task_model.specs.declared.domain.Domain.{Domain}
use Rattle.task_model.specs.declared.domain.Pattern.{Pattern}
use Rattle.task_model.specs.declared.fact.Fact.{Fact}
use Rattle.task_model.specs.declared.stream.Instance.{Instance}
use Rattle.task_model.specs.declared.stream.Stream.{Stream}
use Rattle.task_model.specs.declared.stream.Worth.{Worth}
use Rattle.task_model.specs.declared.task.Task.{Task}
use Rattle.task_model.specs.declared.task.Valued.{Valued}

-- ---- what an answer certifies

-- the pattern's atom, as a fact, where the slots have these objects
abbrev pub fact_of : List ℕ → Pattern → Fact
fact_of slots pattern = atom_fact pattern.pred (objects_at slots pattern.args)

-- that each output has its type, with all supertypes
abbrev pub output_types : Domain → List ℕ → List ℕ → List Fact
output_types domain (sort ∷ sorts) (object ∷ objects) =
    type_facts domain sort object ++ output_types domain sorts objects
output_types domain [] objects = []
output_types domain (sort ∷ sorts) [] = []

-- what one yield certifies: the types of the outputs, and the stream's certified atoms
abbrev pub certified_by : Domain → Stream → List ℕ → List ℕ → List Fact
certified_by domain stream inputs outputs =
    output_types domain stream.outputs outputs ++ map (fact_of (slots_of (inputs ++ outputs))) stream.certified

-- the value that a cost stream's answer gives its function term; other streams give none
abbrev pub worth_by : Stream → List ℕ → ℕ → List Valued
worth_by stream inputs value = of stream.worth
  where
    of : Option Worth → List Valued
    of (Some worth) = record { func = worth.func; args = objects_at (slots_of inputs) worth.args; value = value } ∷ []
    of None = []

-- ---- what an instance was told

-- that an instance gave a tuple of outputs, or that it ended, with a value or without
pub data Note : Type 0 where
  Yielded : (instance : Instance) → Note
  Ended : (instance : Instance) → Note

-- whether two instances are one
abbrev pub same_instance : Instance → Instance → Bool
same_instance a b = (a.stream == b.stream) && same_numbers a.inputs b.inputs

-- whether the note says that the instance yielded
abbrev pub is_yield_of : Instance → Note → Bool
is_yield_of instance (Yielded other) = same_instance instance other
is_yield_of instance (Ended other) = false

-- whether the note says that the instance ended
abbrev pub is_end_of : Instance → Note → Bool
is_end_of instance (Ended other) = same_instance instance other
is_end_of instance (Yielded other) = false

-- how many tuples the instance has given
abbrev pub yields_of : List Note → Instance → ℕ
yields_of notes instance = count_by (is_yield_of instance) notes

abbrev pub is_empty : {A : Type 0} → List A → Bool
is_empty [] = true
is_empty (x ∷ xs) = false

-- a stream that can only say yes, and that once: it has no outputs and gives no value
abbrev pub is_test : Stream → Bool
is_test stream = is_empty stream.outputs && is_none stream.worth

-- it has ended, or it is one of a test and has yielded
abbrev pub is_finished : Stream → List Note → Instance → Bool
is_finished stream notes instance =
    list_any (is_end_of instance) notes || (is_test stream && list_any (is_yield_of instance) notes)

-- ---- which instances may be asked

-- its inputs have their types, and its domain facts are known
abbrev pub is_reachable : Stream → Known → Instance → Bool
is_reachable stream known instance =
    have_types known instance.inputs stream.inputs
    && list_all (λ p. is_fact known.facts (fact_of (slots_of instance.inputs) p)) stream.domain

-- what is said of the task's stream at this place, and something else where it has none there
abbrev pub at_stream : {A : Type 0} → Task → ℕ → A → (Stream → A) → A
at_stream {A} task place other said = of (slice_get task.streams place)
  where
    of : Option Stream → A
    of (Some stream) = said stream
    of None = other

-- the instance is reachable and hasn't finished, where it is one of this stream
abbrev pub is_due_at : Known → List Note → Stream → Instance → Bool
is_due_at known notes stream instance =
    is_reachable stream known instance && not (is_finished stream notes instance)

-- the instance is of a stream of the task, is reachable and hasn't finished
abbrev pub is_due : Task → Known → List Note → Instance → Bool
is_due task known notes instance =
    at_stream task instance.stream false (λ stream. is_due_at known notes stream instance)

-- `is_due` with the stream that it speaks of: the instance is of a stream of the task, is reachable and hasn't finished
pub record IsDue (task : Task) (known : Known) (notes : List Note) (instance : Instance) : Type 0 where
  pub stream : Stream
  pub named : slice_get task.streams instance.stream ≡ Some stream
  pub reachable : is_reachable stream known instance ≡ true
  pub unfinished : is_finished stream notes instance ≡ false

-- the name of an object, by its place
abbrev pub name_at : List (List ℕ) → ℕ → List ℕ
name_at names object = unwrap_or (slice_get names object) []

-- by the stream's place, and then by the inputs, name by name and byte by byte
abbrev pub instance_cmp : List (List ℕ) → Instance → Instance → Ordering
instance_cmp names a b =
    ordering_then (nat_cmp a.stream b.stream)
    (slice_cmp (slice_cmp nat_cmp) (map (name_at names) a.inputs) (map (name_at names) b.inputs))

-- all that are due, in this order
pub record AreDue (task : Task) (known : Known) (notes : List Note) (instances : List Instance) : Type 0 where
  pub each : (i : Instance) → Contains instances i ↔ IsDue task known notes i
  pub ascend : AreAscending (instance_cmp known.names) instances

-- no instance is due
abbrev pub NothingIsDue : Task → Known → List Note → Type 0
NothingIsDue task known notes = (i : Instance) → ¬ (IsDue task known notes i)

-- more than so many instances are due
abbrev pub MoreAreDue : ℕ → Task → Known → List Note → Type 0
MoreAreDue most task known notes =
    (instances : List Instance) × (most < length instances) × AreDistinct instances
    × ((i : Instance) → Contains instances i → IsDue task known notes i)
