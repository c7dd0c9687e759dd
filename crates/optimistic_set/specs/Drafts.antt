-- Lists of entries that are being written.
use Rattle.std.specs.Prelude.{◌≡◌, ℕ, ◌-◌, ◌≤◌, List, [], ◌∷◌, ◌++◌, length, take, Bool, not, ◌&&◌, All, Some, slice_get}
use Rattle.std.specs.List.{list_any, flat_map}
use Rattle.fact_join.specs.Adding.{Exceeds}
use Rattle.instance_search.specs.Found.{IsFound}
use Rattle.task_model.specs.Dreams.{SupposedEntry, entry_facts, entry_values, entry_names, instances_of, supposing, HasFreshOutputs}
use Rattle.task_model.specs.Known.{Known, IsIn, with_facts, with_values}
use Rattle.task_model.specs.Streams.{Note, is_finished, same_instance}
use Rattle.task_model.specs.declared.limits.TheConstants.{MOST_SUPPOSED}
use Rattle.task_model.specs.declared.stream.Instance.{Instance}
use Rattle.task_model.specs.declared.stream.Stream.{Stream}
use Rattle.task_model.specs.declared.task.Task.{Task}
use Rattle.optimistic_set.specs.Entries.{IsPlainEntry}
use Rattle.optimistic_set.specs.declared.draft.Draft.{Draft}
use Rattle.optimistic_set.specs.declared.fault.OptimisticFault.{OptimisticFault}
use Rattle.optimistic_set.specs.declared.fault.OptimisticFault.TheVariants.{TooManyEntries, Memory}

-- What is written is what the entries say.
pub record IsDraft (task : Task) (known : Known) (draft : Draft) : Type 0 where
  pub base : draft.facts.now.known ≡ known
  pub names : draft.names.items ≡ entry_names 1 draft.entries.items
  pub facts : known.facts ++ draft.more.facts ≡ with_facts known.facts (flat_map (entry_facts task) draft.entries.items)
  pub values : known.values ++ draft.more.values
      ≡ with_values known.values (flat_map (entry_values task) draft.entries.items)
  pub asked : draft.asked ≡ instances_of draft.entries.items
  pub few : length draft.entries.items ≤ MOST_SUPPOSED
  pub plain : (k : ℕ) (e : SupposedEntry) → slice_get draft.entries.items k ≡ Some e
      → IsPlainEntry task (known.names ++ draft.names.items) e

-- ---- one entry more

-- The instance is one of a stream of the task, with as many inputs, which have names.
pub record IsPlainInstance (task : Task) (names : List (List ℕ)) (i : Instance) : Type 0 where
  pub stream : Stream
  pub named : slice_get task.streams i.stream ≡ Some stream
  pub inputs : length i.inputs ≡ length stream.inputs
  pub given : All (IsIn names) i.inputs

abbrev pub ArePlainInstances : Task → List (List ℕ) → List Instance → Type 0
ArePlainInstances task names instances =
    (k : ℕ) (i : Instance) → slice_get instances k ≡ Some i → IsPlainInstance task names i

-- the instance's entry, with placeholders of its own, is behind the others
abbrev pub IsPushed : Task → Known → Instance → List SupposedEntry → List SupposedEntry → Type 0
IsPushed task known instance old new =
    (e : SupposedEntry) × (new ≡ old ++ e ∷ []) × (e.instance ≡ instance) × HasFreshOutputs task known old e

-- so are those of the instances
pub record AddsEntries (task : Task) (known : Known) (old new : List SupposedEntry) (instances : List Instance) : Type 0 where
  pub more : List SupposedEntry
  pub added : new ≡ old ++ more
  pub same : instances_of more ≡ instances
  pub fresh : (k : ℕ) (e : SupposedEntry) → slice_get more k ≡ Some e
      → HasFreshOutputs task known (old ++ take k more) e

-- ---- a pass

-- an instance that hasn't finished, wasn't tried and has no entry
abbrev pub seeks_new : List Note → List Instance → List Instance → Stream → Instance → Bool
seeks_new notes tried old stream instance =
    not (is_finished stream notes instance)
    && (not (list_any (same_instance instance) tried) && not (list_any (same_instance instance) old))

-- what is true where a pass came to no end: there are more instances than 20,000 entries leave room for
abbrev pub LacksPass : Task → Known → List Note → List Instance → List SupposedEntry → OptimisticFault → Type 0
LacksPass task known notes tried old TooManyEntries =
    Exceeds (MOST_SUPPOSED - length old)
    (IsFound task (supposing task known old old) (seeks_new notes tried (instances_of old))) []
LacksPass task known notes tried old Memory = Unit {0}
