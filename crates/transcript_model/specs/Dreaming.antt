-- The entries of a dream: what is supposed after a transcript, how it is shown, and which entries may be asked.
use Rattle.std.specs.Prelude.{◌≡◌, ℕ, ◌+◌, ◌<◌, ◌⊎◌, ◌==◌, nat_lt, List, [], ◌∷◌, map, length, take, false, not, ◌&&◌, Option, None, Some, slice_get, Contains, if◌then◌else◌}
use Rattle.std.specs.List.{list_any, filter_map}
use Rattle.std.specs.Option.{option_map, option_and_then, option_or, option_map_or}
use Rattle.task_model.specs.Dreams as dreams
use Rattle.task_model.specs.Dreams.{AreSupposed, IsDream, HasNoDream, supposing, instances_of}
use Rattle.task_model.specs.Known.{Known}
use Rattle.lemmas.specs.Lists.{AreDistinct}
use Rattle.task_model.specs.Streams.{Note, IsDue, is_due, same_instance}
use Rattle.task_model.specs.declared.limits.TheConstants.{MOST_SUPPOSED}
use Rattle.task_model.specs.declared.stream.Instance.{Instance}
use Rattle.task_model.specs.declared.task.GroundAction.{GroundAction}
use Rattle.task_model.specs.declared.task.Task.{Task}
use Rattle.transcript_model.specs.Calls.{call_of_step}
use Rattle.transcript_model.specs.Names.{call_of_instance, generated, places_of}
use Rattle.transcript_model.specs.Rounds.{Limits}
use Rattle.transcript_model.specs.Transcript.{names_of, known_of, notes_of}
use Rattle.transcript_model.specs.declared.entry.Call.{Call}
use Rattle.transcript_model.specs.declared.entry.DreamUse.{DreamUse}
use Rattle.transcript_model.specs.declared.entry.Entry.{Entry}
use Rattle.transcript_model.specs.declared.entry.Entry.TheVariants as entry

-- ---- dreams after a transcript

-- More than so many entries are supposed: by a list that comes before the last pass, and the instances that the next
-- pass adds.
pub record MoreAreSupposed (most : ℕ) (task : Task) (known : Known) (notes : List Note)
    (tried : List Instance) (depth : ℕ) : Type 0 where
  pub passes : ℕ
  pub early : passes < depth
  pub list : List dreams.SupposedEntry
  pub supposed : AreSupposed task known notes tried passes list
  pub next : List Instance
  pub distinct : AreDistinct next
  pub due : (i : Instance) → Contains next i → IsDue task (supposing task known list list) notes i
  pub new : (i : Instance) → Contains next i
      → (list_any (same_instance i) tried ≡ false) × (list_any (same_instance i) (instances_of list) ≡ false)
  pub many : most < length list + length next

module _ (limits : Limits) (task : Task) (before : List Entry) (tried : List Instance) where
  -- the supposed entries after the transcript
  abbrev pub AreSupposedAfter : List dreams.SupposedEntry → Type 0
  AreSupposedAfter list =
      AreSupposed task (known_of task before) (notes_of task before) tried limits.depth list

  -- no plan rests on what is supposed after the transcript
  abbrev pub HasNoDreamAfter : Type 0
  HasNoDreamAfter =
      MoreAreSupposed MOST_SUPPOSED task (known_of task before) (notes_of task before) tried limits.depth
      ⊎ ((list : List dreams.SupposedEntry) × AreSupposedAfter list
      × HasNoDream task (known_of task before) list limits.states)

  -- A dream after the transcript, as it is shown: the places of its entries in the list, from 1, and its steps, where
  -- the outputs of the list's entries have their placeholders' names.
  pub record IsDreamAfter (uses : List DreamUse) (steps : List Call) (entries : List dreams.SupposedEntry) : Type 0 where
    pub list : List dreams.SupposedEntry
    pub supposed : AreSupposedAfter list
    pub plan : List GroundAction
    pub dream : IsDream task (known_of task before) list entries plan
    pub numbers : map (λ (u : DreamUse). u.number) uses ≡ map (λ place. place + 1) dream.places
    pub calls : map (λ (u : DreamUse). u.call) uses
        ≡ map (call_of_instance task (supposing task (known_of task before) list list).names) (instances_of entries)
    pub shown : steps ≡ map (call_of_step task (supposing task (known_of task before) list list).names) plan

-- ---- entries that become real

-- an entry that was asked: the request's number, its instance, and the placeholders of its outputs
pub record Sent : Type 0 where
  pub number : ℕ
  pub instance : Instance
  pub outputs : List ℕ

-- the objects of the first tuple, if the entry is a yield that answers this request
abbrev pub tuple_in : Task → List Entry → ℕ → ℕ → Entry → Option (List ℕ)
tuple_in task entries n width (entry.Got number tuples values) =
    if n == number then places_of (names_of task entries) (map generated (take width values)) else None
tuple_in task entries n width e = None

-- the objects that this request's answer gave for its entry's placeholders
abbrev pub first_tuple : Task → List Entry → Sent → Option (List ℕ)
first_tuple task entries s =
    slice_get (filter_map (tuple_in task entries s.number (length s.outputs)) entries) 0

-- the object in the place of this placeholder
abbrev pub paired : List ℕ → List ℕ → ℕ → Option ℕ
paired (output ∷ outputs) (object ∷ objects) placeholder =
    if output == placeholder then Some object else paired outputs objects placeholder
paired [] objects placeholder = None
paired (output ∷ outputs) [] placeholder = None

module _ (task : Task) (entries : List Entry) (real : ℕ) where
  -- the object that stands for an object of the dream, before which so many objects were real
  abbrev pub replaced : List Sent → ℕ → Option ℕ
  replaced [] object = if nat_lt object real then Some object else None
  replaced (s ∷ sent) object =
      option_or (option_and_then (λ objects. paired s.outputs objects object) (first_tuple task entries s))
      (replaced sent object)

  abbrev pub all_replaced : List Sent → List ℕ → Option (List ℕ)
  all_replaced sent [] = Some []
  all_replaced sent (o ∷ os) =
      option_and_then (λ object. option_map (λ objects. object ∷ objects) (all_replaced sent os)) (replaced sent o)

  -- the instance that an entry has become, where all its inputs are real
  abbrev pub become : List Sent → dreams.SupposedEntry → Option Instance
  become sent e =
      option_map (λ inputs. record { stream = e.instance.stream; inputs = inputs })
      (all_replaced sent e.instance.inputs)

  -- the instance that an entry has become, if that is due and none of these
  abbrev pub ready_instance : List Sent → List Instance → dreams.SupposedEntry → Option Instance
  ready_instance sent taken e =
      option_and_then (λ i.
      if is_due task (known_of task entries) (notes_of task entries) i && not (list_any (same_instance i) taken)
      then Some i else None) (become sent e)

  -- The entries that are asked next, with numbers from this one on: in order those that have become instances that are
  -- due and weren't asked in this dream. Of several that have become one instance it is the first.
  abbrev pub next_sent : List Sent → ℕ → List Instance → List dreams.SupposedEntry → List Sent
  next_sent sent number taken [] = []
  next_sent sent number taken (e ∷ es) =
      option_map_or (λ i. record { number = number; instance = i; outputs = e.outputs }
      ∷ next_sent sent (number + 1) (i ∷ taken) es) (ready_instance sent taken e) (next_sent sent number taken es)

abbrev pub sent_instances : List Sent → List Instance
sent_instances sent = map (λ (s : Sent). s.instance) sent
