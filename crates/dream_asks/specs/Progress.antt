-- How far a dream has come: what was asked of it, and which objects stand for its placeholders.
use Rattle.std.specs.Prelude.{◌≡◌, ℕ, ◌+◌, ◌≤◌, ◌∷◌, nat_eq, nat_lt, List, [], All, Option, None, Some, if◌then◌else◌}
use Rattle.std.specs.Map.{lookup}
use Rattle.std.specs.Option.{option_map, option_and_then, option_or}
use Rattle.dream_asks.specs.declared.asks.DreamAsk.{DreamAsk}
use Rattle.task_model.specs.declared.stream.Instance.{Instance}
use Rattle.task_model.specs.declared.task.Task.{Task}
use Rattle.transcript_model.specs.Dreaming.{Sent, first_tuple, paired, sent_instances}
use Rattle.transcript_model.specs.Legal.{asks_of}
use Rattle.transcript_model.specs.declared.entry.Entry.{Entry}

-- So many objects were real before the dream. These instances were asked of it, and these objects came for
-- placeholders: pairs of a placeholder and its object.
pub record Progress : Type 0 where
  pub real : ℕ
  pub taken : List Instance
  pub values : List (ℕ × ℕ)

-- the object that came for a placeholder
abbrev pub got : Progress → ℕ → Option ℕ
got p object = lookup (nat_eq object) p.values

-- ---- what stands for the objects of a dream

-- an object that was real is itself
abbrev pub itself : ℕ → ℕ → Option ℕ
itself real object = if nat_lt object real then Some object else None

-- the object that stands for an object of the dream: what came for it, or itself
abbrev pub stands : Progress → ℕ → Option ℕ
stands p object = option_or (got p object) (itself p.real object)

abbrev pub all_stand : Progress → List ℕ → Option (List ℕ)
all_stand p [] = Some []
all_stand p (o ∷ os) =
    option_and_then (λ object. option_map (λ objects. object ∷ objects) (all_stand p os)) (stands p o)

-- the instance that an entry's has become, where an object stands for each of its inputs
abbrev pub became : Progress → Instance → Option Instance
became p i = option_map (λ inputs. record { stream = i.stream; inputs = inputs }) (all_stand p i.inputs)

-- ---- what the requests of a dream gave

-- the object that the first of these requests gave for a placeholder
abbrev pub came : Task → List Entry → List Sent → ℕ → Option ℕ
came task entries [] object = None
came task entries (s ∷ sent) object =
    option_or (option_and_then (λ objects. paired s.outputs objects object) (first_tuple task entries s))
    (came task entries sent object)

-- These requests were made of the dream in the transcript, and what came is what they gave.
pub record IsProgress (task : Task) (entries : List Entry) (p : Progress) (sent : List Sent) : Type 0 where
  pub taken : p.taken ≡ sent_instances sent
  pub made : All (λ (s : Sent). s.number ≤ asks_of entries) sent
  pub values : (object : ℕ) → got p object ≡ came task entries sent object

-- the requests of these asks, with numbers from this one on
abbrev pub numbered : ℕ → List DreamAsk → List Sent
numbered number [] = []
numbered number (a ∷ asks) =
    record { number = number; instance = a.instance; outputs = a.outputs } ∷ numbered (number + 1) asks
