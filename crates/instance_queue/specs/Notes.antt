-- The notes that a queue keeps, and what they say of each instance.
use Rattle.std.specs.Prelude.{◌≡◌, ◌<◌, List, [], map, length, get_or, All, Bool, true, false, Option, None, Some}
use Rattle.std.specs.List.{list_any}
use Rattle.indexmap.specs.IndexMap.{IndexMap, get}
use Rattle.task_model.specs.Streams.{Note, Yielded, Ended, same_instance, yields_of, is_end_of}
use Rattle.task_model.specs.declared.stream.Instance.{Instance}
use Rattle.instance_queue.specs.declared.queue.Noted.{Noted}
use Rattle.instance_queue.specs.declared.queue.Tally.{Tally}

-- where no instance stands
abbrev pub no_instance : Instance
no_instance = record { stream = 0; inputs = [] }

abbrev pub note_of : Bool → Instance → Note
note_of true instance = Ended instance
note_of false instance = Yielded instance

-- the note of the instance at its place
abbrev pub note_held : List Instance → Noted → Note
note_held instances noted = note_of noted.ended (get_or instances noted.place no_instance)

abbrev pub notes_in : List Instance → List Noted → List Note
notes_in instances = map (note_held instances)

-- each of the notes has the place of an instance
abbrev pub ArePlaced : List Instance → List Noted → Type 0
ArePlaced instances = All (λ (noted : Noted). noted.place < length instances)

-- how many tuples the instance gave, and whether it ended
abbrev pub tally_of : List Note → Instance → Tally
tally_of notes instance =
    record { yields = yields_of notes instance; ended = list_any (is_end_of instance) notes }

-- the tally that was found; what was never noted gave nothing
abbrev pub tally_in : Option Tally → Tally
tally_in (Some tally) = tally
tally_in None = record { yields = 0; ended = false }

-- the table has each instance's tally
abbrev pub AreTallied : {S : Type 0} → IndexMap Instance Tally S → List Note → Type 0
AreTallied tallies notes =
    (i : Instance) → tally_in (get same_instance tallies i) ≡ tally_of notes i
