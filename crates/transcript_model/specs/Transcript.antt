-- What a transcript says: its requests, what their answers certify, and what each instance was told.
use Rattle.std.specs.Prelude.{ℕ, zero, suc, ◌==◌, List, [], ◌∷◌, ◌++◌, map, length, take, drop, replicate, Option, None, Some, slice_get, unwrap_or, if◌then◌else◌}
use Rattle.std.specs.List.{flat_map}
use Rattle.std.specs.Option.{option_map, option_and_then, option_or, option_map_or}
use Rattle.task_model.specs.Initial.{declared_names, initial_known}
use Rattle.task_model.specs.Known.{Known, with_facts, with_values, with_names}
use Rattle.task_model.specs.Streams.{Note, Yielded, Ended, certified_by, worth_by}
use Rattle.task_model.specs.declared.fact.Fact.{Fact}
use Rattle.task_model.specs.declared.stream.Instance.{Instance}
use Rattle.task_model.specs.declared.stream.Stream.{Stream}
use Rattle.task_model.specs.declared.task.Task.{Task}
use Rattle.task_model.specs.declared.task.Valued.{Valued}
use Rattle.transcript_model.specs.Names.{generated, places_of, instance_of}
use Rattle.transcript_model.specs.declared.entry.Call.{Call}
use Rattle.transcript_model.specs.declared.entry.Entry.{Entry}
use Rattle.transcript_model.specs.declared.entry.Entry.TheVariants as entry

-- ---- names

-- the names of the objects that an entry brings
abbrev pub objects_in : Entry → List (List ℕ)
objects_in (entry.Got number tuples values) = map generated values
objects_in e = []

-- the table of names: the declared objects, and then the generated ones in the order in which they come
abbrev pub names_of : Task → List Entry → List (List ℕ)
names_of task entries = with_names (declared_names task) (flat_map objects_in entries)

-- ---- requests

-- the call of the request, if it has this number
abbrev pub call_in : ℕ → Entry → Option Call
call_in n (entry.Ask number turn call) = if n == number then Some call else None
call_in n e = None

-- the call of the first request of this number
abbrev pub call_of : List Entry → ℕ → Option Call
call_of [] n = None
call_of (e ∷ entries) n = option_or (call_in n e) (call_of entries n)

-- what was asked: an instance, with its stream
pub record Asked : Type 0 where
  pub stream : Stream
  pub instance : Instance

-- the instance, if its stream is the task's
abbrev pub asked_of : Task → Instance → Option Asked
asked_of task i = option_map (λ stream. record { stream = stream; instance = i }) (slice_get task.streams i.stream)

-- what the request of this number asks
abbrev pub asked : Task → List Entry → ℕ → Option Asked
asked task entries n =
    option_and_then (asked_of task) (option_and_then (instance_of task (names_of task entries)) (call_of entries n))

-- ---- what answers certify

-- the values, cut into so many tuples of this width
abbrev pub tuples_in : ℕ → ℕ → List (List ℕ) → List (List (List ℕ))
tuples_in width zero values = []
tuples_in width (suc tuples) values = take width values ∷ tuples_in width tuples (drop width values)

-- what a tuple of values certifies, where objects have these names
abbrev pub tuple_facts : Task → List (List ℕ) → Asked → List (List ℕ) → List Fact
tuple_facts task names a tuple =
    certified_by task.domain a.stream a.instance.inputs (unwrap_or (places_of names (map generated tuple)) [])

-- what a yield of so many tuples certifies
abbrev pub yield_facts : Task → List (List ℕ) → Asked → ℕ → List (List ℕ) → List Fact
yield_facts task names a tuples values =
    flat_map (tuple_facts task names a) (tuples_in (length a.stream.outputs) tuples values)

module _ (task : Task) (entries : List Entry) where
  -- what an entry certifies
  abbrev pub certified : Entry → List Fact
  certified (entry.Got n tuples values) =
      option_map_or (λ a. yield_facts task (names_of task entries) a tuples values) (asked task entries n) []
  certified e = []

  -- the value that an entry gives a function term
  abbrev pub told_value : Entry → List Valued
  told_value (entry.Value n value) =
      option_map_or (λ (a : Asked). worth_by a.stream a.instance.inputs value) (asked task entries n) []
  told_value e = []

  -- what an entry tells an instance
  abbrev pub note_of : Entry → List Note
  note_of (entry.Got n tuples values) =
      option_map_or (λ (a : Asked). replicate tuples (Yielded a.instance)) (asked task entries n) []
  note_of (entry.Value n value) =
      option_map_or (λ (a : Asked). Ended a.instance ∷ []) (asked task entries n) []
  note_of (entry.End n) =
      option_map_or (λ (a : Asked). Ended a.instance ∷ []) (asked task entries n) []
  note_of e = []

-- what the instances were told, in order
abbrev pub notes_of : Task → List Entry → List Note
notes_of task entries = flat_map (note_of task entries) entries

-- what is known after the transcript: what is known at first, and what the answers certify
abbrev pub known_of : Task → List Entry → Known
known_of task entries =
    record {
      names = names_of task entries;
      facts = with_facts (initial_known task).facts (flat_map (certified task entries) entries);
      values = with_values (initial_known task).values (flat_map (told_value task entries) entries);
    }

-- ---- one answer more

-- what is known after an answer to this request
abbrev pub known_with : Task → Known → Asked → Entry → Known
known_with task known a (entry.Got n tuples values) =
    let names = with_names known.names (map generated values) in
    record {
      names = names;
      facts = with_facts known.facts (yield_facts task names a tuples values);
      values = known.values;
    }
known_with task known a (entry.Value n value) = record {
  names = known.names;
  facts = known.facts;
  values = with_values known.values (worth_by a.stream a.instance.inputs value);
}
known_with task known a e = known

-- what is noted after an answer to this request
abbrev pub notes_with : List Note → Asked → Entry → List Note
notes_with notes a (entry.Got n tuples values) = notes ++ replicate tuples (Yielded a.instance)
notes_with notes a (entry.Value n value) = notes ++ Ended a.instance ∷ []
notes_with notes a (entry.End n) = notes ++ Ended a.instance ∷ []
notes_with notes a e = notes
