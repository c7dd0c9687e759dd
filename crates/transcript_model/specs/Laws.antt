-- Laws of the definitions. Each is the contract of a public function of `laws.rt`, and so is proved.
use Rattle.std.specs.Prelude.{◌≡◌, ℕ, ◌+◌, ◌<◌, ◌≤◌, ◌==◌, ◌↔◌, List, [], ◌∷◌, ◌++◌, map, length, take, true, not, ◌&&◌, ◌||◌, Some, slice_get, All, Contains}
use Rattle.std.specs.List.{flat_map}
use Rattle.task_model.specs.Fit.{IsFit}
use Rattle.task_model.specs.Known.{IsCoherent, IsIn, with_facts, with_values, with_names}
use Rattle.lemmas.specs.Lists.{AreDistinct}
use Rattle.task_model.specs.Streams.{certified_by, worth_by}
use Rattle.task_model.specs.declared.fact.Fact.{Fact}
use Rattle.task_model.specs.declared.stream.Instance.{Instance}
use Rattle.task_model.specs.declared.stream.Stream.{Stream}
use Rattle.task_model.specs.declared.task.Task.{Task}
use Rattle.task_model.specs.declared.task.Valued.{Valued}
use Rattle.transcript_model.specs.Legal.{IsLegal, MayFollow, asks_of, is_open, is_answer_to, is_mark}
use Rattle.transcript_model.specs.Names.{places_of, instance_of, call_of_instance}
use Rattle.transcript_model.specs.Transcript.{Asked, asked, known_with, notes_with, objects_in, names_of, known_of, notes_of, certified, told_value, note_of}
use Rattle.transcript_model.specs.declared.entry.Call.{Call}
use Rattle.transcript_model.specs.declared.entry.Entry.{Entry}
use Rattle.transcript_model.specs.declared.entry.Entry.TheVariants as entry

-- ---- names

-- In a table of distinct names these objects, and no others, have these names.
abbrev pub PlacesAreExact : Type 0
PlacesAreExact =
    (names more : List (List ℕ)) (objects : List ℕ) → AreDistinct names
    → (places_of names more ≡ Some objects) ↔ (map (slice_get names) objects ≡ map Some more)

-- The call that shows an instance stands for that instance, where its objects are in the table of names.
abbrev pub CallsNameInstances : Type 0
CallsNameInstances =
    (task : Task) (names : List (List ℕ)) (i : Instance) → IsFit task → AreDistinct names
    → i.stream < length task.streams → ((o : ℕ) → Contains i.inputs o → o < length names)
    → instance_of task names (call_of_instance task names i) ≡ Some i

-- ---- longer transcripts

-- Behind a transcript come more entries: its names keep their numbers, its requests their instances, and what it
-- certifies and notes stays in front.
pub record Continues (task : Task) (entries more : List Entry) : Type 0 where
  pub names : names_of task (entries ++ more) ≡ with_names (names_of task entries) (flat_map objects_in more)
  pub places : (object : ℕ) (name : List ℕ) → slice_get (names_of task entries) object ≡ Some name
      → slice_get (names_of task (entries ++ more)) object ≡ Some name
  pub requests : (n : ℕ) (a : Asked) → asked task entries n ≡ Some a
      → asked task (entries ++ more) n ≡ Some a
  pub facts : (known_of task (entries ++ more)).facts
      ≡ with_facts (known_of task entries).facts (flat_map (certified task (entries ++ more)) more)
  pub values : (known_of task (entries ++ more)).values
      ≡ with_values (known_of task entries).values (flat_map (told_value task (entries ++ more)) more)
  pub notes : notes_of task (entries ++ more) ≡ notes_of task entries ++ flat_map (note_of task (entries ++ more)) more

-- A longer transcript keeps the numbers of names, the requests, the facts, the values and the notes.
abbrev pub LongerKeeps : Type 0
LongerKeeps =
    (version : ℕ) (task : Task) (entries more : List Entry) → IsFit task → IsLegal version task entries
    → Continues task entries more

-- The front of a legal transcript is legal, and so is a legal transcript with one entry more that may follow.
pub record GrowsLegally (version : ℕ) (task : Task) (entries : List Entry) : Type 0 where
  pub front : (more : List Entry) → IsLegal version task (entries ++ more)
      → IsLegal version task entries
  pub next : (e : Entry) → IsLegal version task entries → MayFollow version task entries e
      → IsLegal version task (entries ++ e ∷ [])
  pub last : (e : Entry) → IsLegal version task (entries ++ e ∷ [])
      → MayFollow version task entries e

abbrev pub LegalGrows : Type 0
LegalGrows = (version : ℕ) (task : Task) (entries : List Entry) → GrowsLegally version task entries

-- ---- one entry more

-- nothing that was known, noted or asked changes
pub record ChangesNothing (task : Task) (before after : List Entry) : Type 0 where
  pub known : known_of task after ≡ known_of task before
  pub notes : notes_of task after ≡ notes_of task before

-- After a request it is open, and its number asks its instance.
pub record AddsRequest (task : Task) (before after : List Entry) (number : ℕ) (a : Asked) : Type 0 where
  pub same : ChangesNothing task before after
  pub asks : asks_of after ≡ asks_of before + 1
  pub here : asked task after number ≡ Some a
  pub others : (n : ℕ) → ¬ (n ≡ number) → asked task after n ≡ asked task before n
  pub waiting : (n : ℕ) → is_open after n ≡ (is_open before n || (n == number))

abbrev pub RequestsAddRequests : Type 0
RequestsAddRequests =
    (version : ℕ) (task : Task) (before : List Entry) (number turn : ℕ) (call : Call)
    (stream : Stream) (instance : Instance)
    → IsFit task → IsLegal version task before → MayFollow version task before (entry.Ask number turn call)
    → instance_of task (names_of task before) call ≡ Some instance
    → slice_get task.streams instance.stream ≡ Some stream
    → AddsRequest task before (before ++ entry.Ask number turn call ∷ []) number
    (record { stream = stream; instance = instance })

-- After an answer its request isn't open, and what it certifies and tells is behind what was known and noted.
pub record AddsAnswer (task : Task) (before : List Entry) (e : Entry) (number : ℕ) (a : Asked) : Type 0 where
  pub known : known_of task (before ++ e ∷ []) ≡ known_with task (known_of task before) a e
  pub notes : notes_of task (before ++ e ∷ []) ≡ notes_with (notes_of task before) a e
  pub asks : asks_of (before ++ e ∷ []) ≡ asks_of before
  pub requests : (n : ℕ) → asked task (before ++ e ∷ []) n ≡ asked task before n
  pub waiting : (n : ℕ) → is_open (before ++ e ∷ []) n ≡ (is_open before n && not (n == number))

abbrev pub AnswersAddAnswers : Type 0
AnswersAddAnswers =
    (version : ℕ) (task : Task) (before : List Entry) (e : Entry) (number : ℕ) (a : Asked) → IsFit task
    → IsLegal version task before → is_answer_to number e ≡ true → asked task before number ≡ Some a
    → AddsAnswer task before e number a

-- Any other entry changes nothing.
pub record AddsMark (task : Task) (before after : List Entry) : Type 0 where
  pub same : ChangesNothing task before after
  pub asks : asks_of after ≡ asks_of before
  pub requests : (n : ℕ) → asked task after n ≡ asked task before n
  pub waiting : (n : ℕ) → is_open after n ≡ is_open before n

abbrev pub MarksAddNothing : Type 0
MarksAddNothing =
    (version : ℕ) (task : Task) (before : List Entry) (e : Entry) → IsFit task → IsLegal version task before
    → is_mark e ≡ true → AddsMark task before (before ++ e ∷ [])

-- ---- legal transcripts

-- Each request of a legal transcript has a number of its own.
abbrev pub NumbersAreOwn : Type 0
NumbersAreOwn =
    (version : ℕ) (task : Task) (entries : List Entry) (j k number turn other : ℕ) (call again : Call)
    → IsLegal version task entries → slice_get entries j ≡ Some (entry.Ask number turn call)
    → slice_get entries k ≡ Some (entry.Ask number other again) → j ≡ k

-- Each request of a legal transcript asks an instance of a stream of the task.
abbrev pub RequestsAskInstances : Type 0
RequestsAskInstances =
    (version : ℕ) (task : Task) (entries : List Entry) (n : ℕ) → IsLegal version task entries → 0 < n
    → n < asks_of entries + 1 → (a : Asked) × (asked task entries n ≡ Some a)

-- No instance is asked twice after equally many tuples.
abbrev pub NoRequestIsMadeTwice : Type 0
NoRequestIsMadeTwice =
    (version : ℕ) (task : Task) (entries : List Entry) (j k n m turn : ℕ) (call again : Call) (i : Instance)
    → IsFit task → IsLegal version task entries → slice_get entries j ≡ Some (entry.Ask n turn call)
    → slice_get entries k ≡ Some (entry.Ask m turn again)
    → instance_of task (names_of task (take j entries)) call ≡ Some i
    → instance_of task (names_of task (take k entries)) again ≡ Some i → j ≡ k

-- An instance that was asked is of a stream of the task, and its inputs are as many as that has, in the table of names.
pub record IsAsked (task : Task) (names : List (List ℕ)) (a : Asked) : Type 0 where
  pub streamed : slice_get task.streams a.instance.stream ≡ Some a.stream
  pub many : length a.instance.inputs ≡ length a.stream.inputs
  pub named : All (IsIn names) a.instance.inputs

abbrev pub RequestsHaveNames : Type 0
RequestsHaveNames =
    (version : ℕ) (task : Task) (entries : List Entry) (n : ℕ) (a : Asked) → IsFit task → IsLegal version task entries
    → asked task entries n ≡ Some a → IsAsked task (names_of task entries) a

-- What a stream's answers certify is of objects in the table of names.
pub record CertifiesNamed (task : Task) (names : List (List ℕ)) (stream : Stream)
    (inputs outputs : List ℕ) : Type 0 where
  pub facts : All (λ (f : Fact). All (IsIn names) f.args) (certified_by task.domain stream inputs outputs)
  pub values : (value : ℕ)
      → All (λ (v : Valued). All (IsIn names) v.args) (worth_by stream inputs value)

abbrev pub CertifiedObjectsHaveNames : Type 0
CertifiedObjectsHaveNames =
    (task : Task) (names : List (List ℕ)) (place : ℕ) (stream : Stream) (inputs outputs : List ℕ) → IsFit task
    → slice_get task.streams place ≡ Some stream → length task.problem.objects ≤ length names
    → length inputs ≡ length stream.inputs → length outputs ≡ length stream.outputs → All (IsIn names) inputs
    → All (IsIn names) outputs → CertifiesNamed task names stream inputs outputs

-- What is known after a legal transcript is coherent: its names, facts and values stand once each, each object of a
-- fact has a name, and values are costs.
abbrev pub WhatIsKnownIsCoherent : Type 0
WhatIsKnownIsCoherent =
    (version : ℕ) (task : Task) (entries : List Entry) → IsFit task → IsLegal version task entries
    → IsCoherent (known_of task entries)
