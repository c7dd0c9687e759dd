-- Worked examples of the definitions, each computed.
use Rattle.std.specs.Prelude.{◌≡◌, List, [], ◌∷◌, codes, true, false, None, Some}
use Rattle.gen_lines.specs.Reply.{yields, ends}
use Rattle.task_model.specs.Dreams as dreams
use Rattle.task_model.specs.Examples as examples
use Rattle.task_model.specs.Known.{type_fact, atom_fact}
use Rattle.task_model.specs.Streams.{Yielded, Ended}
use Rattle.task_model.specs.declared.stream.Instance.{Instance}
use Rattle.task_model.specs.declared.task.Task.{Task}
use Rattle.transcript_model.specs.Dreaming.{Sent, next_sent}
use Rattle.transcript_model.specs.Legal.{asks_of, is_open}
use Rattle.transcript_model.specs.Names.{call_of_instance}
use Rattle.transcript_model.specs.Outcomes.{has_value, tuple_with}
use Rattle.transcript_model.specs.Tables.{reply_in, answers_to}
use Rattle.transcript_model.specs.Rounds.{fits}
use Rattle.transcript_model.specs.Transcript.{asked, names_of, known_of, notes_of}
use Rattle.transcript_model.specs.declared.entry.Call.{Call}
use Rattle.transcript_model.specs.declared.entry.Entry.{Entry}
use Rattle.transcript_model.specs.declared.entry.Entry.TheVariants as entry

-- one block, `cup`, and streams that look for blocks, that test one, and that give a price
abbrev pub priced_task : Task
priced_task =
    record examples.task { streams = examples.looking ∷ examples.testing ∷ examples.pricing ∷ [] }

abbrev pub look_at_cup : Call
look_at_cup = record { name = codes "look"; args = codes "cup" ∷ [] }

abbrev pub ask_price : Call
ask_price = record { name = codes "price"; args = [] }

abbrev pub price : Instance
price = record { stream = 2; inputs = [] }

-- the block is looked at until no more comes, and then the price is asked
abbrev pub looked : List Entry
looked = entry.Level ∷ entry.Ask 1 0 look_at_cup ∷ entry.Got 1 1 (codes "v" ∷ []) ∷ []

abbrev pub entries : List Entry
entries = entry.Level ∷ entry.Ask 1 0 look_at_cup ∷ entry.Got 1 1 (codes "v" ∷ []) ∷ entry.Ask 2 1 look_at_cup
    ∷ entry.End 2 ∷ entry.Ask 3 0 ask_price ∷ entry.Value 3 7 ∷ []

-- a yield of two equal tuples
abbrev pub twice : List Entry
twice = entry.Ask 1 0 look_at_cup ∷ entry.Got 1 2 (codes "v" ∷ codes "v" ∷ []) ∷ []

-- a dream: the cup is looked at, and what comes is tested
abbrev pub look_and_test : List dreams.SupposedEntry
look_and_test = record { instance = examples.call 0; outputs = 1 ∷ [] }
    ∷ record { instance = record { stream = 1; inputs = 1 ∷ [] }; outputs = [] } ∷ []

abbrev pub look_sent : Sent
look_sent = record { number = 1; instance = examples.call 0; outputs = 1 ∷ [] }

pub record TranscriptExamples : Type 0 where
  -- a generated object comes behind the declared ones, once
  pub names : names_of priced_task entries ≡ codes "cup" ∷ codes "#v" ∷ []
  pub once : names_of priced_task twice ≡ codes "cup" ∷ codes "#v" ∷ []
  -- what the yield certifies comes behind what is known at first
  pub facts : (known_of priced_task entries).facts
      ≡ type_fact 1 0 ∷ type_fact 0 0 ∷ type_fact 1 1 ∷ type_fact 0 1 ∷ atom_fact 1 (1 ∷ []) ∷ []
  pub values : (known_of priced_task entries).values ≡ examples.worth 7 ∷ []
  -- each tuple is noted, and an end and a value both end an instance
  pub notes : notes_of priced_task entries ≡ Yielded (examples.call 0) ∷ Ended (examples.call 0) ∷ Ended price ∷ []
  pub both : notes_of priced_task twice ≡ Yielded (examples.call 0) ∷ Yielded (examples.call 0) ∷ []
  -- a request asks its instance, and is open until it is answered
  pub request : asked priced_task entries 2 ≡ Some (record { stream = examples.looking; instance = examples.call 0 })
  pub none : asked priced_task entries 4 ≡ None
  pub count : asks_of entries ≡ 3
  pub waits : is_open (entry.Ask 1 0 look_at_cup ∷ []) 1 ≡ true
  pub answered : is_open entries 1 ≡ false
  pub shown : call_of_instance priced_task (names_of priced_task entries) (record { stream = 1; inputs = 1 ∷ [] })
      ≡ record { name = codes "test"; args = codes "#v" ∷ [] }
  -- of a dream the entry with real inputs is asked first, and then the one that has become real
  pub first : next_sent priced_task (entry.Level ∷ []) 1 [] 1 [] look_and_test ≡ look_sent ∷ []
  pub next : next_sent priced_task looked 1 (look_sent ∷ []) 2 (examples.call 0 ∷ []) look_and_test
      ≡ record { number = 2; instance = record { stream = 1; inputs = 1 ∷ [] }; outputs = [] } ∷ []
  -- a pool of two workers takes two requests, but not three
  pub two : fits (record { workers = 2; streams = 0 ∷ [] } ∷ []) (examples.call 0 ∷ examples.call 1 ∷ []) ≡ true
  pub three : fits (record { workers = 2; streams = 0 ∷ [] } ∷ [])
      (examples.call 0 ∷ examples.call 1 ∷ examples.call 2 ∷ [])
      ≡ false
  -- a value came from the request whose answer has it, and from the first tuple that has it
  pub came : has_value entries 1 (codes "v") ≡ true
  pub not_later : has_value entries 3 (codes "v") ≡ false
  pub tuple : tuple_with (codes "w") 1 (entry.Got 1 2 (codes "v" ∷ codes "w" ∷ [])) ≡ Some 2
  -- a table answers by its first row, and without one that nothing more comes
  pub row : reply_in (record { call = ask_price; turn = 0; reply = ends }
      ∷ record { call = look_at_cup; turn = 0; reply = yields 1 (codes "v" ∷ []) } ∷ []) look_at_cup 0
      ≡ yields 1 (codes "v" ∷ [])
  pub no_row : reply_in [] look_at_cup 0 ≡ ends
  pub answers : answers_to (reply_in []) (entry.Ask 1 0 look_at_cup ∷ []) ≡ entry.End 1 ∷ []
