-- Laws of what is asked of dreams. Each is the contract of a public function of `laws.rt`.
use Rattle.std.specs.Prelude.{◌≡◌, ℕ, ◌≤◌, List, [], ◌++◌, false}
use Rattle.dream_asks.specs.First.{first_instances}
use Rattle.lemmas.specs.Lists.{AreDistinct}
use Rattle.task_model.specs.Dreams as dreams
use Rattle.task_model.specs.Fit.{IsFit}
use Rattle.task_model.specs.declared.task.Task.{Task}
use Rattle.transcript_model.specs.Dreaming.{Sent, first_tuple, next_sent, sent_instances}
use Rattle.transcript_model.specs.Legal.{IsLegal, asks_of, is_open}
use Rattle.transcript_model.specs.Transcript.{known_of, notes_of}
use Rattle.transcript_model.specs.declared.entry.Entry.{Entry}

-- Where no instance has two entries, what is asked first of a dream is what the turns of a mode ask first: nothing was
-- asked of it yet, so no placeholder stands for a value, and no two entries have become one instance.
abbrev pub FirstAsksAreSentFirst : Type 0
FirstAsksAreSentFirst =
    (task : Task) (before : List Entry) (real number : ℕ) (entries : List dreams.SupposedEntry)
    → AreDistinct (dreams.instances_of entries)
    → sent_instances (next_sent task before real [] number [] entries)
    ≡ first_instances task (known_of task before) (notes_of task before) real entries

-- What an answered request gave stays where a transcript grows.
abbrev pub ValuesStay : Type 0
ValuesStay =
    (version : ℕ) (task : Task) (before more : List Entry) (s : Sent) → IsFit task
    → IsLegal version task (before ++ more) → s.number ≤ asks_of before → is_open before s.number ≡ false
    → first_tuple task (before ++ more) s ≡ first_tuple task before s
