-- What is kept of the entries so far.
use Rattle.lemmas.specs.Lists.{has_number}
use Rattle.std.specs.Prelude.{◌≡◌, ℕ, ◌+◌, ◌-◌, ◌≤◌, List, length, Bool, false, count_by, Option, Some, None, slice_get}
use Rattle.std.specs.List.{list_any}
use Rattle.task_model.specs.Fit.{IsFit}
use Rattle.task_model.specs.Streams.{same_instance}
use Rattle.task_model.specs.declared.stream.Instance.{Instance}
use Rattle.task_model.specs.declared.task.Task.{Task}
use Rattle.transcript_model.specs.Legal.{IsLegal, asks_of, is_open, is_answer}
use Rattle.transcript_model.specs.Transcript.{known_of, notes_of}
use Rattle.transcript_model.specs.declared.entry.Entry.{Entry}
use Rattle.learning.specs.Learning.{Asks}
use Rattle.learning.specs.declared.knowledge.Knowledge.{Knowledge}

-- the request of this number asked the instance
abbrev pub asked_it : List Instance → Instance → ℕ → Bool
asked_it asked i n = of (slice_get asked (n - 1))
  where
    of : Option Instance → Bool
    of (Some other) = same_instance other i
    of None = false

-- one of these requests asked the instance
abbrev pub is_waiting : List Instance → List ℕ → Instance → Bool
is_waiting asked numbers i = list_any (asked_it asked i) numbers

-- The transcript is legal. What it certifies and tells is known and noted, the instances that it asked stand in order,
-- and the numbers of its requests that have no answer are kept.
pub record IsKnowledge (version : ℕ) (task : Task) (entries : List Entry) (l : Knowledge) : Type 0 where
  pub fit : IsFit task
  pub legal : IsLegal version task entries
  pub known : l.facts.known ≡ known_of task entries
  pub notes : l.queue ≡ notes_of task entries
  pub counted : length l.asked.items ≡ asks_of entries
  pub asks : (k : ℕ) (i : Instance) → slice_get l.asked.items k ≡ Some i
      → Asks task entries (k + 1) i
  pub unanswered : (n : ℕ) → has_number l.unanswered.items n ≡ is_open entries n
  pub answered : count_by is_answer entries + length l.unanswered.items ≤ asks_of entries
