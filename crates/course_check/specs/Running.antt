-- Dreams whose batches are run, as the code has them.
use Rattle.std.specs.Prelude.{◌≡◌, ℕ, ◌+◌, List, [], ◌++◌, length}
use Rattle.dream_asks.specs.Noting.{WereMade}
use Rattle.dream_asks.specs.Progress.{numbered}
use Rattle.dream_asks.specs.declared.asks.DreamAsk.{DreamAsk}
use Rattle.course_check.specs.declared.running.Running as stored
use Rattle.task_model.specs.Dreams as dreams
use Rattle.task_model.specs.Known.{Known}
use Rattle.task_model.specs.Streams.{Note}
use Rattle.task_model.specs.declared.task.Task.{Task}
use Rattle.transcript_model.specs.Dreaming.{Sent, next_sent, sent_instances}
use Rattle.transcript_model.specs.Transcript.{known_of, notes_of}
use Rattle.transcript_model.specs.declared.entry.Entry.{Entry}

-- The entries of a dream, before which so many objects were real; how many entries of the transcript
-- stand before its first batch, how many requests were made before, and what was asked of it.
pub record Run : Type 0 where
  pub entries : List dreams.SupposedEntry
  pub real : ℕ
  pub from : ℕ
  pub before : ℕ
  pub asks : List DreamAsk

abbrev pub nothing_run : Run
nothing_run = record { entries = []; real = 0; from = 0; before = 0; asks = [] }

abbrev pub run_of : stored.Running → Run
run_of r =
    record { entries = r.entries.items; real = r.real; from = r.from; before = r.before; asks = r.asks.items }

-- the dream's requests
abbrev pub sent_of : Run → List Sent
sent_of r = numbered (r.before + 1) r.asks

-- how many requests were made, with those of the dream
abbrev pub made_by : Run → ℕ
made_by r = r.before + length r.asks

-- these were asked of it besides
abbrev pub asking : Run → List DreamAsk → Run
asking r asks = record {
  entries = r.entries;
  real = r.real;
  from = r.from;
  before = r.before;
  asks = r.asks ++ asks;
}

-- In each transcript by which this is known and noted, with these entries behind the place before
-- the dream's first batch, among which its requests stand, these are asked next of it.
abbrev pub AreNextOf : Task → Known → List Note → Run → List Entry → List DreamAsk → Type 0
AreNextOf task known notes run behind asks =
    (version : ℕ) (before : List Entry) (number : ℕ)
    → WereMade version task before behind known.names (run.before + 1) (length run.asks)
    → known ≡ known_of task (before ++ behind) → notes ≡ notes_of task (before ++ behind)
    → numbered number asks
    ≡ next_sent task (before ++ behind) run.real (sent_of run) number (sent_instances (sent_of run)) run.entries
