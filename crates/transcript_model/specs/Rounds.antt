-- Rounds and batches: which requests are made at once, and in which order they are answered.
use Rattle.std.specs.Prelude.{◌≡◌, ℕ, zero, suc, ◌+◌, ◌-◌, ◌<◌, ◌==◌, List, [], ◌∷◌, ◌++◌, map, length, take, count_by, Bool, true, false, nat_le}
use Rattle.std.specs.List.{list_any, list_all}
use Rattle.task_model.specs.Streams.{yields_of}
use Rattle.task_model.specs.declared.stream.Instance.{Instance}
use Rattle.task_model.specs.declared.task.Task.{Task}
use Rattle.transcript_model.specs.Legal.{asks_of, is_answer_to}
use Rattle.transcript_model.specs.Names.{call_of_instance}
use Rattle.transcript_model.specs.Transcript.{names_of, notes_of}
use Rattle.transcript_model.specs.declared.entry.Entry.{Entry}
use Rattle.transcript_model.specs.declared.entry.Entry.TheVariants as entry
use Rattle.transcript_model.specs.declared.head.Head.{Head}
use Rattle.transcript_model.specs.declared.head.Mode.{Mode}
use Rattle.transcript_model.specs.declared.head.Pool as pools

-- ---- what a run is bound by

-- so many workers answer for these streams
pub record Share : Type 0 where
  pub workers : ℕ
  pub streams : List ℕ

-- The version of the protocol, the mode, the most calls, the most states of a search, how deep entries are supposed,
-- and the pools.
pub record Limits : Type 0 where
  pub version : ℕ
  pub mode : Mode
  pub calls : ℕ
  pub states : ℕ
  pub depth : ℕ
  pub pools : List Share

abbrev pub share_of : pools.Pool → Share
share_of pool = record { workers = pool.workers; streams = pool.streams }

abbrev pub limits_of : Head → Limits
limits_of head = record {
  version = head.version;
  mode = head.mode;
  calls = head.calls;
  states = head.states;
  depth = head.depth;
  pools = map share_of head.pools;
}

-- ---- rounds

abbrev pub serves : Share → Instance → Bool
serves pool i = list_any (λ s. s == i.stream) pool.streams

-- no pool has more of these instances than workers
abbrev pub fits : List Share → List Instance → Bool
fits pools round = list_all (λ (p : Share). nat_le (count_by (serves p) round) p.workers) pools

-- with the next one the round wouldn't fit
abbrev pub IsFull : List Share → List Instance → List Instance → Type 0
IsFull pools round [] = Unit {0}
IsFull pools round (next ∷ later) = fits pools (round ++ next ∷ []) ≡ false

-- The list is cut again and again into its longest front that fits.
abbrev pub AreRounds : List Share → List Instance → List (List Instance) → Type 0
AreRounds pools list [] = list ≡ []
AreRounds pools list (round ∷ rounds) =
    (rest : List Instance) × (list ≡ round ++ rest) × (0 < length round) × (fits pools round ≡ true)
    × IsFull pools round rest × AreRounds pools rest rounds

-- ---- the entries of a round

-- the requests for these instances after a transcript, the first of which has this number
abbrev pub requests_from : Task → List Entry → ℕ → List Instance → List Entry
requests_from task before number [] = []
requests_from task before number (i ∷ is) =
    entry.Ask number (yields_of (notes_of task before) i) (call_of_instance task (names_of task before) i)
    ∷ requests_from task before (number + 1) is

-- the requests for these instances after a transcript
abbrev pub requests : Task → List Entry → List Instance → List Entry
requests task before round = requests_from task before (asks_of before + 1) round

-- an answer to each of so many requests from this number on, in their order
abbrev pub AreAnswers : ℕ → ℕ → List Entry → Type 0
AreAnswers number zero [] = Unit {0}
AreAnswers number (suc n) (e ∷ es) = (is_answer_to number e ≡ true) × AreAnswers (number + 1) n es
AreAnswers number zero (e ∷ es) = ⊥
AreAnswers number (suc n) [] = ⊥

-- all requests of the round, and then their answers
abbrev pub IsRound : Task → List Entry → List Instance → List Entry → Type 0
IsRound task before round entries =
    (answers : List Entry) × (entries ≡ requests task before round ++ answers)
    × AreAnswers (asks_of before + 1) (length round) answers

-- one round after another
abbrev pub AreRoundsRun : Task → List Entry → List (List Instance) → List Entry → Type 0
AreRoundsRun task before [] entries = entries ≡ []
AreRoundsRun task before (round ∷ rounds) entries =
    (now : List Entry) × (rest : List Entry) × (entries ≡ now ++ rest) × IsRound task before round now
    × AreRoundsRun task (before ++ now) rounds rest

-- ---- batches

-- how many more requests may be made
abbrev pub calls_left : Limits → List Entry → ℕ
calls_left limits before = limits.calls - asks_of before

-- The requests of the list, as far as calls are left, are made in rounds.
pub record IsBatch (limits : Limits) (task : Task) (before : List Entry) (list : List Instance)
    (entries : List Entry) : Type 0 where
  pub rounds : List (List Instance)
  pub cut : AreRounds limits.pools (take (calls_left limits before) list) rounds
  pub run : AreRoundsRun task before rounds entries
