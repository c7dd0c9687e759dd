-- What a run solves: the task that files spell, or the grid task of a number, which is made and then solved alike.
use Rattle.std.specs.Prelude.{ℕ, false, List, [], ◌∷◌, ◌++◌, codes, Option, None, Some}
use Rattle.std.specs.Fmt.{decimal}
use Rattle.command_line.specs.Words.{Command, SolveWords, generate, solve}
use Rattle.command_line.specs.declared.number.TheConstants.{DEFAULT_CALLS, DEFAULT_DEPTH, DEFAULT_STATES}
use Rattle.grid_text.specs.Tasks.{grid_task}
use Rattle.grid_text.specs.declared.task.GridTask.{GridTask}
use Rattle.io_world.specs.FileMap.{FileMap, StoredFile, map_or_empty}
use Rattle.transcript_model.specs.declared.head.Mode.TheVariants.{Incremental}
use Rattle.transcript_model.specs.declared.outcome.LimitKind.{LimitKind}
use Rattle.transcript_model.specs.declared.outcome.LimitKind.TheVariants as limit
use Rattle.transcript_model.specs.declared.outcome.Outcome.{Outcome}
use Rattle.transcript_model.specs.declared.outcome.Outcome.TheVariants as outcome
use Rattle.command_files.specs.Outside.{FilesSeen, unread}

-- a task that is to be solved, or the grid task of a number, which is to be made and solved
pub data Work : Type 0 where
  solving : SolveWords → Work
  making : ℕ → Work

-- the command that asks for it
abbrev pub command_for : Work → Command
command_for (solving w) = solve w
command_for (making n) = generate n

-- The words with which the task of a number is solved: the grid's generator answers all streams, in incremental mode
-- and within the limits that stand where words name none.
abbrev pub made_words : SolveWords
made_words = record {
  files = record { domain = codes "domain"; problem = codes "problem"; streams = codes "streams" };
  path = None;
  program = codes "@grid" ∷ codes "grid" ∷ [];
  workers = 1;
  mode = Incremental;
  limits = record { calls = DEFAULT_CALLS; states = DEFAULT_STATES; depth = DEFAULT_DEPTH };
  protocol = 1;
  optimal = false;
  restarts = 0;
}

abbrev pub file_with : List ℕ → List ℕ → StoredFile
file_with path bytes = record { path = path; bytes = bytes }

-- the four texts of a task under the paths of these words
abbrev pub stored_task : GridTask → List StoredFile
stored_task task =
    file_with (codes "domain") task.domain ∷ file_with (codes "problem") task.problem
    ∷ file_with (codes "streams") task.streams ∷ file_with (codes "grid") task.grid ∷ []

-- the texts of the task of a number, as files; another path has an empty text
abbrev pub made_files : ℕ → FileMap
made_files n = map_or_empty (stored_task (grid_task n))

-- what the files of the task of a number tell: their texts, and no fault
abbrev pub seen_made : ℕ → FilesSeen
seen_made number = unread (Some (made_files number)) 0 None

-- the words of the work
abbrev pub words_of_work : Work → SolveWords
words_of_work (solving w) = w
words_of_work (making n) = made_words

-- the files that it reads: those that are told, or those that are made
abbrev pub files_of : Option FileMap → Work → Option FileMap
files_of told (solving w) = told
files_of told (making n) = Some (made_files n)

-- ---- what `generate` prints

abbrev pub limit_status_word : LimitKind → List ℕ
limit_status_word limit.Calls = codes "limit-calls"
limit_status_word limit.States = codes "limit-states"
limit_status_word limit.Instances = codes "limit-instances"

abbrev pub outcome_word : Outcome → List ℕ
outcome_word (outcome.Plan steps cost from) = codes "plan"
outcome_word outcome.NoPlan = codes "no-plan"
outcome_word (outcome.Limit kind) = limit_status_word kind

-- the line on the task of a number: its outcome, and how many levels and requests the transcript has
abbrev pub made_line : ℕ → Outcome → (levels asks : ℕ) → List ℕ
made_line n o levels asks =
    codes "generate " ++ decimal n ++ codes " " ++ outcome_word o ++ codes " levels " ++ decimal levels
    ++ codes " asks " ++ decimal asks ++ codes "\n"
