-- Laws of runs whose children answer by the grid. Each is the contract of a public function of `grids.rt`, and so is
-- proved.
use Rattle.std.specs.Prelude.{◌≡◌, ℕ, ◌<◌, List, Some}
use Rattle.command_line.specs.Words.{command_of, generate}
use Rattle.laws.specs.Grid.{HasGridStreams}
use Rattle.grid_play.specs.Replies.{grid_replies}
use Rattle.laws.specs.GridRuns.{AreGridAnswers, AreGridTalks, IsGridTable, PrintsPlain}
use Rattle.grid_text.specs.Files.{IsGridOf}
use Rattle.grid_text.specs.Grids.{GridFile}
use Rattle.grid_text.specs.Tasks.{grid_task}
use Rattle.grid_world.specs.Sessions.{SessionState, talk_of}
use Rattle.command_files.specs.Outside.{Outside}
use Rattle.run_command.specs.Runs.{HasOutcome}
use Rattle.command_files.specs.declared.status.Status.{Status}
use Rattle.round_run.specs.Dialogue.{count_to, requests_of, workers_in}
use Rattle.table_runs.specs.Asking.{AnsweredBy, SpeaksBy}
use Rattle.task_model.specs.declared.task.Task.{Task}
use Rattle.task_reader.specs.Texts.{SpellsStreams}
use Rattle.transcript_model.specs.Tables.{Answers, TableRow, reply_in}
use Rattle.transcript_model.specs.declared.entry.Entry.{Entry}
use Rattle.transcript_model.specs.declared.outcome.LimitKind.TheVariants.{States}
use Rattle.transcript_model.specs.declared.outcome.Outcome.TheVariants as outcome
use Rattle.stream_map.specs.declared.pools.TheConstants.{GRID_CHILD}

-- ---- the grid's generator

-- What was said with the grid's generator, since it was started with the text of a grid, speaks by the grid's answers,
-- for each task that has the grid's streams.
abbrev pub GridTalksAreTheGrid : Type 0
GridTalksAreTheGrid =
    (task : Task) (text : List ℕ) (session : SessionState) → HasGridStreams task → IsGridOf text session.grid
    → SpeaksBy 1 task (grid_replies session.grid) (talk_of (Some session))

-- The tasks that are made for numbers have the grid's streams: each task has them whose streams are spelled by the text
-- that is made.
abbrev pub GridTasksHaveStreams : Type 0
GridTasksHaveStreams =
    (n : ℕ) (task : Task) → SpellsStreams task.domain (grid_task n).streams task.streams → HasGridStreams task

-- ---- runs of `generate`

-- In a run of `generate` no other child is asked than GRID_CHILD, the grid's generator.
abbrev pub MadeRunsAskOneChild : Type 0
MadeRunsAskOneChild =
    (words : List (List ℕ)) (outside : Outside) (status : Status) (text : List ℕ) (n : ℕ)
    → command_of words ≡ Some (generate n) → (has : HasOutcome words outside status text) (child : ℕ)
    → 0 < count_to child (requests_of has.run.task (workers_in has.run.head) has.run.entries) → child ≡ GRID_CHILD

-- Where each child that was asked is the grid's generator, started with the text of the number's grid, the children of
-- a run of `generate` speak by that grid's answers.
abbrev pub GridsAnswerMadeRuns : Type 0
GridsAnswerMadeRuns =
    (words : List (List ℕ)) (outside : Outside) (status : Status) (text : List ℕ) (n : ℕ) (grid : GridFile)
    → command_of words ≡ Some (generate n) → (has : HasOutcome words outside status text)
    → IsGridOf (grid_task n).grid grid
    → AreGridTalks (grid_task n).grid has.run.task (workers_in has.run.head) has.run.entries outside.spoken
    → AnsweredBy has.run.head.version has.run.task (workers_in has.run.head) (grid_replies grid) has.run.entries
    outside.spoken

-- A run of `generate` whose children speak by the grid's answers is as the plain run over them, with the default limit
-- of calls, and prints that one's end and its two numbers, unless it ends with the limit of states. So it is over each
-- answers that are the grid's to the requests of the run.
abbrev pub GridRunsArePlain : Type 0
GridRunsArePlain =
    (words : List (List ℕ)) (outside : Outside) (status : Status) (text : List ℕ) (n : ℕ) (grid : GridFile)
    (answers : Answers) → command_of words ≡ Some (generate n) → (has : HasOutcome words outside status text)
    → AnsweredBy has.run.head.version has.run.task (workers_in has.run.head) (grid_replies grid) has.run.entries
    outside.spoken
    → AreGridAnswers grid answers has.run.entries → ¬ (has.outcome ≡ outcome.Limit States)
    → PrintsPlain n has.run.task answers has.run.entries has.outcome text

-- Each table whose rows are the grid's answers, and that has a row for each request, answers as the grid does.
abbrev pub GridTablesAnswer : Type 0
GridTablesAnswer =
    (grid : GridFile) (rows : List TableRow) (entries : List Entry) → IsGridTable grid rows entries
    → AreGridAnswers grid (reply_in rows) entries
