-- Runs of `generate` whose children answer by the grid, and what they print.
use Rattle.std.specs.Prelude.{◌≡◌, ℕ, ◌<◌, List, ◌++◌, codes, All, Contains, Option, Some, count_by}
use Rattle.std.specs.Fmt.{decimal}
use Rattle.command_line.specs.declared.number.TheConstants.{DEFAULT_CALLS}
use Rattle.grid_play.specs.Replies.{grid_replies}
use Rattle.grid_text.specs.Files.{IsGridOf}
use Rattle.grid_text.specs.Grids.{GridFile}
use Rattle.grid_world.specs.Sessions.{SessionState, talk_of}
use Rattle.io_world.specs.Talks.{Talk}
use Rattle.pools.specs.Pools.{Workers}
use Rattle.round_run.specs.Dialogue.{count_to, requests_of}
use Rattle.task_model.specs.declared.task.Task.{Task}
use Rattle.transcript_model.specs.Legal.{asks_of, is_level}
use Rattle.transcript_model.specs.Plain.{IsAsPlain, PlainEnd, limit_calls, limit_instances, no_plan, plan}
use Rattle.transcript_model.specs.Tables.{Answers, TableRow}
use Rattle.transcript_model.specs.declared.entry.Call.{Call}
use Rattle.transcript_model.specs.declared.entry.Entry.{Entry}
use Rattle.transcript_model.specs.declared.entry.Entry.TheVariants as entry
use Rattle.transcript_model.specs.declared.outcome.Outcome.{Outcome}

-- ---- children that are the grid's generator

-- Each child to which a request of the transcript goes tells what is said with the grid's generator that was started
-- with this text.
abbrev pub AreGridTalks : List ℕ → Task → List Workers → List Entry → (ℕ → Option Talk) → Type 0
AreGridTalks text task pools entries spoken =
    (child : ℕ) → 0 < count_to child (requests_of task pools entries)
    → (session : SessionState) × IsGridOf text session.grid × (spoken child ≡ Some (talk_of (Some session)))

-- ---- answers that are the grid's

-- to each request of the transcript they answer as the grid does
abbrev pub AreGridAnswers : GridFile → Answers → List Entry → Type 0
AreGridAnswers grid answers entries =
    (n turn : ℕ) (call : Call) → Contains entries (entry.Ask n turn call)
    → answers call turn ≡ grid_replies grid call turn

-- The answer of each row is the grid's, and each request of the transcript has a row.
pub record IsGridTable (grid : GridFile) (rows : List TableRow) (entries : List Entry) : Type 0 where
  pub right : All (λ (row : TableRow). row.reply ≡ grid_replies grid row.call row.turn) rows
  pub each : (n turn : ℕ) (call : Call) → Contains entries (entry.Ask n turn call)
      → (row : TableRow) × Contains rows row × (row.call ≡ call) × (row.turn ≡ turn)

-- ---- what is printed

abbrev pub end_word : PlainEnd → List ℕ
end_word plan = codes "plan"
end_word no_plan = codes "no-plan"
end_word limit_calls = codes "limit-calls"
end_word limit_instances = codes "limit-instances"

-- the line on the task of a number by a plain run: its end, and how many levels and requests it has
abbrev pub plain_line : ℕ → PlainEnd → List Entry → List ℕ
plain_line n end entries =
    codes "generate " ++ decimal n ++ codes " " ++ end_word end ++ codes " levels "
    ++ decimal (count_by is_level entries) ++ codes " asks " ++ decimal (asks_of entries) ++ codes "\n"

-- The run is as the plain run over these answers with the default limit of calls, and the text is that one's line.
pub record PrintsPlain (n : ℕ) (task : Task) (answers : Answers) (entries : List Entry) (o : Outcome)
    (text : List ℕ) : Type 0 where
  pub run : IsAsPlain task answers DEFAULT_CALLS entries o
  pub is : text ≡ plain_line n run.end run.plain
