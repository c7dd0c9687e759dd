-- When a run has an outcome, and when that is no limit.
use Rattle.std.specs.Prelude.{◌≡◌, ◌⊎◌, ℕ, ◌<◌, List, [], Option, Some, ⊤}
use Rattle.gen_lines.specs.declared.answer.Why.{Why}
use Rattle.io_world.specs.FileMap.{FileMap}
use Rattle.turn_run.specs.Reports.{IsRun}
use Rattle.restart_runs.specs.Tabled.{AnsweredAgain}
use Rattle.round_run.specs.Dialogue.{Dialogue, workers_in}
use Rattle.table_runs.specs.Asking.{AnsweredBy}
use Rattle.task_model.specs.declared.task.Task.{Task}
use Rattle.transcript_model.specs.Plain.{IsPlainRun, PlainEnd, no_plan, plan}
use Rattle.transcript_model.specs.Tables.{Answers, IsBounded}
use Rattle.transcript_model.specs.declared.entry.Entry.{Entry}
use Rattle.transcript_model.specs.declared.head.Mode.TheVariants.{Incremental}
use Rattle.transcript_model.specs.declared.head.Pool.{Pool}
use Rattle.transcript_model.specs.declared.outcome.Outcome.{Outcome}
use Rattle.command_line.specs.Words.{SolveWords, command_of, solve}
use Rattle.run_command.specs.Heads.{AreServed}
use Rattle.command_files.specs.Inputs.{IsTaskOf}
use Rattle.command_files.specs.Outside.{HaveFailed, Outside}
use Rattle.run_command.specs.Heard.{Heard, IsHeard, heard_in, hearing, restarts_in}
use Rattle.run_command.specs.Runs.{HasBadAnswer, ProgramRun}
use Rattle.command_files.specs.declared.status.Status.{Status}
use Rattle.command_files.specs.declared.status.Status.TheVariants.{Plan, NoPlan, Limit, Memory, WriteFault}

-- Whichever run's dialogue it was that was said with the children: none of its requests has a bad answer.
abbrev pub OnlyAnswers : List (List ℕ) → Outside → Type 0
OnlyAnswers words outside =
    (run : ProgramRun words outside.files.told) (number : ℕ) (why : Why) → ¬ (HasBadAnswer outside run number why)

-- The words mean that a task is to be solved; the files are told, and their texts, of at most 4 MiB each, spell a task
-- and, with the words, the pools that serve its streams; no count of faults rose, or stood at its last value; and only
-- answers were heard.
pub record GoesWell (words : List (List ℕ)) (outside : Outside) (host_rose sink_rose : Type 0) : Type 0 where
  pub asked : SolveWords
  pub meant : command_of words ≡ Some (solve asked)
  pub files : FileMap
  pub are_told : outside.files.told ≡ Some files
  pub task : Task
  pub spelled : IsTaskOf outside.files.told asked.files task
  pub pools : List Pool
  pub served : AreServed outside.files.told asked task pools
  pub read : ¬ (HaveFailed outside.files)
  pub generated : ¬ host_rose
  pub written : ¬ sink_rose
  pub answered : OnlyAnswers words outside

-- Answers, as those of a table. Whichever run with an outcome it was whose dialogue was said with the children, each
-- child that was asked in it answered so; and every transcript that agrees with the answers stays within the limits of
-- calls and of states.
pub record AreGivenAnswers (words : List (List ℕ)) (outside : Outside) (answers : Answers) : Type 0 where
  pub said : (run : ProgramRun words outside.files.told) (o : Outcome) → IsRun run.task run.head run.entries o
      → Dialogue run.task run.head.version (workers_in run.head) run.entries outside.spoken
      → AnsweredBy run.head.version run.task (workers_in run.head) answers run.entries outside.spoken
  pub few : (run : ProgramRun words outside.files.told)
      → IsBounded run.head.version run.task answers run.head.calls run.head.states

-- The same by the log of the host, where children may have several lives: whichever run it was, each child answered so
-- in each of its lives.
pub record AreGivenAgain (words : List (List ℕ)) (outside : Outside) (answers : Answers) : Type 0 where
  pub said : (run : ProgramRun words outside.files.told)
      → AnsweredAgain run.head.version run.task answers outside.was outside.now
  pub few : (run : ProgramRun words outside.files.told)
      → IsBounded run.head.version run.task answers run.head.calls run.head.states

-- the run has an outcome, or memory is wanting
abbrev pub EndsWell : Status → Type 0
EndsWell Plan = ⊤
EndsWell NoPlan = ⊤
EndsWell Limit = ⊤
EndsWell Memory = ⊤
EndsWell status = ⊥

-- There is such a run, and in incremental mode the plain run over these answers ends so.
pub record EndsPlain (words : List (List ℕ)) (told : Option FileMap) (answers : Answers) (end : PlainEnd) : Type 0 where
  pub run : ProgramRun words told
  pub plain : run.head.mode ≡ Incremental
      → (entries : List Entry) × IsPlainRun run.task answers run.head.calls [] entries end

-- The run ends with a plan or with `no plan`, and in incremental mode the plain run over these answers does so too; or
-- memory is wanting.
abbrev pub SettlesBy : List (List ℕ) → Option FileMap → Answers → Status → Type 0
SettlesBy words told answers Plan = EndsPlain words told answers plan
SettlesBy words told answers NoPlan = EndsPlain words told answers no_plan
SettlesBy words told answers Memory = ⊤
SettlesBy words told answers status = ⊥

-- Where all goes well the run has an outcome; and where, besides, the children answer by a table that keeps it within
-- its limits, that is no limit.
pub record Completes (words : List (List ℕ)) (outside : Outside) (host_rose sink_rose : Type 0)
    (status : Status) : Type 0 where
  pub ends : GoesWell words outside host_rose sink_rose → EndsWell status
  pub settles : (answers : Answers) → GoesWell words outside host_rose sink_rose
      → AreGivenAnswers words outside answers → SettlesBy words outside.files.told answers status

-- The same, by what the run heard of its children; and where they are started again, by what they answered in each of
-- their lives.
pub record CompletesBy (words : List (List ℕ)) (outside : Outside) (host_rose sink_rose : Type 0)
    (status : Status) : Type 0 where
  pub heard : Heard
  pub by : IsHeard (restarts_in words) ((status ≡ Memory) ⊎ (status ≡ WriteFault)) (heard_in outside) heard
  pub completes : Completes words (hearing outside.files heard) host_rose sink_rose status
  pub again : (answers : Answers) → GoesWell words (hearing outside.files heard) host_rose sink_rose
      → 0 < restarts_in words → AreGivenAgain words outside answers → SettlesBy words outside.files.told answers status
