-- How a command answers: its text is made whole of its files, and then told.
use Rattle.std.specs.Prelude.{◌≡◌, ◌⊎◌, ℕ, ◌<◌, List, length, string_bytes, take, Result, Ok, Err}
use Rattle.std.specs.Io.KnownBytes.{Appends}
use Rattle.command_line.specs.Held.{held_play, held_replay, held_solve}
use Rattle.command_line.specs.Words.{Command, deorder, generate, migrate, play, replay, solve}
use Rattle.round_run.specs.declared.fault.RunFault.TheVariants as fault
use Rattle.pddlstream_app.specs.AnswerOf.{IsCommandAnswer}
use Rattle.command_files.specs.Inputs.{AsksAllOf}
use Rattle.pddlstream_app.specs.NoInput.{ReadsNothing}
use Rattle.command_files.specs.Outside.{FilesSeen, Written}
use Rattle.pddlstream_app.specs.declared.answer.AnswerConfig.{AnswerConfig}
use Rattle.pddlstream_app.specs.declared.answer.AnswerConfig.TheVariants as answers
use Rattle.pddlstream_app.specs.declared.job.Job.{Job}
use Rattle.pddlstream_app.specs.declared.job.Job.TheVariants as jobs
use Rattle.pddlstream_app.specs.declared.said.Said.{Said}
use Rattle.command_files.specs.declared.status.Status.{Status}
use Rattle.command_files.specs.declared.stop.Stop.{Stop}
use Rattle.command_files.specs.declared.stop.Stop.TheVariants.{Run}

-- ---- commands, as they are done

-- the command that answers
abbrev pub command_answering : AnswerConfig → Command
command_answering (answers.Replay c) = replay (held_replay c)
command_answering (answers.Migrate path) = migrate (string_bytes path)
command_answering (answers.Deorder c) = deorder (held_replay c)
command_answering (answers.Play c) = play (held_play c)

-- the command that is done
abbrev pub command_done : Job → Command
command_done (jobs.Solve c) = solve (held_solve c)
command_done (jobs.Make number) = generate number
command_done (jobs.Answer c) = command_answering c

-- ---- an answer is made

-- why no answer is made: what the command reads is no input, or its files were read and memory is wanting
abbrev pub IsUnmade : Command → FilesSeen → Stop → Type 0
IsUnmade c files why = ReadsNothing c files why ⊎ ((why ≡ Run fault.Memory) × AsksAllOf c files)

-- the answer was made whole, and the command's files were read; or it wasn't made
abbrev pub IsMade : Command → FilesSeen → Result Said Stop → Type 0
IsMade c files (Ok a) = IsCommandAnswer c files.told a.status a.text.items × AsksAllOf c files
IsMade c files (Err why) = IsUnmade c files why

-- ---- it is told

-- The sink took the whole answer.
pub record IsToldWhole (c : Command) (files : FilesSeen) (written : Written) (status : Status) : Type 0 where
  pub text : List ℕ
  pub answer : IsCommandAnswer c files.told status text
  pub asks : AsksAllOf c files
  pub took : Appends written.before written.after text

-- The sink took a part of the answer.
pub record IsToldInPart (c : Command) (files : FilesSeen) (written : Written) : Type 0 where
  pub status : Status
  pub text : List ℕ
  pub answer : IsCommandAnswer c files.told status text
  pub asks : AsksAllOf c files
  pub count : ℕ
  pub less : count < length text
  pub took : Appends written.before written.after (take count text)

-- the answer was told, and the run ends as it says; or it wasn't made, and nothing was told; or the sink failed
abbrev pub IsAnswerTold : Command → FilesSeen → Written → Result Status Stop → Type 0
IsAnswerTold c files written (Ok status) = IsToldWhole c files written status
IsAnswerTold c files written (Err why) =
    (IsUnmade c files why × (written.after ≡ written.before))
    ⊎ ((why ≡ Run fault.Write) × IsToldInPart c files written)
