-- What is done to solve a task: the parts of a run before what it shows.
use Rattle.std.specs.Prelude.{◌≡◌, ◌⊎◌, Option, Err, Ok, Result, IfErr, IfOk, IsErrOf, ⊤}
use Rattle.command_line.specs.Words.{SolveWords, solve}
use Rattle.io_world.specs.FileMap.{FileMap}
use Rattle.round_run.specs.Calls.{LogStops}
use Rattle.turn_run.specs.Reports.{IsBroken, IsReported}
use Rattle.round_run.specs.declared.fault.RunFault.{RunFault}
use Rattle.round_run.specs.declared.fault.RunFault.TheVariants as fault
use Rattle.turn_run.specs.declared.whole_run.Ran.{Ran}
use Rattle.task_model.specs.Fit.{IsFit}
use Rattle.task_model.specs.declared.task.Task.{Task}
use Rattle.transcript_model.specs.declared.head.Head.{Head}
use Rattle.command_files.specs.Inputs.{AsksAllOf, IsTaskOf, SolvesNothing}
use Rattle.run_command.specs.Heads.{IsHeadOf}
use Rattle.run_command.specs.Heard.{Heard, IsHeard, heard_in, hearing}
use Rattle.command_files.specs.Outside.{IsUntouched, Outside, Written}
use Rattle.command_files.specs.declared.stop.Stop.{Stop}
use Rattle.command_files.specs.declared.stop.Stop.TheVariants as stop
use Rattle.command_files.specs.declared.status.Status.{Status}
use Rattle.run_command.specs.Runs.{outcome_status}

-- The files spell a task, and with the words they mean this head.
pub record IsPosed (told : Option FileMap) (asked : SolveWords) (task : Task) (head : Head) : Type 0 where
  pub spelled : IsTaskOf told asked.files task
  pub fit : IsFit task
  pub headed : IsHeadOf told asked task head

-- The files were read, and the task's report was written. Where nothing was asked no call was made on a child, and the
-- host itself is as it was.
pub record IsSolved (asked : SolveWords) (outside : Outside) (Same : Type 0) (written : Written) (ran : Ran)
    : Type 0 where
  pub task : Task
  pub head : Head
  pub posed : IsPosed outside.files.told asked task head
  pub reported : IsReported task head outside.spoken outside.was outside.now written.before written.after ran
  pub unneeded : ran.asks ≡ 0 → IsUntouched outside × Same
  pub asks : AsksAllOf (solve asked) outside.files

-- What the words name is no input, and nothing was done but that stops came.
pub record IsUnposed (asked : SolveWords) (outside : Outside) (written : Written) (why : Stop) : Type 0 where
  pub cause : SolvesNothing asked outside.files why
  pub none : LogStops outside.was outside.now
  pub nothing : written.after ≡ written.before

-- The files were read, and the run over the task stopped.
pub record IsUnsolved (asked : SolveWords) (outside : Outside) (written : Written) (why : Stop) : Type 0 where
  pub fault : RunFault
  pub is : why ≡ stop.Run fault
  pub task : Task
  pub head : Head
  pub posed : IsPosed outside.files.told asked task head
  pub broken : IsBroken task head outside.spoken outside.was outside.now written.before written.after fault
  pub asks : AsksAllOf (solve asked) outside.files

-- why a task has no report
abbrev pub HasNoReport : SolveWords → Outside → Written → Stop → Type 0
HasNoReport asked outside written why =
    IsUnposed asked outside written why ⊎ IsUnsolved asked outside written why

-- ---- how it ends

-- the run stopped at the words, a file or a text
abbrev pub IsAtText : Stop → Type 0
IsAtText (stop.Run f) = ⊥
IsAtText why = ⊤

-- The task was solved, and the run ends as its outcome says.
pub record EndsSolved (asked : SolveWords) (outside : Outside) (Same : Type 0) (written : Written) (status : Status)
    : Type 0 where
  pub ran : Ran
  pub kind : status ≡ outcome_status ran.outcome
  pub solved : IsSolved asked outside Same written ran

-- the task was solved, and the run ends so; or it has no report, for this cause
abbrev pub SolvesRun : SolveWords → Outside → (Same : Type 0) → Written → Result Status Stop → Type 0
SolvesRun asked outside Same written (Ok status) = EndsSolved asked outside Same written status
SolvesRun asked outside Same written (Err why) = HasNoReport asked outside written why

-- ---- by what was heard

-- memory was wanting
abbrev pub Lacks : {T : Type 0} → Result T Stop → Type 0
Lacks result = IsErrOf result (stop.Run fault.Memory)

-- The task was solved or has no report, by what was heard of its children.
pub record IsReportedBy (asked : SolveWords) (outside : Outside) (Same : Type 0) (written : Written)
    (result : Result Ran Stop) : Type 0 where
  pub heard : Heard
  pub by : IsHeard asked.restarts (Lacks result) (heard_in outside) heard
  pub solved : IfOk result (IsSolved asked (hearing outside.files heard) Same written)
  pub failed : IfErr result (HasNoReport asked (hearing outside.files heard) written)

-- How the run ends, by what was heard of its children.
pub record SolvesBy (asked : SolveWords) (outside : Outside) (Same : Type 0) (written : Written)
    (result : Result Status Stop) : Type 0 where
  pub heard : Heard
  pub by : IsHeard asked.restarts (Lacks result) (heard_in outside) heard
  pub ends : SolvesRun asked (hearing outside.files heard) Same written result
