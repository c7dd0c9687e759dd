-- What is done to solve the task of a number: it is made, solved over a sink that keeps nothing, and told in one line.
use Rattle.std.specs.Prelude.{◌≡◌, ◌⊎◌, ℕ, ◌<◌, List, [], length, take, Result, Ok, Err}
use Rattle.std.specs.Io.KnownBytes.{Appends}
use Rattle.turn_run.specs.declared.whole_run.Ran.{Ran}
use Rattle.round_run.specs.Calls.{LogStops}
use Rattle.round_run.specs.declared.fault.RunFault.TheVariants as fault
use Rattle.command_files.specs.Outside.{Outside, Written}
use Rattle.command_files.specs.declared.status.Status.{Status}
use Rattle.command_files.specs.declared.stop.Stop.{Stop}
use Rattle.command_files.specs.declared.stop.Stop.TheVariants as stop
use Rattle.run_command.specs.Runs.{outcome_status}
use Rattle.run_command.specs.Solving.{HasNoReport, IsSolved}
use Rattle.run_command.specs.Works.{made_line, made_words}

-- the line was written, and the run ends so; or memory was wanting for it, or the sink failed and took a part
abbrev pub IsLined : Status → List ℕ → Written → Result Status Stop → Type 0
IsLined kind line written (Ok status) = (status ≡ kind) × Appends written.before written.after line
IsLined kind line written (Err why) =
    ((why ≡ stop.Run fault.Memory) × Appends written.before written.after [])
    ⊎ ((why ≡ stop.Run fault.Write) × (n : ℕ) × (n < length line) × Appends written.before written.after (take n line))

-- The task of the number was solved over the files that are made, with what is told in `outside`, and this came of
-- writing its line.
pub record EndsMade (n : ℕ) (outside : Outside) (Same : Type 0) (written : Written) (result : Result Status Stop)
    : Type 0 where
  pub ran : Ran
  pub inner : Written
  pub solved : IsSolved made_words outside Same inner ran
  pub lined : IsLined (outcome_status ran.outcome) (made_line n ran.outcome ran.levels ran.asks) written result

-- The task of a number has no report, and the sink isn't to blame.
pub record IsMadeUnsolved (outside : Outside) (why : Stop) : Type 0 where
  pub inner : Written
  pub none : HasNoReport made_words outside inner why
  pub other : ¬ (why ≡ stop.Run fault.Write)

-- Nothing was written of the task of a number: for its texts memory was wanting, and no child was started; or it has no
-- report.
pub record HasNoLine (outside : Outside) (written : Written) (why : Stop) : Type 0 where
  pub nothing : written.after ≡ written.before
  pub cause : ((why ≡ stop.Run fault.Memory) × LogStops outside.was outside.now) ⊎ IsMadeUnsolved outside why

-- the task of a number was made and solved, and its line was written; or it wasn't, for this cause
abbrev pub MakesRun : ℕ → Outside → (Same : Type 0) → Written → Result Status Stop → Type 0
MakesRun n outside Same written (Ok status) = EndsMade n outside Same written (Ok status)
MakesRun n outside Same written (Err why) =
    EndsMade n outside Same written (Err why) ⊎ HasNoLine outside written why
