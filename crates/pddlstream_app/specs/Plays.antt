-- What `play` says where its files are true: a right report with the grid's own answers, and that grid.
use Rattle.std.specs.Prelude.{◌≡◌, List, Option, Some, ℕ}
use Rattle.command_line.specs.Words.{PlayWords, command_of, play}
use Rattle.grid_text.specs.Files.{IsGridOf}
use Rattle.grid_text.specs.Grids.{GridFile}
use Rattle.io_world.specs.FileMap.{FileMap}
use Rattle.command_files.specs.Inputs.{IsTaskOf}
use Rattle.command_files.specs.declared.status.Status.{Status}
use Rattle.command_files.specs.declared.status.Status.TheVariants.{Invalid}
use Rattle.play_laws.specs.Problems.{AreTrueYields, IsGridProblem}
use Rattle.replay_check.specs.Verdicts.{IsRightReport}
use Rattle.report_text.specs.Forms.{IsFormed}
use Rattle.report_text.specs.Texts.{text_of_report}
use Rattle.task_model.specs.declared.task.Task.{Task}
use Rattle.transcript_model.specs.declared.report.Report.{Report}

-- The files of `play` spell a task and a grid of which that task is a problem, and a report that is right, each yield of
-- which is the grid's own answer.
pub record HasTruePlay (files : FileMap) (asked : PlayWords) : Type 0 where
  pub task : Task
  pub spelled : IsTaskOf (Some files) asked.files task
  pub bytes : List ℕ
  pub drawn : files asked.grid ≡ Some bytes
  pub grid : GridFile
  pub read : IsGridOf bytes grid
  pub problem : IsGridProblem task grid
  pub report : Report
  pub formed : IsFormed report
  pub held : files asked.report ≡ Some (text_of_report report)
  pub right : IsRightReport task report
  pub answers : AreTrueYields grid report.entries

-- `play` doesn't end so that something is wrong, where the files are told and true: neither is the report refused, nor has
-- the plan a fault on the grid.
abbrev pub PlaysSafely : List (List ℕ) → Option FileMap → Status → Type 0
PlaysSafely words told status =
    (files : FileMap) (asked : PlayWords) → told ≡ Some files → command_of words ≡ Some (play asked)
    → HasTruePlay files asked → ¬ (status ≡ Invalid)
