-- What a command says that answers with one text: a row for each. It reads its files, and asks no child.
use Rattle.std.specs.Prelude.{◌≡◌, ℕ, Bool, true, false, List, [], ◌∷◌, Option, Some}
use Rattle.command_line.specs.Words.{Command, command_of, deorder, generate, migrate, play, replay, solve}
use Rattle.grid_text.specs.Files.{IsGridOf}
use Rattle.grid_text.specs.Grids.{GridFile}
use Rattle.io_world.specs.FileMap.{FileMap}
use Rattle.task_model.specs.Fit.{IsFit}
use Rattle.task_model.specs.declared.task.Task.{Task}
use Rattle.task_reader.specs.Tasks.{SpellsTask}
use Rattle.optimal_check.specs.Verdicts.{IsCostVerdict}
use Rattle.replay_check.specs.Verdicts.{IsVerdict}
use Rattle.replay_check.specs.declared.verdict.Verdict.{Verdict}
use Rattle.command_files.specs.Files.{AreBytes}
use Rattle.command_files.specs.Inputs.{files_named}
use Rattle.command_files.specs.Outside.{IsUntouched, Outside}
use Rattle.pddlstream_app.specs.Replays.{IsMigrated, kind_of_verdict, verdict_text}
use Rattle.pddlstream_app.specs.Plans.{SaysOfReport, SaysOrder, SaysPlay}
use Rattle.command_files.specs.declared.status.Status.{Status}

-- the command reads files and answers with one text; the others solve a task and may ask children
abbrev pub only_reads : Command → Bool
only_reads (solve w) = false
only_reads (generate n) = false
only_reads command = true

-- the three texts spell a task, which is fit, and of which this is said
abbrev pub OverTask : List ℕ → List ℕ → List ℕ → (Task → Type 0) → Type 0
OverTask domain problem streams Says = (task : Task) × SpellsTask domain problem streams task × IsFit task × Says task

-- the text and the status are those of a verdict of which this is so
abbrev pub SaysVerdict : (Verdict → Type 0) → Status → List ℕ → Type 0
SaysVerdict IsSo status text =
    (v : Verdict) × IsSo v × (kind_of_verdict v ≡ status) × (text ≡ verdict_text v)

-- what is said of the bytes of a report, of the plan's cost too or without it
abbrev pub IsVerdictFor : (optimal : Bool) → ℕ → Task → List ℕ → Verdict → Type 0
IsVerdictFor false = IsVerdict
IsVerdictFor true = IsCostVerdict

-- the bytes are a grid of which this is said
abbrev pub OverGrid : List ℕ → (GridFile → Type 0) → Type 0
OverGrid bytes Says = (grid : GridFile) × IsGridOf bytes grid × Says grid

-- how a command ends and what it says, of the bytes of its files, in the order in which they are read
abbrev pub AnswerOf : Command → List (List ℕ) → Status → List ℕ → Type 0
AnswerOf (replay w) (domain ∷ problem ∷ streams ∷ report ∷ []) status text =
    OverTask domain problem streams (λ task. SaysVerdict (IsVerdictFor w.optimal w.states task report) status text)
AnswerOf (migrate path) (report ∷ []) status text = IsMigrated report status text
AnswerOf (deorder w) (domain ∷ problem ∷ streams ∷ report ∷ []) status text =
    OverTask domain problem streams (λ task. SaysOfReport w.states task report (SaysOrder task) status text)
AnswerOf (play w) (domain ∷ problem ∷ streams ∷ report ∷ grid ∷ []) status text =
    OverTask domain problem streams (λ task. OverGrid grid (λ g. SaysOfReport w.states task report (SaysPlay g) status text))
AnswerOf command texts status text = ⊥

-- The command's files have these bytes, where they are told, and this is what it says of them.
pub record IsCommandAnswer (command : Command) (told : Option FileMap) (status : Status) (text : List ℕ) : Type 0 where
  pub texts : List (List ℕ)
  pub are : AreBytes told (files_named command) texts
  pub so : AnswerOf command texts status text

-- The words mean a command that answers, and this is its answer. No call was made on a child.
pub record HasAnswer (words : List (List ℕ)) (outside : Outside) (status : Status) (text : List ℕ) : Type 0 where
  pub command : Command
  pub meant : command_of words ≡ Some command
  pub answer : IsCommandAnswer command outside.files.told status text
  pub untouched : IsUntouched outside
