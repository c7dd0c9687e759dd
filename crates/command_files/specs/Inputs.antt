-- The files of a command, in the order in which they are read, and why a run ends at one of them.
use Rattle.std.specs.Prelude.{◌≡◌, ◌⊎◌, ℕ, List, [], ◌∷◌, ◌++◌, map, Option, None, Some, IfSome, Result, Ok, Err, ⊤}
use Rattle.io_world.specs.FileMap.{AskedPath, FileMap, HasMore}
use Rattle.io_world.specs.Faults.{Extends}
use Rattle.io_world.specs.declared.files.FileFault.{FileFault}
use Rattle.io_world.specs.declared.files.FileFault.TheVariants as file
use Rattle.task_model.specs.declared.domain.Domain as domains
use Rattle.task_model.specs.declared.task.Problem as problems
use Rattle.task_model.specs.declared.task.Task.{Task}
use Rattle.task_reader.specs.Tasks.{SpellsTask, RefusesSecond, RefusesThird}
use Rattle.task_reader.specs.Texts.{SpellsDomain, SpellsProblem, RefusesDomain}
use Rattle.task_reader.specs.declared.refusal.FaultKind.{FaultKind}
use Rattle.task_reader.specs.declared.refusal.InputRefusal.{InputRefusal}
use Rattle.task_reader.specs.declared.refusal.InputRefusal.TheVariants as refusal
use Rattle.command_files.specs.Outside.{FilesSeen, HaveFailed}
use Rattle.command_line.specs.Words.{Command, SolveWords, TaskFiles, deorder, generate, migrate, play, replay, solve}
use Rattle.grid_text.specs.Files.{BlamesGridText}
use Rattle.grid_text.specs.declared.fault.GridFault.{GridFault}
use Rattle.grid_text.specs.declared.fault.GridFault.TheVariants as grid
use Rattle.stream_map.specs.Accepted.{AcceptedMap, RefusesMap}
use Rattle.stream_map.specs.Children.{grid_file, plain}
use Rattle.stream_map.specs.Faults.{Refused}
use Rattle.stream_map.specs.Form.{all_stream_names, words_form}
use Rattle.stream_map.specs.declared.fault.MapFault.{MapFault}
use Rattle.stream_map.specs.declared.fault.MapFault.TheVariants.{Memory}
use Rattle.transcript_model.specs.declared.head.Pool.{Pool}
use Rattle.command_files.specs.Files.{AreBytes, FileWanted, HoldsFile, file_of, most_of, HasBytes}
use Rattle.command_files.specs.Pools.{MeansPools}
use Rattle.round_run.specs.declared.fault.RunFault.TheVariants as fault
use Rattle.command_files.specs.declared.stop.Stop.{Stop}
use Rattle.command_files.specs.declared.stop.Stop.TheVariants.{Input, Map, Grid, Failed, TooLong, Run}
use Rattle.command_files.specs.declared.stop.FileRole.{FileRole}
use Rattle.command_files.specs.declared.stop.FileRole.TheVariants as role
use Rattle.command_files.specs.declared.stop.Text.{Text}
use Rattle.command_files.specs.declared.stop.Text.TheVariants.{Domain, Problem, Streams}
use Rattle.task_model.specs.Fit.{IsFit}
use Rattle.command_files.specs.declared.texts.Reported.{Reported}

-- ---- the files of a command

-- the files of a task
abbrev pub task_files : TaskFiles → List FileWanted
task_files paths =
    file_of (role.Text Domain) paths.domain ∷ file_of (role.Text Problem) paths.problem
    ∷ file_of (role.Text Streams) paths.streams ∷ []

-- The task is the one that the texts of its three files spell.
pub record IsTaskOf (told : Option FileMap) (paths : TaskFiles) (task : Task) : Type 0 where
  pub domain : List ℕ
  pub problem : List ℕ
  pub streams : List ℕ
  pub are : AreBytes told (task_files paths) (domain ∷ problem ∷ streams ∷ [])
  pub spelled : SpellsTask domain problem streams task

-- The files spell this task, which is fit, and these are the bytes of the report's file.
pub record AreReported (told : Option FileMap) (paths : TaskFiles) (report : List ℕ) (r : Reported) : Type 0 where
  pub task : IsTaskOf told paths r.task
  pub fit : IsFit r.task
  pub bytes : HasBytes told (file_of role.Report report) r.bytes.items

-- a file that may be there
abbrev pub file_at : FileRole → Option (List ℕ) → List FileWanted
file_at which None = []
file_at which (Some path) = file_of which path ∷ []

-- the files that the words of a command name, in the order in which they are read
abbrev pub files_named : Command → List FileWanted
files_named (solve w) = task_files w.files ++ file_at role.Map w.path
files_named (replay w) = task_files w.files ++ file_of role.Report w.report ∷ []
files_named (generate n) = []
files_named (migrate path) = file_of role.Report path ∷ []
files_named (deorder w) = task_files w.files ++ file_of role.Report w.report ∷ []
files_named (play w) = task_files w.files ++ file_of role.Report w.report ∷ file_of role.Grid w.grid ∷ []

-- the same, and then the grid's, if one of the pools names it that the words mean
abbrev pub AreFilesOf : Option FileMap → Command → List FileWanted → Type 0
AreFilesOf told (solve w) files =
    (task : Task) × (pools : List Pool) × IsTaskOf told w.files task × MeansPools told w task pools
    × (files ≡ files_named (solve w) ++ file_at role.Grid (grid_file (map plain pools)))
AreFilesOf told command files = files ≡ files_named command

-- where a run may end at one of the files, these are all that the words name, or these and then the grid's
abbrev pub MayBeFilesOf : Option FileMap → Command → List FileWanted → Type 0
MayBeFilesOf told command files = (files ≡ files_named command) ⊎ AreFilesOf told command files

-- ---- texts

-- a text that is read for this is accepted over the task: a map is one of it
abbrev pub IsAcceptedAs : FileRole → Task → List ℕ → Type 0
IsAcceptedAs role.Map task text = (pools : List Pool) × AcceptedMap task text pools
IsAcceptedAs which task text = ⊤

-- the first texts of a command are accepted, which stand in these files: a domain, then a problem and then streams
-- over it, and then what is read for a map, or for a report
abbrev pub AreAccepted : List FileWanted → List (List ℕ) → Type 0
AreAccepted files [] = ⊤
AreAccepted files (domain ∷ []) = (d : domains.Domain) × SpellsDomain domain d
AreAccepted files (domain ∷ problem ∷ []) =
    (d : domains.Domain) × (p : problems.Problem) × SpellsDomain domain d × SpellsProblem d problem p
AreAccepted files (domain ∷ problem ∷ streams ∷ []) = (task : Task) × SpellsTask domain problem streams task
AreAccepted (first ∷ second ∷ third ∷ wanted ∷ files) (domain ∷ problem ∷ streams ∷ text ∷ texts) =
    (task : Task) × SpellsTask domain problem streams task × IsAcceptedAs wanted.role task text
AreAccepted files texts = ⊥

-- behind these texts, which are accepted, this one is refused for this fault
abbrev pub IsInputRefused : List (List ℕ) → Text → List ℕ → FaultKind → ℕ → Type 0
IsInputRefused [] Domain text kind place = RefusesDomain text kind place
IsInputRefused (domain ∷ []) Problem text kind place = RefusesSecond domain text kind place
IsInputRefused (domain ∷ problem ∷ []) Streams text kind place = RefusesThird domain problem text kind place
IsInputRefused texts which text kind place = ⊥

-- behind these texts, which spell a task, this map is refused for this fault
abbrev pub IsRefusedMap : List (List ℕ) → List ℕ → MapFault → Type 0
IsRefusedMap (domain ∷ problem ∷ streams ∷ []) text why =
    (task : Task) × SpellsTask domain problem streams task × ¬ (why ≡ Memory) × RefusesMap task text why
IsRefusedMap texts text why = ⊥

-- what a refusal of a map stops for
abbrev pub stop_for_map : MapFault → Stop
stop_for_map Memory = Run fault.Memory
stop_for_map why = Map why

-- what a refusal of a grid stops for
abbrev pub stop_for_grid : GridFault → Stop
stop_for_grid (grid.At line kind) = Grid kind line
stop_for_grid grid.Memory = Run fault.Memory

-- ---- why a run ends at a file

-- how a file was answered
abbrev pub FileAnswer : Type 0
FileAnswer = Result (Unit {0}) FileFault

-- the file was asked for, and this was the answer
abbrev pub ask : FileAnswer → FileWanted → AskedPath
ask answer wanted = record { path = wanted.path; answer = answer }

-- the files were asked for and read, one after another
abbrev pub reads : List FileWanted → List AskedPath
reads files = map (ask (Ok tt)) files

-- The files of a command were asked for and read.
pub record AsksAllOf (command : Command) (files : FilesSeen) : Type 0 where
  pub all : List FileWanted
  pub are : AreFilesOf files.told command all
  pub asked : Extends files.before files.after (reads all)

-- the file has more bytes than it may have, where files are told
abbrev pub IsTooLong : Option FileMap → FileWanted → Type 0
IsTooLong told wanted = IfSome told (λ files. HasMore (files wanted.path) (most_of wanted.role))

-- Why a run may end at this file, behind these texts: its bytes are refused; the count of faults rose; or it has more
-- bytes than it may have. Want of memory is free.
abbrev pub MayEnd : FilesSeen → List (List ℕ) → FileWanted → Stop → Type 0
MayEnd files texts wanted (Input which kind place) =
    (role.Text which ≡ wanted.role) × HoldsFile files.told wanted (λ text. IsInputRefused texts which text kind place)
MayEnd files texts wanted (Map why) =
    (role.Map ≡ wanted.role) × HoldsFile files.told wanted (λ text. IsRefusedMap texts text why)
MayEnd files texts wanted (Grid kind line) =
    (role.Grid ≡ wanted.role) × HoldsFile files.told wanted (λ text. BlamesGridText text (grid.At line kind))
MayEnd files texts wanted (Failed which) = (which ≡ wanted.role) × HaveFailed files
MayEnd files texts wanted (TooLong which) = (which ≡ wanted.role) × IsTooLong files.told wanted
MayEnd files texts wanted (Run fault.Memory) = ⊤
MayEnd files texts wanted why = ⊥

-- how the file was answered at which a run ends so
abbrev pub IsFileAnswer : Stop → FileAnswer → Type 0
IsFileAnswer (Input which kind place) answer = answer ≡ Ok tt
IsFileAnswer (Map why) answer = answer ≡ Ok tt
IsFileAnswer (Grid kind line) answer = answer ≡ Ok tt
IsFileAnswer (Failed which) answer = answer ≡ Err file.Failed
IsFileAnswer (TooLong which) answer = answer ≡ Err file.TooLong
IsFileAnswer why answer = ⊤

-- The file was asked for, and the run ends at it so, behind these texts.
pub record EndsHere (files : FilesSeen) (texts : List (List ℕ)) (wanted : FileWanted) (why : Stop) : Type 0 where
  pub cause : MayEnd files texts wanted why
  pub answer : FileAnswer
  pub answered : IsFileAnswer why answer
  pub asked : Extends files.before files.after (ask answer wanted ∷ [])

-- A run ends so at one of these files. Those before it were read, one after another, and their texts accepted; it was
-- asked for last.
pub record EndsAtFile (files : FilesSeen) (all : List FileWanted) (why : Stop) : Type 0 where
  pub before : List FileWanted
  pub wanted : FileWanted
  pub later : List FileWanted
  pub order : all ≡ before ++ wanted ∷ later
  pub texts : List (List ℕ)
  pub are : AreBytes files.told before texts
  pub accepted : AreAccepted before texts
  pub cause : MayEnd files texts wanted why
  pub answer : FileAnswer
  pub answered : IsFileAnswer why answer
  pub asked : Extends files.before files.after (reads before ++ ask answer wanted ∷ [])

-- The run ends so at one of the files of this command.
pub record EndsReading (command : Command) (files : FilesSeen) (why : Stop) : Type 0 where
  pub all : List FileWanted
  pub are : MayBeFilesOf files.told command all
  pub stopped : EndsAtFile files all why

-- The words name no map; the task was read, and their program makes no pool for it.
pub record HasNoPool (asked : SolveWords) (files : FilesSeen) (why : Stop) : Type 0 where
  pub no_map : asked.path ≡ None
  pub task : Task
  pub spelled : IsTaskOf files.told asked.files task
  pub fault : MapFault
  pub is : why ≡ Map fault
  pub certain : ¬ (fault ≡ Memory)
  pub refused : Refused (all_stream_names task) (words_form task asked.program asked.workers) fault
  pub asked_for : Extends files.before files.after (reads (task_files asked.files))

-- what words that mean a task is to be solved name is no input, for this cause
abbrev pub SolvesNothing : SolveWords → FilesSeen → Stop → Type 0
SolvesNothing w files why = EndsReading (solve w) files why ⊎ HasNoPool w files why

-- The run ends at the first of these files, behind these texts, if there is one.
abbrev pub EndsFirst : FilesSeen → List (List ℕ) → List FileWanted → Stop → Type 0
EndsFirst files texts [] why = ⊥
EndsFirst files texts (wanted ∷ more) why = EndsHere files texts wanted why

-- No file is asked for, and the program makes no pool for the task; or memory is wanting.
pub record MakesNoPool (files : FilesSeen) (w : SolveWords) (task : Task) (why : Stop) : Type 0 where
  pub fault : MapFault
  pub is : why ≡ stop_for_map fault
  pub refused : Refused (all_stream_names task) (words_form task w.program w.workers) fault
  pub asked : Extends files.before files.after []

-- why the pools aren't read, behind these texts, of words that name this map
abbrev pub EndsAtPools : Option (List ℕ) → FilesSeen → List (List ℕ) → SolveWords → Task → Stop → Type 0
EndsAtPools None files texts w task why = MakesNoPool files w task why
EndsAtPools (Some path) files texts w task why = EndsHere files texts (file_of role.Map path) why

-- what a refusal of this text stops for
abbrev pub stop_for : Text → InputRefusal → Stop
stop_for text (refusal.At kind place) = Input text kind place
stop_for text refusal.Memory = Run fault.Memory
