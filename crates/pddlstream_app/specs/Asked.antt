-- Which files a run asks for.
use Rattle.std.specs.Prelude.{◌≡◌, ◌⊎◌, ℕ, List, [], ◌∷◌, ◌++◌, None, Some}
use Rattle.std.specs.Io.KnownBytes.{Appends}
use Rattle.io_world.specs.Faults.{Extends}
use Rattle.round_run.specs.declared.fault.RunFault.TheVariants as fault
use Rattle.command_line.specs.Words.{Command, command_of}
use Rattle.command_files.specs.Files.{FileWanted}
use Rattle.command_files.specs.Inputs.{FileAnswer, MayBeFilesOf, ask, reads, AsksAllOf}
use Rattle.pddlstream_app.specs.NoInput.{HasNoInput}
use Rattle.command_files.specs.Outside.{FilesSeen, HaveFailed, Written}
use Rattle.command_files.specs.Stop.{status_at, last_text}
use Rattle.command_files.specs.declared.status.Status.{Status}
use Rattle.command_files.specs.declared.status.Status.TheVariants.{Usage, Input, ReadFault, WriteFault, Memory}
use Rattle.command_files.specs.declared.stop.FileRole.{FileRole}
use Rattle.command_files.specs.declared.stop.Stop.{Stop}
use Rattle.command_files.specs.declared.stop.Stop.TheVariants as stop

-- no file was asked for
abbrev pub AsksNothing : FilesSeen → Type 0
AsksNothing files = Extends files.before files.after []

-- no file was asked for, where the words mean no command
abbrev pub AsksNone : List (List ℕ) → FilesSeen → Type 0
AsksNone words files = (command_of words ≡ None) × AsksNothing files

-- The words mean a command, and its files were asked for and read: none for `generate`.
pub record AsksAll (words : List (List ℕ)) (files : FilesSeen) : Type 0 where
  pub command : Command
  pub meant : command_of words ≡ Some command
  pub asks : AsksAllOf command files

-- The words mean a command, and its files up to this one were asked for; those before it were read.
pub record AsksUpTo (words : List (List ℕ)) (files : FilesSeen) : Type 0 where
  pub command : Command
  pub meant : command_of words ≡ Some command
  pub all : List FileWanted
  pub are : MayBeFilesOf files.told command all
  pub before : List FileWanted
  pub wanted : FileWanted
  pub later : List FileWanted
  pub order : all ≡ before ++ wanted ∷ later
  pub answer : FileAnswer
  pub asked : Extends files.before files.after (reads before ++ ask answer wanted ∷ [])

-- none was asked for, or some of the command's from the first on
abbrev pub AsksSome : List (List ℕ) → FilesSeen → Type 0
AsksSome words files = AsksNothing files ⊎ AsksAll words files ⊎ AsksUpTo words files

-- The file that the last line names is the cause of the run's end, and the files were asked for up to that one; or,
-- where no map is named, the words of the program are, and the texts were asked for; or, of `generate`, a text that was
-- made is, and no file was asked for.
pub record AsksToNamed (words : List (List ℕ)) (files : FilesSeen) (written : Written) (status : Status) : Type 0 where
  pub why : Stop
  pub kind : status_at why ≡ status
  pub cause : HasNoInput words files why
  pub took : Appends written.before written.after (last_text why)

-- The last line names a file that has more bytes than it may have.
pub record NamesLongFile (words : List (List ℕ)) (files : FilesSeen) (written : Written) : Type 0 where
  pub which : FileRole
  pub cause : HasNoInput words files (stop.TooLong which)
  pub took : Appends written.before written.after (last_text (stop.TooLong which))

-- why a file was not read: the files' count of faults rose, or the file that the last line names is too long
abbrev pub HasReadCause : List (List ℕ) → FilesSeen → Written → Type 0
HasReadCause words files written = HaveFailed files ⊎ NamesLongFile words files written

-- which files a run asks for that ends so
abbrev pub AsksFiles : List (List ℕ) → FilesSeen → Written → Status → Type 0
AsksFiles words files written Usage = AsksNone words files
AsksFiles words files written Input = AsksToNamed words files written Input
AsksFiles words files written ReadFault = AsksToNamed words files written ReadFault
AsksFiles words files written Memory = AsksSome words files
AsksFiles words files written WriteFault = AsksSome words files
AsksFiles words files written status = AsksAll words files

-- which files were asked for where a run stops so
abbrev pub AsksBefore : List (List ℕ) → FilesSeen → Stop → Type 0
AsksBefore words files stop.Usage = AsksNone words files
AsksBefore words files (stop.Run fault.Memory) = AsksSome words files
AsksBefore words files (stop.Run f) = AsksAll words files
AsksBefore words files why = HasNoInput words files why
