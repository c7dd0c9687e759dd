-- Files that a command reads, and their bytes.
use Rattle.std.specs.Prelude.{◌≡◌, ◌≤◌, ℕ, List, [], ◌∷◌, length, Option, Some, IfSome, ⊤}
use Rattle.io_world.specs.FileMap.{FileMap}
use Rattle.command_files.specs.declared.stop.FileRole.{FileRole}
use Rattle.command_files.specs.declared.stop.FileRole.TheVariants as role
use Rattle.report_reader.specs.declared.reader.TheConstants.{REPORT_BYTES}
use Rattle.task_reader.specs.declared.texts.TheConstants.{TEXT_BYTES}

-- A file, and what it is read for.
pub record FileWanted : Type 0 where
  pub role : FileRole
  pub path : List ℕ

abbrev pub file_of : FileRole → List ℕ → FileWanted
file_of role path = record { role = role; path = path }

-- the most bytes of a file: 4 MiB, and 256 MiB of a report
abbrev pub most_of : FileRole → ℕ
most_of role.Report = REPORT_BYTES
most_of which = TEXT_BYTES

-- the file of this path has these bytes, where files are told
abbrev pub FileHolds : Option FileMap → List ℕ → List ℕ → Type 0
FileHolds told path bytes = IfSome told (λ files. files path ≡ Some bytes)

-- The file has these bytes, and no more of them than it may have.
pub record HasBytes (told : Option FileMap) (wanted : FileWanted) (bytes : List ℕ) : Type 0 where
  pub held : FileHolds told wanted.path bytes
  pub short : length bytes ≤ most_of wanted.role

-- The file has bytes of which this is so.
pub record HoldsFile (told : Option FileMap) (wanted : FileWanted) (IsSo : List ℕ → Type 0) : Type 0 where
  pub bytes : List ℕ
  pub has : HasBytes told wanted bytes
  pub so : IsSo bytes

-- the files have these bytes, one after another
abbrev pub AreBytes : Option FileMap → List FileWanted → List (List ℕ) → Type 0
AreBytes told [] [] = ⊤
AreBytes told (wanted ∷ files) (bytes ∷ texts) = HasBytes told wanted bytes × AreBytes told files texts
AreBytes told files texts = ⊥
