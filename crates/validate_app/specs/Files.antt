-- Files that are read, and their bytes.
use Rattle.std.specs.Prelude.{◌≡◌, ℕ, ◌≤◌, List, length, Option, Some, IfSome, ⊤}
use Rattle.io_world.specs.FileMap.{FileMap, HasMore}
use Rattle.io_world.specs.Faults.{Rose, last_count}
use Rattle.plan_reader.specs.declared.plan.TheConstants.{PLAN_BYTES}
use Rattle.report_reader.specs.declared.reader.TheConstants.{REPORT_BYTES}
use Rattle.task_reader.specs.declared.texts.TheConstants.{TEXT_BYTES}
use Rattle.validate_app.specs.declared.stop.FileRole.{FileRole}
use Rattle.validate_app.specs.declared.stop.FileRole.TheVariants as role
use Rattle.validate_app.specs.declared.stop.Stop.{Stop}
use Rattle.validate_app.specs.declared.stop.Stop.TheVariants.{Usage, Refused, Flawed, Failed, TooLong, Memory}

-- What stands under each path, and the count of the files' faults, before a run and after it.
pub record TextsSeen : Type 0 where
  pub told : Option FileMap
  pub first : ℕ
  pub last : ℕ

-- what files of a type tell that has these ghosts
abbrev pub texts_seen_of : {F : Type 0} → (F → Option FileMap) → (F → ℕ) → F → F → TextsSeen
texts_seen_of told faults old new = record { told = told old; first = faults old; last = faults new }

-- the count of faults rose
abbrev pub TextsHaveFailed : TextsSeen → Type 0
TextsHaveFailed files = Rose last_count files.first files.last

-- the most bytes of a file: 4 MiB, 32 MiB of a plan, and 256 MiB of a report
abbrev pub most_text_bytes : FileRole → ℕ
most_text_bytes role.Plan = PLAN_BYTES
most_text_bytes role.Report = REPORT_BYTES
most_text_bytes which = TEXT_BYTES

-- The file of this path has these bytes, where files are told, and no more of them than it may have.
pub record HasTextBytes (told : Option FileMap) (which : FileRole) (path bytes : List ℕ) : Type 0 where
  pub held : IfSome told (λ files. files path ≡ Some bytes)
  pub short : length bytes ≤ most_text_bytes which

-- the file of this path has more bytes than it may have, where files are told
abbrev pub IsTextTooLong : Option FileMap → FileRole → List ℕ → Type 0
IsTextTooLong told which path = IfSome told (λ files. HasMore (files path) (most_text_bytes which))

-- Why the file of this path isn't read: the count of faults rose, or it has more bytes than it may have. Want of memory
-- is free.
abbrev pub EndsAt : TextsSeen → FileRole → List ℕ → Stop → Type 0
EndsAt files which path Usage = ⊥
EndsAt files which path (Refused other kind place) = ⊥
EndsAt files which path (Flawed line flaw) = ⊥
EndsAt files which path (Failed other) = (other ≡ which) × TextsHaveFailed files
EndsAt files which path (TooLong other) = (other ≡ which) × IsTextTooLong files.told which path
EndsAt files which path Memory = ⊤
