-- What files in memory are seen as.
use Rattle.std.specs.Prelude.{◌≡◌, ◌≤◌, ℕ, Bool, true, false, List, length, Option, Some, Result, MatchResult, Vec, ⊤}
use Rattle.std.specs.declared.alloc.Global.{Global}
use Rattle.io_world.specs.FileMap.{StoredFile, AskedPath, HasMore}
use Rattle.io_world.specs.Plans.{Plan}
use Rattle.io_world.specs.declared.files.FileFault.{FileFault}
use Rattle.io_world.specs.declared.files.FileFault.TheVariants.{Failed, TooLong, Memory}

pub record MemFilesState : Type 0 where
  pub files : List StoredFile
  pub plan : Plan
  pub faults : ℕ
  pub asked : Option (List AskedPath)

-- when each fault comes, want of memory apart
abbrev pub BlamesRead : Bool → Option (List ℕ) → ℕ → FileFault → Type 0
BlamesRead fails file most Failed = fails ≡ true
BlamesRead fails file most TooLong = (fails ≡ false) × HasMore file most
BlamesRead fails file most Memory = ⊤

-- a read that fails exactly where it should, and else gives the file, if it isn't too long
abbrev pub AnswersFile : Bool → Option (List ℕ) → ℕ → Result (Vec ℕ Global) FileFault → Type 0
AnswersFile fails file most result =
    MatchResult result (λ v. (fails ≡ false) × (file ≡ Some v.items) × (length v.items ≤ most))
    (BlamesRead fails file most)

-- all of these bytes, or `TooLong` where they are more than `most`
abbrev pub Copies : List ℕ → ℕ → Result (Vec ℕ Global) FileFault → Type 0
Copies bytes most result = AnswersFile false (Some bytes) most result
