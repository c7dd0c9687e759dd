-- What stands under paths, and which paths were asked for.
use Rattle.std.specs.Prelude.{◌≡◌, ℕ, ◌<◌, List, length, Result, Ok, Err, Option, Some, None, IfSome, MatchResult, Vec, String, string_bytes, bytes_eq, unwrap_or, [], ◌∷◌, if◌then◌else◌}
use Rattle.std.specs.declared.alloc.Global.{Global}
use Rattle.io_world.specs.declared.files.FileFault.{FileFault}
use Rattle.io_world.specs.declared.files.FileFault.TheVariants.{TooLong}

-- the bytes under each path, if it is there
abbrev pub FileMap : Type 0
FileMap = List ℕ → Option (List ℕ)

-- the path of a call, with Ok or its fault
pub record AskedPath : Type 0 where
  pub path : List ℕ
  pub answer : Result (Unit {0}) FileFault

-- Ok without its value, or the error
abbrev pub outcome_of : {T E : Type 0} → Result T E → Result (Unit {0}) E
outcome_of (Ok x) = Ok tt
outcome_of (Err e) = Err e

abbrev pub answered : {T : Type 0} → List ℕ → Result T FileFault → AskedPath
answered path result = record { path = path; answer = outcome_of result }

-- there are more than so many bytes
abbrev pub HasMore : Option (List ℕ) → ℕ → Type 0
HasMore None most = ⊥
HasMore (Some bytes) most = most < length bytes

-- Ok gives the path's bytes, and `TooLong` comes where there are more than `most`
abbrev pub ReadsFile : Option FileMap → List ℕ → ℕ → Result (Vec ℕ Global) FileFault → Type 0
ReadsFile told path most result =
    IfSome told (λ files.
    MatchResult result (λ v. files path ≡ Some v.items) (λ fault. fault ≡ TooLong → HasMore (files path) most))

-- a file with its path
pub record StoredFile : Type 0 where
  pub path : List ℕ
  pub bytes : List ℕ

abbrev pub stored : String Global × Vec ℕ Global → StoredFile
stored file = record { path = string_bytes file.0; bytes = file.1.items }

-- the list as a map: the first file of a path counts
abbrev pub map_of : List StoredFile → FileMap
map_of [] path = None
map_of (file ∷ files) path = if bytes_eq file.path path then Some file.bytes else map_of files path

-- the same, where every other path has an empty text
abbrev pub map_or_empty : List StoredFile → FileMap
map_or_empty files path = Some (unwrap_or (map_of files path) [])

-- the bytes that a reader has left, where they are known, are these
abbrev pub Holds : Option (List ℕ) → List ℕ → Type 0
Holds known bytes = IfSome known (λ all. all ≡ bytes)

-- the bytes that a reader has left, where they are known, are more than so many
abbrev pub IsLonger : Option (List ℕ) → ℕ → Type 0
IsLonger known most = IfSome known (λ all. most < length all)
