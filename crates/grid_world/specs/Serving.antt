-- What the program does with its file, its input and its output.
use Rattle.std.specs.Prelude.{◌≡◌, ℕ, ◌<◌, ◌≤◌, ◌⊎◌, List, [], ◌∷◌, ◌++◌, All, length, take, Result, Ok, Err, Option, Some, IfSome}
use Rattle.std.specs.Io.KnownBytes.{Appends, Consumes, IsAtEnd}
use Rattle.io_world.specs.Faults.{last_count, Extends, Rose}
use Rattle.io_world.specs.FileMap.{AskedPath, FileMap, HasMore}
use Rattle.io_world.specs.declared.files.FileFault.{FileFault}
use Rattle.io_world.specs.declared.files.FileFault.TheVariants as fault
use Rattle.gen_lines.specs.Cutting.{Cut}
use Rattle.gen_lines.specs.Lines.{lines_of, unfinished}
use Rattle.grid_text.specs.Files.{BlamesGridText, IsGridOf}
use Rattle.grid_text.specs.Grids.{GridFile}
use Rattle.grid_text.specs.declared.fault.GridFault.TheVariants.{At}
use Rattle.grid_text.specs.declared.fault.GridKind.{GridKind}
use Rattle.grid_world.specs.AnswerLines.{answer_to_line, replies_to}
use Rattle.grid_world.specs.declared.held.TheConstants.{HELD_BYTES}
use Rattle.grid_world.specs.declared.service.TheConstants.{GRID_BYTES, MOST_LINES}
use Rattle.grid_world.specs.declared.status.GridStatus.{GridStatus}
use Rattle.grid_world.specs.declared.status.GridStatus.TheVariants.{Done, Limit, Usage, Input, ReadFault, WriteFault, Memory}

abbrev pub status_code : GridStatus → ℕ
status_code Done = 0
status_code Limit = 2
status_code Usage = 3
status_code Input = 4
status_code ReadFault = 6
status_code WriteFault = 8
status_code Memory = 9

-- The answers to these lines were written, but for the end of the last one's: the write of it failed, and nothing was
-- written behind that.
pub record WroteLastPart (grid : GridFile) (answered : List (List ℕ)) (old new : Option (List ℕ)) : Type 0 where
  pub before : List (List ℕ)
  pub line : List ℕ
  pub is : answered ≡ before ++ line ∷ []
  pub count : ℕ
  pub less : count < length (answer_to_line grid line)
  pub took : Appends old new (replies_to grid before ++ take count (answer_to_line grid line))

-- the answers to these lines were written, all of them, or the last one's in part where a write failed
abbrev pub Wrote : GridStatus → GridFile → List (List ℕ) → Option (List ℕ) → Option (List ℕ) → Type 0
Wrote Done grid answered old new = Appends old new (replies_to grid answered)
Wrote Limit grid answered old new = Appends old new (replies_to grid answered)
Wrote Usage grid answered old new = Appends old new (replies_to grid answered)
Wrote Input grid answered old new = Appends old new (replies_to grid answered)
Wrote ReadFault grid answered old new = Appends old new (replies_to grid answered)
Wrote WriteFault grid answered old new = WroteLastPart grid answered old new
Wrote Memory grid answered old new = Appends old new (replies_to grid answered)

-- How the answers ended: by the lines that were answered, those that were read behind them, the bytes behind the last
-- line feed, and what the source has left.
abbrev pub EndsSo : GridStatus → List (List ℕ) → List (List ℕ) → List ℕ → Option (List ℕ) → Type 0
EndsSo Done answered behind rest left = (behind ≡ []) × IsAtEnd left × (length rest < 4097)
EndsSo Limit answered behind rest left = length answered ≡ MOST_LINES
EndsSo Usage answered behind rest left = ⊥
EndsSo Input answered behind rest left = (behind ≡ []) × (4097 ≤ length rest)
EndsSo ReadFault answered behind rest left = (behind ≡ []) × (length rest < 4097)
EndsSo WriteFault answered behind rest left = 0 < length answered
EndsSo Memory answered behind rest left = answered ≡ []

-- Of the bytes that were read, which the source had next, the first lines were answered, at most 100,000, each shorter
-- than 4,097 bytes; their answers were written in order, and nothing else. What was read ahead, behind the last line
-- that was answered, is at most 4,097 bytes, as many as one read takes.
pub record AnswersLines (grid : GridFile) (before after old new : Option (List ℕ)) (status : GridStatus) : Type 0 where
  pub read : List ℕ
  pub from : Consumes before after read
  pub answered : List (List ℕ)
  pub behind : List (List ℕ)
  pub lines : lines_of read ≡ answered ++ behind
  pub few : length answered ≤ MOST_LINES
  pub short : All (λ line. length line < 4097) answered
  pub ahead : List ℕ
  pub cut : Cut read answered ahead
  pub near : length ahead ≤ HELD_BYTES
  pub wrote : Wrote status grid answered old new
  pub ends : EndsSo status answered behind (unfinished read) after

-- counts of faults never fall, and the one of the source or of the sink rose where its fault is told
pub record HasFaults (source_old source_new sink_old sink_new : ℕ) (status : GridStatus) : Type 0 where
  pub source : source_old ≤ source_new
  pub sink : sink_old ≤ sink_new
  pub read : status ≡ ReadFault → Rose last_count source_old source_new
  pub write : status ≡ WriteFault → Rose last_count sink_old sink_new

-- What is told of the outside: the files, the paths that were asked for, the counts of faults of the files, the source
-- and the sink, the bytes that the source had left, and those that the sink took.
pub record ServedOutside : Type 0 where
  pub told : Option FileMap
  pub asked_old : Option (List AskedPath)
  pub asked_new : Option (List AskedPath)
  pub files_old : ℕ
  pub files_new : ℕ
  pub source_old : ℕ
  pub source_new : ℕ
  pub sink_old : ℕ
  pub sink_new : ℕ
  pub before : Option (List ℕ)
  pub after : Option (List ℕ)
  pub old : Option (List ℕ)
  pub new : Option (List ℕ)

-- nothing was read of the source, and nothing written
pub record NothingPassed (outside : ServedOutside) : Type 0 where
  pub left : outside.after ≡ outside.before
  pub taken : outside.new ≡ outside.old

-- the grid was read, and lines were answered
pub record HasServed (outside : ServedOutside) (bytes : List ℕ) (status : GridStatus) : Type 0 where
  pub grid : GridFile
  pub read : IsGridOf bytes grid
  pub answers : AnswersLines grid outside.before outside.after outside.old outside.new status
  pub faults : HasFaults outside.source_old outside.source_new outside.sink_old outside.sink_new status

-- the file is no grid file
pub record IsGridRefused (outside : ServedOutside) (bytes : List ℕ) (status : GridStatus) : Type 0 where
  pub line : ℕ
  pub kind : GridKind
  pub blames : BlamesGridText bytes (At line kind)
  pub is : status ≡ Input
  pub untouched : NothingPassed outside

-- nothing was done with this status
pub record HasStopped (outside : ServedOutside) (status told : GridStatus) : Type 0 where
  pub is : status ≡ told
  pub untouched : NothingPassed outside

abbrev pub GridSo : ServedOutside → List ℕ → GridStatus → Type 0
GridSo outside bytes status =
    HasServed outside bytes status ⊎ IsGridRefused outside bytes status
    ⊎ HasStopped outside status Memory

-- what was done by what the read of the file answered, which is at most 4 MiB
abbrev pub FileSo : ServedOutside → List ℕ → GridStatus → Result (Unit {0}) FileFault → Type 0
FileSo outside path status (Ok u) =
    (bytes : List ℕ) × (length bytes ≤ GRID_BYTES) × IfSome outside.told (λ files. files path ≡ Some bytes)
    × GridSo outside bytes status
FileSo outside path status (Err fault.Failed) =
    HasStopped outside status ReadFault × Rose last_count outside.files_old outside.files_new
FileSo outside path status (Err fault.TooLong) =
    HasStopped outside status ReadFault
    × IfSome outside.told (λ files. HasMore (files path) GRID_BYTES)
FileSo outside path status (Err fault.Memory) = HasStopped outside status Memory

-- the one file was asked for
pub record HasAsked (outside : ServedOutside) (path : List ℕ) (status : GridStatus) : Type 0 where
  pub answer : Result (Unit {0}) FileFault
  pub asked : Extends outside.asked_old outside.asked_new (record { path = path; answer = answer } ∷ [])
  pub so : FileSo outside path status answer

-- no file was asked for
pub record HasRefusedWords (outside : ServedOutside) (status : GridStatus) : Type 0 where
  pub stopped : HasStopped outside status Usage
  pub asked : outside.asked_new ≡ outside.asked_old

-- The words are one path, or they are refused.
abbrev pub Serves : ServedOutside → List (List ℕ) → GridStatus → Type 0
Serves outside [] status = HasRefusedWords outside status
Serves outside (path ∷ []) status = HasAsked outside path status
Serves outside (path ∷ next ∷ more) status = HasRefusedWords outside status
