-- What a run sees of the outside: what files, children and the sink tell, before it and after it.
use Rattle.std.specs.Prelude.{◌≡◌, ℕ, List, Option}
use Rattle.io_world.specs.FileMap.{AskedPath, FileMap}
use Rattle.io_world.specs.Faults.{Rose, last_count}
use Rattle.io_world.specs.Talks.{Event, Talk}

-- What stands under each path, the count of the files' faults, and the paths that were asked for.
pub record FilesSeen : Type 0 where
  pub told : Option FileMap
  pub first : ℕ
  pub last : ℕ
  pub before : Option (List AskedPath)
  pub after : Option (List AskedPath)

-- what files of a type tell that has these ghosts
abbrev pub seen_of : {F : Type 0} → (F → Option FileMap) → (F → ℕ) → (F → Option (List AskedPath)) → F → F
    → FilesSeen
seen_of told faults asked old new =
    record { told = told old; first = faults old; last = faults new; before = asked old; after = asked new }

-- what files tell of which none is read
abbrev pub unread : Option FileMap → ℕ → Option (List AskedPath) → FilesSeen
unread told count asked =
    record { told = told; first = count; last = count; before = asked; after = asked }

-- the count of faults rose
abbrev pub HaveFailed : FilesSeen → Type 0
HaveFailed files = Rose last_count files.first files.last

-- The files; what was said with each child, at last; and the calls that came to the host's log.
pub record Outside : Type 0 where
  pub files : FilesSeen
  pub spoken : ℕ → Option Talk
  pub was : Option (List Event)
  pub now : Option (List Event)

-- what files and a host of a type tell that has these ghosts
abbrev pub outside_of : {H : Type 0} → FilesSeen → (H → ℕ → Option Talk)
    → (H → Option (List Event)) → H → H
    → Outside
outside_of files spoken log old new =
    record { files = files; spoken = spoken new; was = log old; now = log new }

-- what files tell, with a host on which no call is made
abbrev pub resting : FilesSeen → (ℕ → Option Talk) → Option (List Event) → Outside
resting files spoken log = record { files = files; spoken = spoken; was = log; now = log }

-- no call was made on a child
abbrev pub IsUntouched : Outside → Type 0
IsUntouched outside = outside.now ≡ outside.was

-- What the sink had taken.
pub record Written : Type 0 where
  pub before : Option (List ℕ)
  pub after : Option (List ℕ)

-- what a sink of a type tells that has this ghost
abbrev pub written_of : {O : Type 0} → (O → Option (List ℕ)) → O → O → Written
written_of taken old new = record { before = taken old; after = taken new }
