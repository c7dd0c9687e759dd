-- Calls on one child of the host below, and how many of them failed.
use Rattle.std.specs.Prelude.{◌≡◌, ◌≢◌, ℕ, ◌+◌, ◌<◌, ◌≤◌, Bool, true, false, cond, List, count_by, Option, Result, Ok, Err, IsErrOf}
use Rattle.std.specs.List.{All}
use Rattle.io_world.specs.Leads.{wants_memory}
use Rattle.io_world.specs.Talks.{Event, started, wrote, heard, stopped, LogGrows}
use Rattle.io_world.specs.declared.host.HostFault.{HostFault}
use Rattle.io_world.specs.declared.host.HostFault.TheVariants.{Failed, Memory}

-- What a host tells: which children run, its count of faults and the log of all calls.
pub record Seen : Type 0 where
  pub running : ℕ → Bool
  pub faults : ℕ
  pub log : Option (List Event)

-- what a host of a type tells that has these ghosts
abbrev pub seen_by_host : {S : Type 0} → (S → ℕ → Bool) → (S → ℕ) → (S → Option (List Event)) → S → Seen
seen_by_host running faults log host = record { running = running host; faults = faults host; log = log host }

-- the call answered that the child failed
abbrev pub is_failed : {T : Type 0} → Result T HostFault → Bool
is_failed (Ok value) = false
is_failed (Err Failed) = true
is_failed (Err Memory) = false

-- 1 where the call answered that the child failed
abbrev pub refusals : {T : Type 0} → Result T HostFault → ℕ
refusals result = cond (is_failed result) 1 0

-- a start, a write or a read that failed
abbrev pub has_failed : Event → Bool
has_failed (started child words answer) = is_failed answer
has_failed (wrote child bytes answer) = is_failed answer
has_failed (heard child room answer) = is_failed answer
has_failed (stopped child answer) = false

-- how many of the calls failed
abbrev pub failures : List Event → ℕ
failures events = count_by has_failed events

-- a call on this child; a start with these words
abbrev pub IsOn : ℕ → List (List ℕ) → Event → Type 0
IsOn child words (started k argv answer) = (k ≡ child) × (argv ≡ words)
IsOn child words (wrote k bytes answer) = k ≡ child
IsOn child words (heard k room answer) = k ≡ child
IsOn child words (stopped k answer) = k ≡ child

-- What calls on a child that did this made of what its host tells: so many of them failed, and the count of faults rose
-- by as much, up to its last value.
pub record CalledInner (child : ℕ) (words : List (List ℕ)) (last : ℕ) (old new : Seen) (count : ℕ)
    (Does : List Event → Type 0) : Type 0 where
  pub others : (k : ℕ) → k ≢ child → new.running k ≡ old.running k
  pub later : old.faults ≤ new.faults
  pub rose : new.faults < last → old.faults + count ≤ new.faults
  pub events : List Event
  pub on : All (IsOn child words) events
  pub failed : failures events ≡ count
  pub log : LogGrows old.log new.log events
  pub does : Does events

-- Calls that are done again where they fail: each failure but the last one is made good, and takes one from those that
-- still are. Unless memory was wanting, so many were made good, and no more.
pub record Tried {T : Type 0} (child : ℕ) (words : List (List ℕ)) (last left_old left_new : ℕ) (old new : Seen)
    (result : Result T HostFault) (Does : List Event → Type 0) : Type 0 where
  pub count : ℕ
  pub called : CalledInner child words last old new count Does
  pub left : left_old + refusals result ≤ left_new + count
  pub most : wants_memory result ≡ false → left_new + count ≤ left_old + refusals result
  pub fewer : left_new ≤ left_old
  pub spent : IsErrOf result Failed → left_new ≡ 0

-- a failure takes one from those that are made good; where none is left, or memory was wanting, the fault is handed on
abbrev pub Spends : HostFault → ℕ → ℕ → Result (Unit {0}) HostFault → Type 0
Spends fault old new (Ok u) = (fault ≡ Failed) × (old ≡ new + 1)
Spends fault old new (Err why) = (why ≡ fault) × (new ≡ old) × (fault ≡ Failed → old ≡ 0)
