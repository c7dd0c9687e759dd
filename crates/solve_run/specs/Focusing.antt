-- What the modes that dream carry from turn to turn, and what their turns are.
use Rattle.std.specs.Prelude.{◌≡◌, ℕ, ◌<◌, ◌≤◌, ⊤, List, [], length, nat_lt, true, cond, count_by}
use Rattle.std.specs.List.{list_all}
use Rattle.instance_queue.specs.declared.due.Due.{Due}
use Rattle.turn_run.specs.Advancing.{IsFrontOfTurn, RanTurn}
use Rattle.turn_run.specs.Turns.{IsTurn}
use Rattle.turn_run.specs.declared.turns.Turned.{Turned}
use Rattle.session_core.specs.State.{State}
use Rattle.task_model.specs.Dreams as dreams
use Rattle.task_model.specs.declared.stream.Instance.{Instance}
use Rattle.task_model.specs.declared.task.Task.{Task}
use Rattle.transcript_model.specs.Dreaming.{IsDreamAfter}
use Rattle.transcript_model.specs.Legal.{is_level}
use Rattle.transcript_model.specs.Rounds.{Limits}
use Rattle.transcript_model.specs.Turns.{Kept, Skeleton}
use Rattle.transcript_model.specs.declared.entry.Entry.{Entry}
use Rattle.transcript_model.specs.declared.entry.Entry.TheVariants as entry
use Rattle.transcript_model.specs.declared.head.Head.{Head}
use Rattle.transcript_model.specs.declared.head.Mode.{Mode}
use Rattle.transcript_model.specs.declared.head.Mode.TheVariants.{Incremental, Focused, Binding, Adaptive}

-- the instances that were tried, and these skeletons
abbrev pub carrying : List Skeleton → List Instance → Kept
carrying skeletons tried = record { tried = tried; skeletons = skeletons }

-- the instances that were tried, and no skeletons
abbrev pub carried : List Instance → Kept
carried tried = carrying [] tried

-- one turn may ask nothing where something is tried: it forgets that
abbrev pub idle_of : List Instance → ℕ
idle_of tried = cond (nat_lt 0 (length tried)) 1 0

-- A turn begins: these instances are due, and no more levels stand than requests.
pub record BeginsFocusedTurn (task : Task) (head : Head) (s : State) (dues : List Due) : Type 0 where
  pub turn : IsTurn head task s.entries (length s.asked) dues
  pub levels : count_by is_level s.entries ≤ length s.asked

-- A call is left, and no more levels stand than requests.
pub record HasCallLeft (head : Head) (s : State) : Type 0 where
  pub left : length s.asked < head.calls
  pub levels : count_by is_level s.entries ≤ length s.asked

-- the entry is the line of a dream, which has these entries and no more steps than the limit of states
abbrev pub IsDreamLine : Limits → Task → List Entry → List Instance → Entry → List dreams.SupposedEntry
    → Type 0
IsDreamLine limits task before tried (entry.Dream uses steps) entries =
    IsDreamAfter limits task before tried uses steps entries × (length steps ≤ limits.states)
IsDreamLine limits task before tried e entries = ⊥

-- what a turn has done that leaves the skeletons, where these were tried before and those are afterwards
abbrev pub RanDreaming : Task → Head → List Skeleton → List Instance → List Instance → State → State → Turned
    → Type 0
RanDreaming task head skeletons tried next =
    RanTurn task head (carrying skeletons tried) (carrying skeletons next) (idle_of tried) (idle_of next) (λ asked. ⊤)

-- the same of a mode without skeletons
abbrev pub RanFocused : Task → Head → List Instance → List Instance → State → State → Turned
    → Type 0
RanFocused task head = RanDreaming task head []

-- Where a turn finds no dream it may fall back in a mode that dreams: in adaptive mode only where all skeletons are
-- given up.
abbrev pub MayFallBack : Mode → List Skeleton → Type 0
MayFallBack Incremental skeletons = ⊥
MayFallBack Focused skeletons = Unit {0}
MayFallBack Binding skeletons = Unit {0}
MayFallBack Adaptive skeletons = list_all (λ (s : Skeleton). s.retired) skeletons ≡ true

-- the same of a turn that found no dream, whatever skeletons the mode keeps
abbrev pub RanDreamless : Task → Head → List Instance → List Instance → State → State → Turned → Type 0
RanDreamless task head tried next old new t =
    (skeletons : List Skeleton) → MayFallBack head.mode skeletons → RanDreaming task head skeletons tried next old new t

-- the first entries of what would be that
abbrev pub IsFrontOfDreamless : Task → Head → List Instance → List Entry → List Entry → Type 0
IsFrontOfDreamless task head tried before es =
    (skeletons : List Skeleton) → MayFallBack head.mode skeletons
    → IsFrontOfTurn task head (carrying skeletons tried) before es
