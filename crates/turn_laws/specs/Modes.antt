-- The turns of all four modes as one family, over what any of them carries from turn to turn.
use Rattle.std.specs.Prelude.{◌≡◌, List, [], ◌++◌, Bool, false}
use Rattle.task_model.specs.declared.task.Task.{Task}
use Rattle.transcript_model.specs.Rounds.{Limits}
use Rattle.transcript_model.specs.Turns.{AdaptiveTurn, BindingTurn, FocusedTurn, IncrementalTurn, Kept, MayBegin}
use Rattle.transcript_model.specs.declared.entry.Entry.{Entry}
use Rattle.transcript_model.specs.declared.head.Mode.{Mode}
use Rattle.transcript_model.specs.declared.head.Mode.TheVariants.{Incremental, Focused, Binding, Adaptive}

-- before the first turn nothing was tried, and there is no skeleton
abbrev pub nothing_kept : Kept
nothing_kept = record { tried = []; skeletons = [] }

-- A turn of the mode, behind these entries: what was carried before and is carried afterwards, and whether its last
-- batch was cut. A mode leaves alone what it doesn't use.
abbrev pub TurnOf : Mode → Limits → Task → Kept → List Entry → List Entry → Kept → Bool → Type 0
TurnOf Incremental limits task k before now next cut =
    IncrementalTurn limits task tt before now tt cut × (next ≡ k)
TurnOf Focused limits task k before now next cut =
    FocusedTurn limits task k.tried before now next.tried cut × (next.skeletons ≡ k.skeletons)
TurnOf Binding limits task k before now next cut =
    BindingTurn limits task k.tried before now next.tried cut × (next.skeletons ≡ k.skeletons)
TurnOf Adaptive limits task k before now next cut = AdaptiveTurn limits task k before now next cut

-- Whole turns, none of which is cut, lead from what is carried first to what is carried last.
pub data LeadTo (limits : Limits) (task : Task) : Kept → List Entry → List Entry → Kept → Type 0 where
  none_left : {k : Kept} {before : List Entry} → LeadTo limits task k before [] k
  whole : {k last : Kept} {before rest : List Entry} (next : Kept) (now : List Entry) → MayBegin limits task before
      → TurnOf limits.mode limits task k before now next false → LeadTo limits task next (before ++ now) rest last
      → LeadTo limits task k before (now ++ rest) last

-- The transcript is a list of whole turns, and this is carried behind it.
abbrev pub Leaves : Limits → Task → List Entry → Kept → Type 0
Leaves limits task entries k = LeadTo limits task nothing_kept [] entries k
