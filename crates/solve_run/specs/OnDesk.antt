-- What the parts of a turn have done to a desk: what of the task, the head and the session, and how far where they broke
-- off.
use Rattle.std.specs.Prelude.{ℕ, List, [], Bool, Option, Result}
use Rattle.dream_asks.specs.Progress.{Progress}
use Rattle.instance_queue.specs.declared.due.Due.{Due}
use Rattle.solve_run.specs.Adaptive.{RanAdaptive}
use Rattle.solve_run.specs.Batching.{IsFrontBehindLine, IsFrontOfBatches, IsFrontOfNext, OnBatches, RanBatches, RanBehindLine, RanNextBatch}
use Rattle.solve_run.specs.Focusing.{IsDreamLine, IsFrontOfDreamless, RanDreamless, RanFocused, carried}
use Rattle.solve_run.specs.Levels.{IsFrontOfFallback, IsSomeLevel, RanFallback, RanLevel}
use Rattle.solve_run.specs.Skeletons.{IsFrontBehindPick, IsFrontOfPick, KeepsOn, MayPick, RanBehindPick, RanPick, kept_of}
use Rattle.solve_run.specs.declared.adaptive_mode.AdaptiveTurns.{AdaptiveTurns}
use Rattle.solve_run.specs.declared.dreamt.LinedDream.{LinedDream}
use Rattle.round_run.specs.Desk.{AtDesk, OnBatch, OnTurn}
use Rattle.round_run.specs.Rolling.{IsFrontPart}
use Rattle.round_run.specs.Told.{Stretch}
use Rattle.round_run.specs.declared.ending.Batch.{Batch}
use Rattle.round_run.specs.declared.fault.RunFault.{RunFault}
use Rattle.skeletons.specs.Skeletons.{skeletons_in}
use Rattle.task_model.specs.Dreams as dreams
use Rattle.task_model.specs.declared.stream.Instance.{Instance}
use Rattle.transcript_model.specs.Dreaming.{HasNoDreamAfter}
use Rattle.transcript_model.specs.Rounds.{limits_of}
use Rattle.transcript_model.specs.Turns.{Kept}
use Rattle.transcript_model.specs.declared.entry.Entry.{Entry}
use Rattle.turn_run.specs.Advancing.{IsFrontOfTurn}
use Rattle.turn_run.specs.declared.turns.Turned.{Turned}

-- ---- levels

-- a whole level
abbrev pub OnLevel : AtDesk → AtDesk → Stretch → List Due → Result Batch RunFault → Type 0
OnLevel old new c dues result =
    OnTurn old new c (RanLevel old.task old.head dues old.state new.state)
    (IsFrontPart old.state.entries (IsSomeLevel old.head old.task old.state.entries)) result

-- what follows a `none`
abbrev pub OnFallback : AtDesk → AtDesk → Stretch → (is_tried : Bool) → List Due → Result Batch RunFault → Type 0
OnFallback old new c is_tried dues result =
    OnTurn old new c (RanFallback old.task old.head is_tried dues old.state new.state)
    (IsFrontOfFallback old.head old.task is_tried old.state.entries) result

-- ---- dreams

-- the dream is one after what lies on the desk, where these were tried
abbrev pub IsDreamAt : AtDesk → List Instance → LinedDream → Type 0
IsDreamAt desk tried dream =
    IsDreamLine (limits_of desk.head) desk.task desk.state.entries tried dream.line dream.entries.items

-- there is none
abbrev pub HasNoDreamAt : AtDesk → List Instance → Type 0
HasNoDreamAt desk tried = HasNoDreamAfter (limits_of desk.head) desk.task desk.state.entries tried

-- a turn of a mode without skeletons, where these were tried before and those are afterwards
abbrev pub OnFocused : AtDesk → AtDesk → Stretch → (tried next : List Instance) → Result Turned RunFault → Type 0
OnFocused old new c tried next result =
    OnTurn old new c (RanFocused old.task old.head tried next old.state new.state)
    (IsFrontOfTurn old.task old.head (carried tried) old.state.entries) result

-- a turn that found no dream
abbrev pub OnDreamless : AtDesk → AtDesk → Stretch → (tried next : List Instance) → Result Turned RunFault → Type 0
OnDreamless old new c tried next result =
    OnTurn old new c (RanDreamless old.task old.head tried next old.state new.state)
    (IsFrontOfDreamless old.task old.head tried old.state.entries) result

-- ---- batches of a dream that has these entries, where so many objects had names without it

-- the next batch
abbrev pub OnNextBatch : AtDesk → AtDesk → Stretch → List dreams.SupposedEntry → (gone later : Progress)
    → (tried joined : List Instance) → Result (Option Batch) RunFault → Type 0
OnNextBatch old new c entries gone later tried joined result =
    OnBatch old new c (RanNextBatch old.head old.task entries old.state new.state gone later tried joined c.was.host.log
    c.now.host.log) (IsFrontOfNext old.head old.task entries gone old.state.entries) result

-- all batches
abbrev pub OnAllBatches : AtDesk → AtDesk → Stretch → (real : ℕ) → List dreams.SupposedEntry
    → (tried joined : List Instance) → Result Batch RunFault → Type 0
OnAllBatches old new c real entries tried joined result =
    OnBatches old new c (RanBatches old.head old.task real entries old.state new.state tried joined)
    (IsFrontOfBatches old.head old.task real entries [] old.state.entries) result

-- all batches behind a line
abbrev pub OnBehindLine : AtDesk → AtDesk → Stretch → (real : ℕ) → List dreams.SupposedEntry → Entry
    → (tried joined : List Instance) → Result Batch RunFault → Type 0
OnBehindLine old new c real entries line tried joined result =
    OnTurn old new c (RanBehindLine old.head old.task real entries line old.state new.state tried joined)
    (IsFrontBehindLine old.head old.task real entries old.state.entries line) result

-- ---- skeletons

-- what adaptive mode carries
abbrev pub carried_by : AdaptiveTurns → Kept
carried_by mode = kept_of mode.skeletons.items mode.tried

-- a pick, where a mode carried this before and carries that afterwards
abbrev pub OnPick : AtDesk → AtDesk → Stretch → (kept next : Kept) → Result Turned RunFault → Type 0
OnPick old new c kept next result =
    OnTurn old new c (RanPick old.head old.task kept next old.state new.state)
    (IsFrontOfPick old.head old.task kept old.state.entries) result

-- a pick behind a line
abbrev pub OnBehindPick : AtDesk → AtDesk → Stretch → (kept next : Kept) → Entry → Result Turned RunFault → Type 0
OnBehindPick old new c kept next line result =
    OnTurn old new c (RanBehindPick old.head old.task kept next line old.state new.state)
    (IsFrontBehindPick old.head old.task kept old.state.entries line) result

-- the mode is adaptive, and carries few skeletons
abbrev pub KeepsAt : AtDesk → AdaptiveTurns → Type 0
KeepsAt desk mode = KeepsOn desk.head (skeletons_in mode.skeletons.items) desk.state

-- the skeleton at this place may be picked of those that it carries
abbrev pub MayPickAt : AtDesk → AdaptiveTurns → ℕ → Type 0
MayPickAt desk mode place = MayPick desk.head (skeletons_in mode.skeletons.items) place desk.state

-- a turn of adaptive mode, which carried this before and carries that afterwards
abbrev pub OnAdaptive : AtDesk → AtDesk → Stretch → (mode next : AdaptiveTurns) → Result Turned RunFault → Type 0
OnAdaptive old new c mode next result =
    OnTurn old new c (RanAdaptive old.task old.head mode.skeletons.items mode.tried next.skeletons.items next.tried old.state
    new.state) (IsFrontOfTurn old.task old.head (carried_by mode) old.state.entries) result
