-- The turns of a mode are the same in every version of the report.
use Rattle.std.proofs.Common.{ℕ, ◌++◌, inl, inr, List, [], Bool, true, false}
use Rattle.dream_check.specs.Judged.{IsUndecidedNone}
use Rattle.dream_check.specs.Lines.{BreaksDreamStep, BreaksUse, IsChosen, IsWrongLine}
use Rattle.turn_laws.proofs.ModesLemmas.{as_family, of_mode}
use Rattle.turn_laws.specs.Modes.{LeadTo, Leaves, TurnOf, none_left as lead_none, nothing_kept, whole as lead_whole}
use Rattle.task_model.specs.Dreams as dreams
use Rattle.task_model.specs.declared.stream.Instance.{Instance}
use Rattle.task_model.specs.declared.task.Task.{Task}
use Rattle.transcript_model.specs.Dreaming.{IsDreamAfter, Sent}
use Rattle.transcript_model.specs.Rounds.{IsBatch, Limits, Share}
use Rattle.transcript_model.specs.Turns.{AreBatches, AreTurns, AreTurnsOf, HasNoSkeleton, IsDreamTurn, IsEmptyTurn, IsFallback, IsFirstBatch, IsLevel, IsNewSkeleton, IsOldSkeleton, IsPickTurn, Kept, MayBegin, Stage, cut_off, finished, further, last, level, none_left, reset, stopped, whole}
use Rattle.transcript_model.specs.declared.entry.Call.{Call}
use Rattle.transcript_model.specs.declared.entry.DreamUse.{DreamUse}
use Rattle.transcript_model.specs.declared.entry.Entry.{Entry}
use Rattle.transcript_model.specs.declared.head.Mode.{Mode}
use Rattle.transcript_model.specs.declared.head.Mode.TheVariants.{Incremental, Focused, Binding, Adaptive}

-- what is bound but for the version
pub record Bound : Type 0 where
  pub mode : Mode
  pub calls : ℕ
  pub states : ℕ
  pub depth : ℕ
  pub pools : List Share

abbrev pub at : Bound → ℕ → Limits
at b version = record {
  version = version;
  mode = b.mode;
  calls = b.calls;
  states = b.states;
  depth = b.depth;
  pools = b.pools;
}

module _ (b : Bound) (v w : ℕ) (task : Task) where
  -- ---- parts of turns

  pub may_begin : (before : List Entry) → MayBegin (at b v) task before → MayBegin (at b w) task before
  may_begin before m = record { list = m.list; due = m.due; some = m.some; few = m.few; left = m.left }

  batch : (before : List Entry) (list : List Instance) (now : List Entry) → IsBatch (at b v) task before list now
      → IsBatch (at b w) task before list now
  batch before list now m = record { rounds = m.rounds; cut = m.cut; run = m.run }

  level_turn : (before now : List Entry) (cut : Bool) → IsLevel (at b v) task before now cut
      → IsLevel (at b w) task before now cut
  level_turn before now cut m = record {
    list = m.list;
    due = m.due;
    rest = m.rest;
    is = m.is;
    batch = batch _ m.list m.rest m.batch;
    cut_is = m.cut_is;
  }

  fallback : (before : List Entry) (tried : List Instance) (now : List Entry) (cut : Bool)
      → IsFallback (at b v) task before tried now cut → IsFallback (at b w) task before tried now cut
  fallback before tried now cut (reset first more) = reset first more
  fallback before tried now cut (level m) = level (level_turn before now cut m)

  batches : (real : ℕ) (entries : List dreams.SupposedEntry) (sent : List Sent) (before now : List Entry)
      (after : List Sent) (cut : Bool)
      → AreBatches (at b v) task real entries sent before now after cut
      → AreBatches (at b w) task real entries sent before now after cut
  batches real entries sent before now after cut (finished none) = finished none
  batches real entries sent before now after cut (last next is more m) = last next is more (batch before _ now m)
  batches real entries sent before now after cut (further {now = first} {rest = rest} next is some all m more) =
      further next is some all (batch before _ first m)
      (batches real entries (sent ++ next) (before ++ first) rest after cut more)

  first_batch : (real : ℕ) (entries : List dreams.SupposedEntry) (before now : List Entry) (after : List Sent)
      (cut : Bool)
      → IsFirstBatch (at b v) task real entries before now after cut
      → IsFirstBatch (at b w) task real entries before now after cut
  first_batch real entries before now after cut m = record {
    list = m.list;
    ready = m.ready;
    batch = batch before _ now m.batch;
    asked = m.asked;
    cut_is = m.cut_is;
  }

  pub dream_after : (before : List Entry) (tried : List Instance) (uses : List DreamUse) (steps : List Call)
      (entries : List dreams.SupposedEntry) → IsDreamAfter (at b v) task before tried uses steps entries
      → IsDreamAfter (at b w) task before tried uses steps entries
  dream_after before tried uses steps entries m = record {
    list = m.list;
    supposed = m.supposed;
    plan = m.plan;
    dream = m.dream;
    numbers = m.numbers;
    calls = m.calls;
    shown = m.shown;
  }

  dream_turn : (asks others : ℕ → List dreams.SupposedEntry → List Entry → List Entry → List Sent → Bool → Type 0)
      → ((real : ℕ) (entries : List dreams.SupposedEntry) (from now : List Entry) (sent : List Sent) (cut : Bool)
      → asks real entries from now sent cut → others real entries from now sent cut)
      → (tried : List Instance) (before now : List Entry) (next : List Instance) (cut : Bool)
      → IsDreamTurn (at b v) task asks tried before now next cut
      → IsDreamTurn (at b w) task others tried before now next cut
  dream_turn asks others each tried before now next cut m = record {
    uses = m.uses;
    steps = m.steps;
    entries = m.entries;
    dream = dream_after before tried m.uses m.steps m.entries m.dream;
    rest = m.rest;
    is = m.is;
    sent = m.sent;
    batches = each _ m.entries _ m.rest m.sent cut m.batches;
    joined = m.joined;
  }

  empty_turn : (tried : List Instance) (before now : List Entry) (next : List Instance) (cut : Bool)
      → IsEmptyTurn (at b v) task tried before now next cut → IsEmptyTurn (at b w) task tried before now next cut
  empty_turn tried before now next cut m = record {
    none = m.none;
    rest = m.rest;
    is = m.is;
    fallback = fallback _ tried m.rest cut m.fallback;
    forgotten = m.forgotten;
  }

  pick_turn : (kept : Kept) (before now : List Entry) (next : Kept) (cut : Bool)
      → IsPickTurn (at b v) task kept before now next cut → IsPickTurn (at b w) task kept before now next cut
  pick_turn kept before now next cut m = record {
    place = m.place;
    skeleton = m.skeleton;
    picked = m.picked;
    batches = m.batches;
    sent = m.sent;
    run = batches m.skeleton.real m.skeleton.entries [] _ m.batches m.sent cut m.run;
    is = m.is;
    next_is = m.next_is;
  }

  new_skeleton : (kept : Kept) (before now : List Entry) (next : Kept) (cut : Bool)
      → IsNewSkeleton (at b v) task kept before now next cut → IsNewSkeleton (at b w) task kept before now next cut
  new_skeleton kept before now next cut m = record {
    uses = m.uses;
    steps = m.steps;
    entries = m.entries;
    dream = dream_after before kept.tried m.uses m.steps m.entries m.dream;
    rest = m.rest;
    is = m.is;
    pick = pick_turn _ _ m.rest next cut m.pick;
  }

  old_skeleton : (kept : Kept) (before now : List Entry) (next : Kept) (cut : Bool)
      → IsOldSkeleton (at b v) task kept before now next cut → IsOldSkeleton (at b w) task kept before now next cut
  old_skeleton kept before now next cut m = record {
    none = m.none;
    rest = m.rest;
    is = m.is;
    pick = pick_turn kept _ m.rest next cut m.pick;
  }

  no_skeleton : (kept : Kept) (before now : List Entry) (next : Kept) (cut : Bool)
      → HasNoSkeleton (at b v) task kept before now next cut → HasNoSkeleton (at b w) task kept before now next cut
  no_skeleton kept before now next cut m = record {
    all_retired = m.all_retired;
    tried = m.tried;
    turn = empty_turn kept.tried before now m.tried cut m.turn;
    next_is = m.next_is;
  }

  -- ---- turns

  turn : (mode : Mode) (kept : Kept) (before now : List Entry) (next : Kept) (cut : Bool)
      → TurnOf mode (at b v) task kept before now next cut → TurnOf mode (at b w) task kept before now next cut
  turn Incremental kept before now next cut (m, same) = (level_turn before now cut m, same)
  turn Focused kept before now next cut (inl m, same) = (
    inl (dream_turn (IsFirstBatch (at b v) task)
        (IsFirstBatch (at b w) task) first_batch kept.tried before now next.tried cut m),
    same,
  )
  turn Focused kept before now next cut (inr m, same) = (inr (empty_turn kept.tried before now next.tried cut m), same)
  turn Binding kept before now next cut (inl m, same) = (
    inl (dream_turn (λ real entries. AreBatches (at b v) task real entries [])
        (λ real entries. AreBatches (at b w) task real entries [])
        (λ real entries from es sent c run. batches real entries [] from es sent c run) kept.tried before now
        next.tried cut m),
    same,
  )
  turn Binding kept before now next cut (inr m, same) = (inr (empty_turn kept.tried before now next.tried cut m), same)
  turn Adaptive kept before now next cut (inl m) = inl (new_skeleton kept before now next cut m)
  turn Adaptive kept before now next cut (inr (inl m)) = inr (inl (old_skeleton kept before now next cut m))
  turn Adaptive kept before now next cut (inr (inr m)) = inr (inr (no_skeleton kept before now next cut m))

  family : (mode : Mode) (kept : Kept) (before es : List Entry) (stage : Stage)
      → AreTurns (at b v) task (TurnOf mode (at b v) task) kept before es stage
      → AreTurns (at b w) task (TurnOf mode (at b w) task) kept before es stage
  family mode kept before es stage none_left = none_left
  family mode kept before es stage (whole next {now = now} {rest = rest} may this more) =
      whole next (may_begin before may) (turn mode kept before now next false this)
      (family mode next (before ++ now) rest stage more)
  family mode kept before es stage (cut_off next may this) =
      cut_off next (may_begin before may) (turn mode kept before es next true this)
  family mode kept before es stage (stopped next more cut may this) =
      stopped next more cut (may_begin before may) (turn mode kept before (es ++ more) next cut this)

  pub turns : (entries : List Entry) (stage : Stage) → AreTurnsOf b.mode (at b v) task entries stage
      → AreTurnsOf b.mode (at b w) task entries stage
  turns entries stage m =
      of_mode b.mode (at b w) task entries stage
      (family b.mode nothing_kept [] entries stage (as_family b.mode (at b v) task entries stage m))

  leads : (kept : Kept) (before es : List Entry) (next : Kept) → LeadTo (at b v) task kept before es next
      → LeadTo (at b w) task kept before es next
  leads kept before es next lead_none = lead_none
  leads kept before es next (lead_whole {rest = rest} after now may this more) =
      lead_whole after now (may_begin before may) (turn b.mode kept before now after false this)
      (leads after (before ++ now) rest next more)

  pub leaves : (entries : List Entry) (kept : Kept) → Leaves (at b v) task entries kept
      → Leaves (at b w) task entries kept
  leaves entries kept m = leads nothing_kept [] entries kept m

-- ---- the lines of a dream

module _ (b : Bound) (v w : ℕ) (task : Task) (before : List Entry) (tried : List Instance) where
  chosen : (uses : List DreamUse) (list entries : List dreams.SupposedEntry)
      → IsChosen (at b v) task before tried uses list entries
      → IsChosen (at b w) task before tried uses list entries
  chosen uses list entries m = record {
    supposed = m.supposed;
    few = m.few;
    places = m.places;
    ascend = m.ascend;
    chosen = m.chosen;
    support = m.support;
    numbers = m.numbers;
    calls = m.calls;
  }

module _ (b : Bound) (v w : ℕ) (task : Task) (before : List Entry) (tried : List Instance) where
  use_line : (uses : List DreamUse) (offset : ℕ) → BreaksUse (at b v) task before tried uses offset
      → BreaksUse (at b w) task before tried uses offset
  use_line uses offset m = record {
    place = m.place;
    within = m.within;
    wrong = λ u. m.wrong (u.0, u.1, chosen b w v task before tried _ u.0 u.1 u.2);
    is = m.is;
  }

  step_line : (uses : List DreamUse) (steps : List Call) (offset : ℕ)
      → BreaksDreamStep (at b v) task before tried uses steps offset
      → BreaksDreamStep (at b w) task before tried uses steps offset
  step_line uses steps offset m = record {
    place = m.place;
    within = m.within;
    stuck = λ u. m.stuck (u.0, u.1, chosen b w v task before tried uses u.0 u.1 u.2, u.3);
    is = m.is;
  }

  pub wrong_line : (uses : List DreamUse) (steps : List Call) (offset : ℕ)
      → IsWrongLine (at b v) task before tried uses steps offset
      → IsWrongLine (at b w) task before tried uses steps offset
  wrong_line uses steps offset (inl m) = inl (use_line uses offset m)
  wrong_line uses steps offset (inr (inl m)) = inr (inl (step_line uses steps offset m))
  wrong_line uses steps offset (inr (inr m)) =
      inr (inr (m.0, λ entries d. m.1 entries (dream_after b w v task before tried uses steps entries d)))

  pub undecided_none : (limit : ℕ) → IsUndecidedNone (at b v) task before tried limit
      → IsUndecidedNone (at b w) task before tried limit
  undecided_none limit m = record { list = m.list; supposed = m.supposed; few = m.few; below = m.below; many = m.many }
