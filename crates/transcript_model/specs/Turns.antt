-- The turns of a run in each mode (the modes' names are those of PDDLStream 2020; their turns are this project's).
use Rattle.std.specs.Prelude.{◌≡◌, ℕ, ◌+◌, ◌<◌, ◌≤◌, ◌⊎◌, nat_lt, List, [], ◌∷◌, ◌++◌, length, take, slice_set, Bool, true, false, Some, slice_get}
use Rattle.std.specs.List.{list_all}
use Rattle.task_model.specs.Dreams as dreams
use Rattle.task_model.specs.Streams.{AreDue}
use Rattle.task_model.specs.declared.limits.TheConstants.{MOST_DUE}
use Rattle.task_model.specs.declared.stream.Instance.{Instance}
use Rattle.task_model.specs.declared.task.Task.{Task}
use Rattle.transcript_model.specs.Dreaming.{Sent, next_sent, sent_instances, HasNoDreamAfter, IsDreamAfter}
use Rattle.transcript_model.specs.Legal.{IsLegal, asks_of}
use Rattle.transcript_model.specs.Rounds.{Limits, IsBatch, calls_left}
use Rattle.transcript_model.specs.Transcript.{names_of, known_of, notes_of}
use Rattle.transcript_model.specs.declared.entry.Call.{Call}
use Rattle.transcript_model.specs.declared.entry.DreamUse.{DreamUse}
use Rattle.transcript_model.specs.declared.entry.Entry.{Entry}
use Rattle.transcript_model.specs.declared.entry.Entry.TheVariants as entry
use Rattle.transcript_model.specs.declared.head.Mode.{Mode}
use Rattle.transcript_model.specs.declared.head.Mode.TheVariants.{Incremental, Focused, Binding, Adaptive}

-- ---- when a turn may begin

-- Something is due, but not too much, and a call is left.
pub record MayBegin (limits : Limits) (task : Task) (before : List Entry) : Type 0 where
  pub list : List Instance
  pub due : AreDue task (known_of task before) (notes_of task before) list
  pub some : 0 < length list
  pub few : length list ≤ MOST_DUE
  pub left : asks_of before < limits.calls

-- calls are wanting for all of the list
abbrev pub is_cut : {A : Type 0} → Limits → List Entry → List A → Bool
is_cut limits before list = nat_lt (calls_left limits before) (length list)

-- ---- parts of turns

-- A whole level: all that is due is asked in one batch. `cut` says whether that was cut.
pub record IsLevel (limits : Limits) (task : Task) (before now : List Entry) (cut : Bool) : Type 0 where
  pub list : List Instance
  pub due : AreDue task (known_of task before) (notes_of task before) list
  pub rest : List Entry
  pub is : now ≡ entry.Level ∷ rest
  pub batch : IsBatch limits task (before ++ entry.Level ∷ []) list rest
  pub cut_is : cut ≡ is_cut limits before list

-- Where no plan rests on what is supposed: with tried instances these are forgotten, and else a whole level follows.
pub data IsFallback (limits : Limits) (task : Task) (before : List Entry) : List Instance → List Entry → Bool
    → Type 0 where
  reset : (first : Instance) (more : List Instance)
      → IsFallback limits task before (first ∷ more) (entry.Reset ∷ []) false
  level : {now : List Entry} {cut : Bool} → IsLevel limits task before now cut
      → IsFallback limits task before [] now cut

-- Batches of a dream's entries, each of those that are ready, until none is. `sent` were asked before, and `after` in
-- the end.
pub data AreBatches (limits : Limits) (task : Task) (real : ℕ) (entries : List dreams.SupposedEntry) : List Sent → List Entry
    → List Entry → List Sent → Bool → Type 0 where
  finished : {sent : List Sent} {before : List Entry}
      → next_sent task before real sent (asks_of before + 1) (sent_instances sent) entries ≡ []
      → AreBatches limits task real entries sent before [] sent false
  last : {sent : List Sent} {before now : List Entry} (next : List Sent)
      → next ≡ next_sent task before real sent (asks_of before + 1) (sent_instances sent) entries
      → is_cut limits before next ≡ true → IsBatch limits task before (sent_instances next) now
      → AreBatches limits task real entries sent before now (sent ++ take (calls_left limits before) next) true
  further : {sent after : List Sent} {before now rest : List Entry} {cut : Bool} (next : List Sent)
      → next ≡ next_sent task before real sent (asks_of before + 1) (sent_instances sent) entries → 0 < length next
      → is_cut limits before next ≡ false → IsBatch limits task before (sent_instances next) now
      → AreBatches limits task real entries (sent ++ next) (before ++ now) rest after cut
      → AreBatches limits task real entries sent before (now ++ rest) after cut

-- ---- turns with a dream, or without

-- A dream, whose entries are asked as `asks` says: in one batch, or in several. The instances that were asked join the
-- tried ones.
pub record IsDreamTurn (limits : Limits) (task : Task)
    (asks : ℕ → List dreams.SupposedEntry → List Entry → List Entry → List Sent → Bool → Type 0) (tried : List Instance)
    (before now : List Entry) (next : List Instance) (cut : Bool) : Type 0 where
  pub uses : List DreamUse
  pub steps : List Call
  pub entries : List dreams.SupposedEntry
  pub dream : IsDreamAfter limits task before tried uses steps entries
  pub rest : List Entry
  pub is : now ≡ entry.Dream uses steps ∷ rest
  pub sent : List Sent
  pub batches : asks (length (names_of task before)) entries (before ++ entry.Dream uses steps ∷ []) rest sent cut
  pub joined : next ≡ tried ++ sent_instances sent

-- No dream: afterwards nothing is tried.
pub record IsEmptyTurn (limits : Limits) (task : Task) (tried : List Instance)
    (before now : List Entry) (next : List Instance) (cut : Bool) : Type 0 where
  pub none : HasNoDreamAfter limits task before tried
  pub rest : List Entry
  pub is : now ≡ entry.Nothing ∷ rest
  pub fallback : IsFallback limits task (before ++ entry.Nothing ∷ []) tried rest cut
  pub forgotten : next ≡ []

-- one batch of the entries that are ready
pub record IsFirstBatch (limits : Limits) (task : Task) (real : ℕ)
    (entries : List dreams.SupposedEntry) (before now : List Entry) (after : List Sent) (cut : Bool) : Type 0 where
  pub list : List Sent
  pub ready : list ≡ next_sent task before real [] (asks_of before + 1) [] entries
  pub batch : IsBatch limits task before (sent_instances list) now
  pub asked : after ≡ take (calls_left limits before) list
  pub cut_is : cut ≡ is_cut limits before list

-- ---- skeletons

-- A dream that is kept: its entries, how many objects were real, how often it was picked, and whether it is given up.
pub record Skeleton : Type 0 where
  pub entries : List dreams.SupposedEntry
  pub real : ℕ
  pub picks : ℕ
  pub retired : Bool

-- the tried instances and the skeletons
pub record Kept : Type 0 where
  pub tried : List Instance
  pub skeletons : List Skeleton

-- The skeleton at this place isn't given up, and of such it has the fewest picks and is the earliest.
pub record IsPicked (skeletons : List Skeleton) (place : ℕ) (skeleton : Skeleton) : Type 0 where
  pub there : slice_get skeletons place ≡ Some skeleton
  pub kept : skeleton.retired ≡ false
  pub fewest : (k : ℕ) (other : Skeleton) → slice_get skeletons k ≡ Some other
      → other.retired ≡ false
      → skeleton.picks ≤ other.picks
  pub earliest : (k : ℕ) (other : Skeleton) → k < place → slice_get skeletons k ≡ Some other
      → other.retired ≡ false
      → skeleton.picks < other.picks

abbrev pub is_given_up : List Sent → Bool
is_given_up [] = true
is_given_up (s ∷ sent) = false

-- the line by which a skeleton is given up, if nothing was asked
abbrev pub retiring : ℕ → List Sent → List Entry
retiring number [] = entry.Retire number ∷ []
retiring number (s ∷ sent) = []

-- the skeletons after that one was picked and these were asked
abbrev pub with_pick : List Skeleton → ℕ → Skeleton → List Sent → List Skeleton
with_pick skeletons place s sent =
    slice_set skeletons place
    (record { entries = s.entries; real = s.real; picks = s.picks + 1; retired = is_given_up sent })

-- A skeleton is picked, and its batches are run from the beginning.
pub record IsPickTurn (limits : Limits) (task : Task) (kept : Kept) (before now : List Entry) (next : Kept)
    (cut : Bool) : Type 0 where
  pub place : ℕ
  pub skeleton : Skeleton
  pub picked : IsPicked kept.skeletons place skeleton
  pub batches : List Entry
  pub sent : List Sent
  pub run : AreBatches limits task skeleton.real skeleton.entries []
      (before ++ entry.Pick (place + 1) ∷ []) batches sent cut
  pub is : now ≡ entry.Pick (place + 1) ∷ batches ++ retiring (place + 1) sent
  pub next_is : next
      ≡ record { tried = kept.tried ++ sent_instances sent; skeletons = with_pick kept.skeletons place skeleton sent }

-- A dream becomes the last skeleton, and one is picked.
pub record IsNewSkeleton (limits : Limits) (task : Task) (kept : Kept) (before now : List Entry)
    (next : Kept) (cut : Bool) : Type 0 where
  pub uses : List DreamUse
  pub steps : List Call
  pub entries : List dreams.SupposedEntry
  pub dream : IsDreamAfter limits task before kept.tried uses steps entries
  pub rest : List Entry
  pub is : now ≡ entry.Dream uses steps ∷ rest
  pub pick : IsPickTurn limits task (record {
    tried = kept.tried;
    skeletons =
        kept.skeletons
        ++ record { entries = entries; real = length (names_of task before); picks = 0; retired = false }
        ∷ [];
  }) (before ++ entry.Dream uses steps ∷ []) rest next cut

-- No dream, and a skeleton is picked.
pub record IsOldSkeleton (limits : Limits) (task : Task) (kept : Kept) (before now : List Entry)
    (next : Kept) (cut : Bool) : Type 0 where
  pub none : HasNoDreamAfter limits task before kept.tried
  pub rest : List Entry
  pub is : now ≡ entry.Nothing ∷ rest
  pub pick : IsPickTurn limits task kept (before ++ entry.Nothing ∷ []) rest next cut

-- No dream, and all skeletons are given up.
pub record HasNoSkeleton (limits : Limits) (task : Task) (kept : Kept) (before now : List Entry)
    (next : Kept) (cut : Bool) : Type 0 where
  pub all_retired : list_all (λ (s : Skeleton). s.retired) kept.skeletons ≡ true
  pub tried : List Instance
  pub turn : IsEmptyTurn limits task kept.tried before now tried cut
  pub next_is : next ≡ record { tried = tried; skeletons = kept.skeletons }

-- ---- the turns of each mode

module _ (limits : Limits) (task : Task) where
  abbrev pub IncrementalTurn : Unit {0} → List Entry → List Entry → Unit {0} → Bool → Type 0
  IncrementalTurn kept before now next cut = IsLevel limits task before now cut

  abbrev pub FocusedTurn : List Instance → List Entry → List Entry → List Instance → Bool → Type 0
  FocusedTurn tried before now next cut =
      IsDreamTurn limits task (IsFirstBatch limits task) tried before now next cut
      ⊎ IsEmptyTurn limits task tried before now next cut

  abbrev pub BindingTurn : List Instance → List Entry → List Entry → List Instance → Bool → Type 0
  BindingTurn tried before now next cut =
      IsDreamTurn limits task (λ real entries. AreBatches limits task real entries []) tried before now next cut
      ⊎ IsEmptyTurn limits task tried before now next cut

  abbrev pub AdaptiveTurn : Kept → List Entry → List Entry → Kept → Bool → Type 0
  AdaptiveTurn kept before now next cut =
      IsNewSkeleton limits task kept before now next cut
      ⊎ (IsOldSkeleton limits task kept before now next cut ⊎ HasNoSkeleton limits task kept before now next cut)

-- ---- runs

-- where a list of turns stops: between two turns, after a batch that was cut, or inside a turn
pub data Stage : Type 0 where
  between : Stage
  after_cut : Stage
  inside : Stage

-- Turns, each of which a mode allows by what it carries from turn to turn: `turn carried before now next cut`. A turn
-- whose last batch is cut is the last, and the last may stop at any entry.
module _ {Carried : Type 0} (limits : Limits)
    (task : Task) (turn : Carried → List Entry → List Entry → Carried → Bool → Type 0) where
  -- the turns of the mode, one after another
  pub data AreTurns : Carried → List Entry → List Entry → Stage → Type 0 where
    none_left : {carried : Carried} {before : List Entry} → AreTurns carried before [] between
    whole : {carried : Carried} (next : Carried) {before now rest : List Entry} {stage : Stage}
        → MayBegin limits task before → turn carried before now next false → AreTurns next (before ++ now) rest stage
        → AreTurns carried before (now ++ rest) stage
    cut_off : {carried : Carried} (next : Carried) {before now : List Entry}
        → MayBegin limits task before
        → turn carried before now next true → AreTurns carried before now after_cut
    stopped : {carried : Carried} (next : Carried) {before now : List Entry} (more : List Entry) (cut : Bool)
        → MayBegin limits task before → turn carried before (now ++ more) next cut → AreTurns carried before now inside

-- the turns of the mode, from the empty transcript
abbrev pub AreTurnsOf : Mode → Limits → Task → List Entry → Stage → Type 0
AreTurnsOf Incremental limits task entries stage =
    AreTurns limits task (IncrementalTurn limits task) tt [] entries stage
AreTurnsOf Focused limits task entries stage =
    AreTurns limits task (FocusedTurn limits task) [] [] entries stage
AreTurnsOf Binding limits task entries stage =
    AreTurns limits task (BindingTurn limits task) [] [] entries stage
AreTurnsOf Adaptive limits task entries stage =
    AreTurns limits task (AdaptiveTurn limits task) (record { tried = []; skeletons = [] }) [] entries stage

-- A transcript of the mode: it is legal, and a list of whole turns, the last of which may stop at any entry.
pub record IsModeLegal (limits : Limits) (task : Task) (entries : List Entry) (stage : Stage) : Type 0 where
  pub legal : IsLegal limits.version task entries
  pub turns : AreTurnsOf limits.mode limits task entries stage
