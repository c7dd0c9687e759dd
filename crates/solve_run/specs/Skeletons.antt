-- The skeletons of adaptive mode, and what its turns have done.
use Rattle.std.specs.Prelude.{◌≡◌, ℕ, ◌+◌, ◌*◌, ◌<◌, ◌≤◌, All, List, [], ◌∷◌, ◌++◌, length, count_by, Bool, true, false, not}
use Rattle.solve_run.specs.Focusing.{idle_of}
use Rattle.turn_run.specs.Turns.{IsSure}
use Rattle.turn_run.specs.declared.turns.Turned.{Turned}
use Rattle.turn_run.specs.declared.turns.Turned.TheVariants as turned
use Rattle.round_run.specs.Rolling.{IsFrontPart}
use Rattle.session_core.specs.State.{State}
use Rattle.skeletons.specs.Skeletons.{skeletons_in}
use Rattle.skeletons.specs.declared.skeletons.Skeleton as stored
use Rattle.task_model.specs.declared.stream.Instance.{Instance}
use Rattle.task_model.specs.declared.task.Task.{Task}
use Rattle.transcript_model.specs.Legal.{is_level, is_mark}
use Rattle.transcript_model.specs.Rounds.{limits_of}
use Rattle.transcript_model.specs.Turns.{IsPickTurn, IsPicked, Kept, Skeleton}
use Rattle.transcript_model.specs.declared.entry.Entry.{Entry}
use Rattle.transcript_model.specs.declared.head.Head.{Head}
use Rattle.transcript_model.specs.declared.head.Mode.TheVariants.{Adaptive}
use Rattle.transcript_model.specs.declared.outcome.LimitKind.TheVariants.{Calls}
use Rattle.transcript_model.specs.declared.outcome.Outcome.TheVariants as outcome

-- ---- skeletons

-- what is carried: the tried instances and the skeletons
abbrev pub kept_of : List stored.Skeleton → List Instance → Kept
kept_of skeletons tried = record { tried = tried; skeletons = skeletons_in skeletons }

-- it isn't given up
abbrev pub is_kept : Skeleton → Bool
is_kept s = not s.retired

-- Where so much was asked there are no more skeletons. One that isn't given up was picked, and no more often than
-- something was asked.
pub record AreFewKept (skeletons : List Skeleton) (asked : ℕ) : Type 0 where
  pub few : length skeletons ≤ asked
  pub picked : All (λ (s : Skeleton). s.retired ≡ false → (1 ≤ s.picks) × (s.picks ≤ asked)) skeletons

-- The mode is adaptive, and these are kept.
pub record KeepsOn (head : Head) (skeletons : List Skeleton) (s : State) : Type 0 where
  pub mode : head.mode ≡ Adaptive
  pub kept : AreFewKept skeletons (length s.asked)

-- How many turns may ask nothing: each gives up a skeleton, or forgets what was tried.
abbrev pub idle_with : List Skeleton → List Instance → ℕ
idle_with skeletons tried = 2 * count_by is_kept skeletons + idle_of tried

-- ---- a pick

-- The skeleton at this place may be picked: a call is left, and its place and its picks are no more than what was
-- asked.
pub record MayPick (head : Head) (skeletons : List Skeleton) (place : ℕ) (s : State) : Type 0 where
  pub skeleton : Skeleton
  pub picked : IsPicked skeletons place skeleton
  pub left : length s.asked < head.calls
  pub low : place ≤ length s.asked
  pub picks : skeleton.picks ≤ length s.asked

-- how a turn with a pick ended
abbrev pub EndsPick : Head → Task → Kept → Kept → State → Bool → Turned → Type 0
EndsPick head task last next new cut turned.Done = (cut ≡ false) × (last ≡ next)
EndsPick head task last next new cut turned.Spent =
    (cut ≡ true) × (last.skeletons ≡ next.skeletons) × IsSure head task new.entries (outcome.Limit Calls)
EndsPick head task last next new cut (turned.Known o) = ⊥

-- A skeleton was picked, and its batches were run from the beginning, as far as calls were left.
pub record RanPick (head : Head) (task : Task) (kept next : Kept) (old new : State) (t : Turned) : Type 0 where
  pub now : List Entry
  pub pushed : new.entries ≡ old.entries ++ now
  pub last : Kept
  pub cut : Bool
  pub turn : IsPickTurn (limits_of head) task kept old.entries now last cut
  pub ended : EndsPick head task last next new cut t

-- the first entries of what would be that
abbrev pub IsFrontOfPick : Head → Task → Kept → List Entry → List Entry → Type 0
IsFrontOfPick head task kept before =
    IsFrontPart before (λ now. (next : Kept) × (cut : Bool) × IsPickTurn (limits_of head) task kept before now next cut)

-- ---- a pick behind a line

-- a line behind which a skeleton is picked: neither a request nor an answer nor a level
pub record IsPickLine (line : Entry) : Type 0 where
  pub mark : is_mark line ≡ true
  pub other : is_level line ≡ false

-- this entry, and behind it a pick with its batches
pub record IsBehindPick (head : Head) (task : Task) (kept : Kept) (before : List Entry) (line : Entry)
    (now : List Entry) (next : Kept) (cut : Bool) : Type 0 where
  pub rest : List Entry
  pub is : now ≡ line ∷ rest
  pub pick : IsPickTurn (limits_of head) task kept (before ++ line ∷ []) rest next cut

abbrev pub IsFrontBehindPick : Head → Task → Kept → List Entry → Entry → List Entry → Type 0
IsFrontBehindPick head task kept before line =
    IsFrontPart before (λ now. (next : Kept) × (cut : Bool) × IsBehindPick head task kept before line now next cut)

-- The entry was put behind the transcript, and a skeleton was picked behind it.
pub record RanBehindPick (head : Head) (task : Task) (kept next : Kept) (line : Entry) (old new : State)
    (t : Turned) : Type 0 where
  pub now : List Entry
  pub pushed : new.entries ≡ old.entries ++ now
  pub last : Kept
  pub cut : Bool
  pub behind : IsBehindPick head task kept old.entries line now last cut
  pub ended : EndsPick head task last next new cut t
