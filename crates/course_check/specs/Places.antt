-- Where in a turn a transcript stands, and what may come next. A report is judged by whole turns;
-- this says the same entry by entry.
use Rattle.std.specs.Prelude.{◌≡◌, ◌⊎◌, ℕ, ◌+◌, ◌<◌, List, [], ◌∷◌, ◌++◌, length, take, Bool, true, false}
use Rattle.std.specs.List.{list_all}
use Rattle.course_check.specs.Courses.{BeginsLevel, Course, GivesAnswer, MakesRequest, Opens, course_at_first}
use Rattle.turn_laws.specs.Modes.{nothing_kept}
use Rattle.task_model.specs.Dreams as dreams
use Rattle.task_model.specs.Streams.{AreDue}
use Rattle.task_model.specs.declared.stream.Instance.{Instance}
use Rattle.task_model.specs.declared.task.Task.{Task}
use Rattle.transcript_model.specs.Dreaming.{HasNoDreamAfter, IsDreamAfter, Sent, next_sent, sent_instances}
use Rattle.transcript_model.specs.Legal.{asks_of}
use Rattle.transcript_model.specs.Rounds.{Limits, calls_left}
use Rattle.transcript_model.specs.Transcript.{known_of, names_of, notes_of}
use Rattle.transcript_model.specs.Turns.{IsPicked, Kept, MayBegin, Skeleton, is_cut, with_pick}
use Rattle.transcript_model.specs.declared.entry.Call.{Call}
use Rattle.transcript_model.specs.declared.entry.DreamUse.{DreamUse}
use Rattle.transcript_model.specs.declared.entry.Entry.{Entry}
use Rattle.transcript_model.specs.declared.entry.Entry.TheVariants as entry
use Rattle.transcript_model.specs.declared.head.Mode.{Mode}
use Rattle.transcript_model.specs.declared.head.Mode.TheVariants.{Adaptive, Binding, Focused, Incremental}

-- ---- places

-- What comes where nothing of the batch is open any more: the next turn; behind the want of a
-- dream, what was tried is forgotten, or a level is asked, or a skeleton is picked; behind a dream
-- that was kept, a skeleton is picked; the next batch of a dream, before which so many objects were
-- real, and of which these were asked with the open batch; or the skeleton at this place is given
-- up, as nothing of it was asked.
pub data Phase : Type 0 where
  resting : Phase
  undreamt : Phase
  dreamt : Phase
  repeated : (real : ℕ) (entries : List dreams.SupposedEntry) (sent : List Sent) → Phase
  unasked : (place : ℕ) → Phase

-- it is a dream's batch, behind which further ones may come
abbrev pub is_repeated : Phase → Bool
is_repeated resting = false
is_repeated undreamt = false
is_repeated dreamt = false
is_repeated (repeated real entries sent) = true
is_repeated (unasked place) = false

-- a line of the open turn comes, which is neither a request nor an answer
abbrev pub awaits_line : Phase → Bool
awaits_line resting = false
awaits_line undreamt = true
awaits_line dreamt = true
awaits_line (repeated real entries sent) = false
awaits_line (unasked place) = true

-- How far the batch has come, what comes behind it, and what is carried on then. What a batch of a
-- dream asks counts as tried from where the batch begins; a skeleton counts as picked, and as given
-- up, from the line by which it is picked.
pub record ModePlace : Type 0 where
  pub batch : Course
  pub phase : Phase
  pub kept : Kept

-- before the first turn
abbrev pub at_start : ModePlace
at_start = record { batch = course_at_first; phase = resting; kept = nothing_kept }

-- elsewhere in the batch
abbrev pub with_batch : ModePlace → Course → ModePlace
with_batch p batch = record { batch = batch; phase = p.phase; kept = p.kept }

-- Nothing of the batch is open, calls weren't wanting for it, and this comes next.
pub record AwaitsPhase (p : ModePlace) (phase : Phase) : Type 0 where
  pub phase_is : p.phase ≡ phase
  pub answered : p.batch.answers ≡ 0
  pub uncut : p.batch.is_cut ≡ false

-- Nothing of the batch is open, and a line of the open turn comes next.
pub record AwaitsLine (p : ModePlace) : Type 0 where
  pub line : awaits_line p.phase ≡ true
  pub answered : p.batch.answers ≡ 0
  pub uncut : p.batch.is_cut ≡ false

-- Nothing of the batch is open, and calls were wanting for it.
pub record IsCutOff (p : ModePlace) : Type 0 where
  pub phase_is : p.phase ≡ resting
  pub answered : p.batch.answers ≡ 0
  pub cut : p.batch.is_cut ≡ true

-- nothing was tried any more
abbrev pub forgetting : Kept → Kept
forgetting k = record { tried = []; skeletons = k.skeletons }

-- these were tried besides
abbrev pub joining : Kept → List Instance → Kept
joining k asked = record { tried = k.tried ++ asked; skeletons = k.skeletons }

-- this dream is kept besides, before which so many objects were real
abbrev pub keeping : Kept → List dreams.SupposedEntry → ℕ → Kept
keeping k entries real = record {
  tried = k.tried;
  skeletons = k.skeletons ++ record { entries = entries; real = real; picks = 0; retired = false } ∷ [];
}

-- the skeleton at this place was picked, and these are its first batch
abbrev pub picking : Kept → ℕ → Skeleton → List Sent → Kept
picking k place s firsts =
    record { tried = k.tried; skeletons = with_pick k.skeletons place s firsts }

-- in adaptive mode all skeletons are given up
abbrev pub HasNoneToPick : Mode → Kept → Type 0
HasNoneToPick mode k = mode ≡ Adaptive → list_all (λ (s : Skeleton). s.retired) k.skeletons ≡ true

-- ---- batches of dreams

-- what is asked next of a dream's entries, of which these were asked
abbrev pub sent_next : Task → ℕ → List Entry → List dreams.SupposedEntry → List Sent → List Sent
sent_next task real before entries sent =
    next_sent task before real sent (asks_of before + 1) (sent_instances sent) entries

-- the instances of these, as far as calls are left
abbrev pub asked_next : Limits → Task → ℕ → List Entry → List dreams.SupposedEntry → List Sent → List Instance
asked_next limits task real before entries sent =
    take (calls_left limits before) (sent_instances (sent_next task real before entries sent))

-- what may be asked first of a dream's entries, behind its line, where so many objects were real
abbrev pub sent_first : Task → ℕ → List Entry → List dreams.SupposedEntry → List Sent
sent_first task real before entries = sent_next task real before entries []

-- the instances of these, as far as calls are left
abbrev pub asked_first : Limits → Task → ℕ → List Entry → List dreams.SupposedEntry → List Instance
asked_first limits task real before entries = asked_next limits task real before entries []

-- the batch begins of what is asked next of the dream
abbrev pub OpensNext : Limits → Task → ℕ → List Entry → List dreams.SupposedEntry → List Sent → Course → Type 0
OpensNext limits task real before entries sent after =
    Opens limits task before (asked_next limits task real before entries sent)
    (is_cut limits before (sent_next task real before entries sent)) after

-- the batch of the dream begins, behind its line
abbrev pub OpensFirst : Limits → Task → ℕ → List Entry → List dreams.SupposedEntry → Course → Type 0
OpensFirst limits task real before entries after =
    OpensNext limits task real before entries [] after

-- What comes behind a batch of these, with which these were asked of the dream: where there were
-- none, what is to come behind the dream's last batch; behind a cut one nothing more; and else
-- perhaps a further batch.
abbrev pub phase_behind : Phase → Bool → ℕ → List dreams.SupposedEntry → List Sent → List Sent → Phase
phase_behind over cut real entries sent [] = over
phase_behind over true real entries sent (s ∷ next) = resting
phase_behind over false real entries sent (s ∷ next) = repeated real entries (sent ++ s ∷ next)

-- The next batch of the dream begins, where these were asked of it; where none is left, this comes.
pub record RunsNext (limits : Limits) (task : Task) (over : Phase) (real : ℕ) (before : List Entry)
    (entries : List dreams.SupposedEntry) (sent : List Sent) (kept : Kept) (after : ModePlace) : Type 0 where
  pub batch : Course
  pub opens : OpensNext limits task real before entries sent batch
  pub after_is : after
      ≡ record {
        batch = batch;
        phase = phase_behind over (is_cut limits before (sent_next task real before entries sent)) real
            entries sent (sent_next task real before entries sent);
        kept = joining kept (asked_next limits task real before entries sent);
      }

-- ---- steps of a batch

-- a request of the batch is made, or one is answered
abbrev pub IsBatchStep : Limits → Task → List Entry → Course → Entry → Course → Type 0
IsBatchStep limits task before c e after =
    MakesRequest c e after ⊎ GivesAnswer limits task before c e after

-- something of the batch is open, or no further batch of a dream comes by itself
abbrev pub IsStaying : ModePlace → Type 0
IsStaying p = (0 < p.batch.answers) ⊎ (is_repeated p.phase ≡ false)

-- Behind the last answer of a dream's batch its next one begins by itself, or the turn is over.
pub data Settles (limits : Limits) (task : Task) (before : List Entry) (p after : ModePlace) : Type 0 where
  stays : IsStaying p → after ≡ p → Settles limits task before p after
  moves : (real : ℕ) (entries : List dreams.SupposedEntry) (sent : List Sent)
      → AwaitsPhase p (repeated real entries sent)
      → RunsNext limits task resting real before entries sent p.kept after
      → Settles limits task before p after

-- ---- steps that begin turns

-- In incremental mode a turn begins with the line of a level.
pub record IsLevelStep (limits : Limits) (task : Task) (before : List Entry)
    (p : ModePlace) (e : Entry) (after : ModePlace) : Type 0 where
  pub mode : limits.mode ≡ Incremental
  pub awaits : AwaitsPhase p resting
  pub batch : Course
  pub begins : BeginsLevel limits task before p.batch e batch
  pub after_is : after ≡ record { batch = batch; phase = resting; kept = p.kept }

-- A turn of a mode that dreams may begin.
pub record MayDream (limits : Limits) (task : Task) (before : List Entry) (p : ModePlace) : Type 0 where
  pub mode : ¬ (limits.mode ≡ Incremental)
  pub awaits : AwaitsPhase p resting
  pub may : MayBegin limits task before

-- The one batch of a dream begins, behind its line.
pub record RunsOnce (limits : Limits) (task : Task) (real : ℕ) (before : List Entry)
    (entries : List dreams.SupposedEntry) (kept : Kept) (after : ModePlace) : Type 0 where
  pub batch : Course
  pub opens : OpensFirst limits task real before entries batch
  pub after_is : after
      ≡ record {
        batch = batch;
        phase = resting;
        kept = joining kept (asked_first limits task real before entries);
      }

-- Where a dream's line leads: to its one batch in focused mode, to the first of several in binding
-- mode; in adaptive mode it becomes the last skeleton, and one is picked.
abbrev pub IsBehindDream : Mode → Limits → Task → ℕ → List Entry → List dreams.SupposedEntry
    → ModePlace → ModePlace → Type 0
IsBehindDream Incremental limits task real before entries p after = ⊥
IsBehindDream Focused limits task real before entries p after =
    RunsOnce limits task real before entries p.kept after
IsBehindDream Binding limits task real before entries p after =
    RunsNext limits task resting real before entries [] p.kept after
IsBehindDream Adaptive limits task real before entries p after =
    after ≡ record { batch = p.batch; phase = dreamt; kept = keeping p.kept entries real }

-- A turn begins with a dream.
pub record IsDreamStep (limits : Limits) (task : Task) (before : List Entry)
    (p : ModePlace) (e : Entry) (after : ModePlace) : Type 0 where
  pub may : MayDream limits task before p
  pub uses : List DreamUse
  pub steps : List Call
  pub is : e ≡ entry.Dream uses steps
  pub entries : List dreams.SupposedEntry
  pub dream : IsDreamAfter limits task before p.kept.tried uses steps entries
  pub behind : IsBehindDream limits.mode limits task
      (length (names_of task before)) (before ++ entry.Dream uses steps ∷ []) entries p after

-- A turn begins, and there is no dream.
pub record IsNoneStep (limits : Limits) (task : Task) (before : List Entry)
    (p : ModePlace) (e : Entry) (after : ModePlace) : Type 0 where
  pub may : MayDream limits task before p
  pub is : e ≡ entry.Nothing
  pub no_dream : HasNoDreamAfter limits task before p.kept.tried
  pub after_is : after ≡ record { batch = p.batch; phase = undreamt; kept = p.kept }

-- ---- steps behind the want of a dream

-- Where something was tried, that is forgotten, and the turn is over; in adaptive mode only where
-- all skeletons are given up.
pub record IsResetStep (limits : Limits) (p : ModePlace) (e : Entry) (after : ModePlace) : Type 0 where
  pub awaits : AwaitsPhase p undreamt
  pub no_skeleton : HasNoneToPick limits.mode p.kept
  pub tried : 0 < length p.kept.tried
  pub is : e ≡ entry.Reset
  pub after_is : after ≡ record { batch = p.batch; phase = resting; kept = forgetting p.kept }

-- Where nothing was tried, all that is due is asked; in adaptive mode only where all skeletons are
-- given up.
pub record IsFallbackStep (limits : Limits) (task : Task) (before : List Entry)
    (p : ModePlace) (e : Entry) (after : ModePlace) : Type 0 where
  pub awaits : AwaitsPhase p undreamt
  pub no_skeleton : HasNoneToPick limits.mode p.kept
  pub untried : p.kept.tried ≡ []
  pub is : e ≡ entry.Level
  pub list : List Instance
  pub due : AreDue task (known_of task before) (notes_of task before) list
  pub batch : Course
  pub opens : Opens limits task (before ++ entry.Level ∷ [])
      (take (calls_left limits before) list) (is_cut limits before list) batch
  pub after_is : after ≡ record { batch = batch; phase = resting; kept = p.kept }

-- ---- steps of skeletons

-- a skeleton comes to be picked: behind a dream, or behind the want of one
abbrev pub AwaitsPick : ModePlace → Type 0
AwaitsPick p = AwaitsPhase p dreamt ⊎ AwaitsPhase p undreamt

-- A skeleton is picked, and its batches are run from the beginning. Where nothing of it may be
-- asked it is given up.
pub record IsPickStep (limits : Limits) (task : Task) (before : List Entry)
    (p : ModePlace) (e : Entry) (after : ModePlace) : Type 0 where
  pub mode : limits.mode ≡ Adaptive
  pub awaits : AwaitsPick p
  pub place : ℕ
  pub skeleton : Skeleton
  pub picked : IsPicked p.kept.skeletons place skeleton
  pub is : e ≡ entry.Pick (place + 1)
  pub runs : RunsNext limits task (unasked place) skeleton.real
      (before ++ entry.Pick (place + 1) ∷ []) skeleton.entries []
      (picking p.kept place skeleton (sent_first task skeleton.real
      (before ++ entry.Pick (place + 1) ∷ []) skeleton.entries)) after

-- The skeleton of which nothing was asked is given up, and the turn is over.
pub record IsRetireStep (p : ModePlace) (e : Entry) (after : ModePlace) : Type 0 where
  pub place : ℕ
  pub awaits : AwaitsPhase p (unasked place)
  pub is : e ≡ entry.Retire (place + 1)
  pub after_is : after ≡ record { batch = p.batch; phase = resting; kept = p.kept }

-- ---- all steps

-- The entry may come next, and leads there.
pub data IsModeStep (limits : Limits) (task : Task) (before : List Entry)
    (p : ModePlace) (e : Entry) (after : ModePlace) : Type 0 where
  goes_on : (batch : Course) → IsBatchStep limits task before p.batch e batch
      → Settles limits task (before ++ e ∷ []) (with_batch p batch) after
      → IsModeStep limits task before p e after
  begins_level : IsLevelStep limits task before p e after → IsModeStep limits task before p e after
  tells_dream : IsDreamStep limits task before p e after → IsModeStep limits task before p e after
  tells_none : IsNoneStep limits task before p e after → IsModeStep limits task before p e after
  resets : IsResetStep limits p e after → IsModeStep limits task before p e after
  falls_back : IsFallbackStep limits task before p e after → IsModeStep limits task before p e after
  picks : IsPickStep limits task before p e after → IsModeStep limits task before p e after
  retires : IsRetireStep p e after → IsModeStep limits task before p e after

-- the entries may come one after another, and lead there
abbrev pub LeadsOn : Limits → Task → ModePlace → List Entry → List Entry → ModePlace → Type 0
LeadsOn limits task p before [] after = p ≡ after
LeadsOn limits task p before (e ∷ es) after =
    (middle : ModePlace) × IsModeStep limits task before p e middle
    × LeadsOn limits task middle (before ++ e ∷ []) es after
