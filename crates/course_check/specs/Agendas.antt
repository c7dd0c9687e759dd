-- What a turn has still to do.
use Rattle.std.specs.Prelude.{◌≡◌, ◌&&◌, ℕ, ◌+◌, ◌-◌, ◌≤◌, nat_lt, List, [], length, take, drop, Bool, true, false}
use Rattle.dream_asks.specs.Next.{asked_instances}
use Rattle.dream_asks.specs.Progress.{numbered}
use Rattle.dream_asks.specs.declared.asks.DreamAsk.{DreamAsk}
use Rattle.instance_queue.specs.Level.{due_instances}
use Rattle.instance_queue.specs.declared.due.Due.{Due}
use Rattle.course_check.specs.BatchAgendas.{Agenda, Starts, is_over, nothing_to_do, place_in}
use Rattle.course_check.specs.Places.{Phase as Awaited, ModePlace, dreamt, is_repeated, joining, phase_behind, picking, repeated, resting, unasked, undreamt}
use Rattle.course_check.specs.Running.{AreNextOf, Run, asking, made_by, nothing_run, run_of, sent_of}
use Rattle.course_check.specs.declared.course.ModeCourse.TheInside.{Inside}
use Rattle.course_check.specs.declared.course.Phase.{Phase}
use Rattle.course_check.specs.declared.course.Phase.TheVariants.{Dreamt, Repeated, Resting, Unasked, Undreamt}
use Rattle.turn_laws.specs.Modes.{nothing_kept}
use Rattle.skeletons.specs.Skeletons.{skeletons_in}
use Rattle.task_model.specs.Dreams as dreams
use Rattle.task_model.specs.Known.{Known}
use Rattle.task_model.specs.Streams.{Note}
use Rattle.task_model.specs.declared.task.Task.{Task}
use Rattle.transcript_model.specs.Legal.{HasNoneOpen, asks_of}
use Rattle.transcript_model.specs.Rounds.{Share}
use Rattle.transcript_model.specs.Turns.{Kept, Skeleton}
use Rattle.transcript_model.specs.declared.entry.Entry.{Entry}

-- What the batch has still to do, what comes behind it, and what is carried on then; and the dream
-- whose batches were run last.
pub record ModeAgenda : Type 0 where
  pub batch : Agenda
  pub phase : Awaited
  pub kept : Kept
  pub run : Run

-- before the first turn
abbrev pub nothing_begun : ModeAgenda
nothing_begun = record { batch = nothing_to_do; phase = resting; kept = nothing_kept; run = nothing_run }

-- elsewhere in the batch
abbrev pub with_agenda : ModeAgenda → Agenda → ModeAgenda
with_agenda a batch = record { batch = batch; phase = a.phase; kept = a.kept; run = a.run }

-- this comes behind the batch, and this is carried on
abbrev pub going_on : ModeAgenda → Awaited → Kept → ModeAgenda
going_on a phase kept = record { batch = a.batch; phase = phase; kept = kept; run = a.run }

abbrev pub is_resting : Awaited → Bool
is_resting resting = true
is_resting undreamt = false
is_resting dreamt = false
is_resting (repeated real entries sent) = false
is_resting (unasked place) = false

abbrev pub is_undreamt : Awaited → Bool
is_undreamt resting = false
is_undreamt undreamt = true
is_undreamt dreamt = false
is_undreamt (repeated real entries sent) = false
is_undreamt (unasked place) = false

abbrev pub is_dreamt : Awaited → Bool
is_dreamt resting = false
is_dreamt undreamt = false
is_dreamt dreamt = true
is_dreamt (repeated real entries sent) = false
is_dreamt (unasked place) = false

-- a batch begins over what is due, after so many requests of so many; behind it comes the next
-- turn, and this is kept
pub record BeginsBatch (pools : List Share) (dues : List Due) (before calls : ℕ) (kept : Kept)
    (new : ModeAgenda) : Type 0 where
  pub batch : Starts pools (take (calls - before) (due_instances dues))
      (before + 1) (nat_lt (calls - before) (length dues)) new.batch
  pub phase_is : new.phase ≡ resting
  pub kept_is : new.kept ≡ kept

-- so many more requests may be made behind those of a dream
abbrev pub left_behind : ℕ → Run → ℕ
left_behind calls r = calls - made_by r

-- The dream's next batch begins with these asks; where there are none, this comes.
pub record BeginsNext (pools : List Share) (over : Awaited) (asks : List DreamAsk) (calls : ℕ)
    (old new : ModeAgenda) : Type 0 where
  pub batch : Starts pools (take (left_behind calls old.run) (asked_instances asks))
      (made_by old.run + 1) (nat_lt (left_behind calls old.run) (length asks)) new.batch
  pub phase_is : new.phase
      ≡ phase_behind over (nat_lt (left_behind calls old.run) (length asks)) old.run.real
      old.run.entries (sent_of old.run) (numbered (made_by old.run + 1) asks)
  pub kept_is : new.kept ≡ joining old.kept (take (left_behind calls old.run) (asked_instances asks))
  pub run_is : new.run ≡ asking old.run asks

-- The dream's next batch begins, with what is asked next of it by what is known and noted, where
-- these entries stand behind its line.
pub record MovesOn (task : Task) (known : Known) (notes : List Note) (behind : List Entry)
    (pools : List Share) (over : Awaited) (calls : ℕ) (old new : ModeAgenda) : Type 0 where
  pub asks : List DreamAsk
  pub next : AreNextOf task known notes old.run behind asks
  pub begins : BeginsNext pools over asks calls old new

-- a dream is run from its beginning, of which nothing was asked
abbrev pub with_run : ModeAgenda → List dreams.SupposedEntry → (real from before : ℕ) → ModeAgenda
with_run a entries real from before = record {
  batch = a.batch;
  phase = a.phase;
  kept = a.kept;
  run = record { entries = entries; real = real; from = from; before = before; asks = [] };
}

-- nothing of the open batch is left, and a further batch of its dream may come
abbrev pub is_to_settle : ModeAgenda → Bool
is_to_settle a = is_over a.batch && is_repeated a.phase

-- The place has moved on by itself, behind these entries, where it had to.
pub record HasSettled (task : Task) (known : Known) (notes : List Note) (entries : List Entry)
    (pools : List Share) (calls : ℕ) (old new : ModeAgenda) : Type 0 where
  pub stays : is_to_settle old ≡ false → new ≡ old
  pub moves : is_to_settle old ≡ true
      → MovesOn task known notes (drop old.run.from entries) pools resting calls old new

-- The skeleton was picked: its batches begin, and it is counted, and given up where nothing of it
-- may be asked.
pub record HasPicked (task : Task) (known : Known) (notes : List Note) (pools : List Share)
    (place : ℕ) (skeleton : Skeleton) (from before calls : ℕ) (old new : ModeAgenda) : Type 0 where
  pub middle : ModeAgenda
  pub moves : MovesOn task known notes [] pools (unasked place) calls
      (with_run old skeleton.entries skeleton.real from before) middle
  pub batch_is : new.batch ≡ middle.batch
  pub phase_is : new.phase ≡ middle.phase
  pub run_is : new.run ≡ middle.run
  pub kept_is : new.kept ≡ picking middle.kept place skeleton (sent_of new.run)

-- A batch of a dream is open, or was the last, behind which further ones may come; this is so behind
-- the transcript. It says where the dream's batches began, at whose beginning nothing was open, and
-- that with what is still to come as many requests were made as the dream's asks say.
pub record RunsBehind (calls : ℕ) (entries : List Entry) (a : ModeAgenda) : Type 0 where
  pub phase_is : a.phase ≡ repeated a.run.real a.run.entries (sent_of a.run)
  pub uncut : a.batch.is_cut ≡ false
  pub from : a.run.from ≤ length entries
  pub closed : HasNoneOpen (take a.run.from entries)
  pub before : a.run.before ≡ asks_of (take a.run.from entries)
  pub made : asks_of entries + length a.batch.to_ask + length a.batch.later ≡ made_by a.run
  pub left : made_by a.run ≤ calls
  pub whole : a.batch.answers ≡ 0 → (a.batch.to_ask ≡ []) × (a.batch.later ≡ [])

-- that, where further batches may come
abbrev pub KeepsRun : ℕ → List Entry → ModeAgenda → Type 0
KeepsRun calls entries a = is_repeated a.phase ≡ true → RunsBehind calls entries a

-- where a transcript stands behind which this is to be done
abbrev pub mode_place_in : Task → List Entry → ModeAgenda → ModePlace
mode_place_in task entries a =
    record { batch = place_in task entries a.batch; phase = a.phase; kept = a.kept }

-- ---- the code's fields

abbrev pub phase_of : Phase → Run → Awaited
phase_of Resting r = resting
phase_of Undreamt r = undreamt
phase_of Dreamt r = dreamt
phase_of Repeated r = repeated r.real r.entries (sent_of r)
phase_of (Unasked place) r = unasked place

abbrev pub shown_mode : Inside → ModeAgenda
shown_mode c = record {
  batch = c.batch;
  phase = phase_of c.phase (run_of c.run);
  kept = record { tried = c.tried; skeletons = skeletons_in c.skeletons.items };
  run = run_of c.run;
}
