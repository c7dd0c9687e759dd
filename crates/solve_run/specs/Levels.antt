-- Whole levels, and what follows a `none`.
use Rattle.std.specs.Prelude.{◌≡◌, nat_lt, List, ◌++◌, length, Bool, true, false}
use Rattle.instance_queue.specs.declared.due.Due.{Due}
use Rattle.session_core.specs.State.{State}
use Rattle.task_model.specs.declared.stream.Instance.{Instance}
use Rattle.task_model.specs.declared.task.Task.{Task}
use Rattle.transcript_model.specs.Rounds.{limits_of}
use Rattle.transcript_model.specs.Turns.{IsFallback, IsLevel}
use Rattle.transcript_model.specs.declared.entry.Entry.{Entry}
use Rattle.transcript_model.specs.declared.head.Head.{Head}
use Rattle.round_run.specs.Batches.{EndsBatch}
use Rattle.round_run.specs.Rolling.{IsFrontPart}
use Rattle.round_run.specs.declared.ending.Batch.{Batch}
use Rattle.round_run.specs.declared.ending.Batch.TheVariants.{Done}
use Rattle.turn_run.specs.Turns.{cut_by}

-- a whole level, cut or not
abbrev pub IsSomeLevel : Head → Task → List Entry → List Entry → Type 0
IsSomeLevel head task before now = (cut : Bool) × IsLevel (limits_of head) task before now cut

-- a level was run
abbrev pub RunsLevel : Head → Task → List Entry → List Entry → Batch → Type 0
RunsLevel head task before after b =
    (now : List Entry) × (after ≡ before ++ now) × IsLevel (limits_of head) task before now (cut_by b)

-- a level was asked, and its batch ended so
pub record RanLevel (task : Task) (head : Head) (dues : List Due) (old new : State) (b : Batch) : Type 0 where
  pub level : RunsLevel head task old.entries new.entries b
  pub ends : EndsBatch task new.entries (length old.asked) (length new.asked) head.calls (length dues) b

-- ---- behind `none`

-- What follows a `none` where something is tried, or where nothing is: all is forgotten, or a whole level.
abbrev pub FallsBack : Head → Task → (is_tried : Bool) → List Entry → List Entry → Bool → Type 0
FallsBack head task is_tried before now cut =
    (tried : List Instance) → nat_lt 0 (length tried) ≡ is_tried
    → IsFallback (limits_of head) task before tried now cut

-- The fallback was run, and ended so. Where all is forgotten nothing was asked.
pub record RanFallback (task : Task) (head : Head) (is_tried : Bool) (dues : List Due)
    (old new : State) (b : Batch) : Type 0 where
  pub more : List Entry
  pub pushed : new.entries ≡ old.entries ++ more
  pub fallback : FallsBack head task is_tried old.entries more (cut_by b)
  pub reset : is_tried ≡ true → (b ≡ Done) × (new.asked ≡ old.asked)
  pub level : is_tried ≡ false
      → EndsBatch task new.entries (length old.asked) (length new.asked) head.calls (length dues) b

-- the first entries of what would be the fallback
abbrev pub IsFrontOfFallback : Head → Task → Bool → List Entry → List Entry → Type 0
IsFrontOfFallback head task is_tried before =
    IsFrontPart before (λ now. (cut : Bool) × FallsBack head task is_tried before now cut)
