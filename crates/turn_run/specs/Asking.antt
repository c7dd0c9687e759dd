-- Requests behind a line that may have some behind it.
use Rattle.std.specs.Prelude.{◌≡◌, ◌<◌, List, [], ◌∷◌, ◌++◌, length, true, Result}
use Rattle.instance_queue.specs.Level.{due_instances}
use Rattle.instance_queue.specs.declared.due.Due.{Due}
use Rattle.round_run.specs.TurnLines.{opens_requests}
use Rattle.round_run.specs.Batches.{EndsBatch}
use Rattle.round_run.specs.Desk.{AtDesk, OnTurn}
use Rattle.round_run.specs.Rolling.{IsFrontPart}
use Rattle.round_run.specs.Told.{Stretch}
use Rattle.round_run.specs.declared.ending.Batch.{Batch}
use Rattle.round_run.specs.declared.fault.RunFault.{RunFault}
use Rattle.session_core.specs.Ready.{AreReady}
use Rattle.session_core.specs.State.{State}
use Rattle.task_model.specs.declared.stream.Instance.{Instance}
use Rattle.task_model.specs.declared.task.Task.{Task}
use Rattle.transcript_model.specs.Legal.{is_mark}
use Rattle.transcript_model.specs.Rounds.{IsBatch, limits_of}
use Rattle.transcript_model.specs.declared.entry.Entry.{Entry}
use Rattle.transcript_model.specs.declared.head.Head.{Head}

-- Requests may stand behind this entry, which is neither a request nor an answer; these instances are due, one at
-- least, and a call is left.
pub record MayAskBehind (task : Task) (head : Head) (entry : Entry) (dues : List Due) (s : State) : Type 0 where
  pub mark : is_mark entry ≡ true
  pub opens : opens_requests head.mode entry ≡ true
  pub ready : AreReady task s.entries dues
  pub some : 0 < length dues
  pub left : length s.asked < head.calls

-- This entry, and behind it a batch of these instances.
pub record IsAskedBehind (head : Head) (task : Task) (before : List Entry) (entry : Entry) (list : List Instance)
    (now : List Entry) : Type 0 where
  pub rest : List Entry
  pub is : now ≡ entry ∷ rest
  pub batch : IsBatch (limits_of head) task (before ++ entry ∷ []) list rest

-- the first entries of what would be that
abbrev pub IsFrontBehind : Head → Task → List Entry → Entry → List Instance → List Entry → Type 0
IsFrontBehind head task before entry list = IsFrontPart before (IsAskedBehind head task before entry list)

-- The entry was put behind the transcript, and a batch of the dues behind it, which ended so. Something was asked.
pub record RanBehind (task : Task) (head : Head) (entry : Entry) (dues : List Due) (old new : State)
    (b : Batch) : Type 0 where
  pub now : List Entry
  pub pushed : new.entries ≡ old.entries ++ now
  pub asks : IsAskedBehind head task old.entries entry (due_instances dues) now
  pub more : length old.asked < length new.asked
  pub ends : EndsBatch task new.entries (length old.asked) (length new.asked) head.calls (length dues) b

-- what that has done to a desk
abbrev pub OnAskBehind : AtDesk → AtDesk → Stretch → Entry → List Due → Result Batch RunFault → Type 0
OnAskBehind old new c entry dues result =
    OnTurn old new c (RanBehind old.task old.head entry dues old.state new.state)
    (IsFrontBehind old.head old.task old.state.entries entry (due_instances dues)) result
