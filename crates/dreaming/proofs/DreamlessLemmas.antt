-- Where there is surely no dream there is none.
use Rattle.std.proofs.Common.{List, inl, inr}
use Rattle.dreaming.specs.Answers.{HasSureNoDreamAfter}
use Rattle.task_model.specs.declared.stream.Instance.{Instance}
use Rattle.task_model.specs.declared.task.Task.{Task}
use Rattle.transcript_model.specs.Dreaming.{HasNoDreamAfter}
use Rattle.transcript_model.specs.Rounds.{Limits}
use Rattle.transcript_model.specs.declared.entry.Entry.{Entry}

pub surely_none : (limits : Limits) (task : Task) (before : List Entry) (tried : List Instance)
    → HasSureNoDreamAfter limits task before tried → HasNoDreamAfter limits task before tried
surely_none limits task before tried (inl many) = inl many
surely_none limits task before tried (inr (list, supposed, inl none)) = inr (list, supposed, inl none)
surely_none limits task before tried (inr (list, supposed, inr far)) = inr (list, supposed, inr (inr far.reached))
