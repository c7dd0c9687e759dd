-- What is dreamt in a turn.
use Rattle.std.specs.Prelude.{List}
use Rattle.solve_run.specs.Focusing.{IsDreamLine}
use Rattle.solve_run.specs.declared.dreamt.NextDream.{NextDream}
use Rattle.solve_run.specs.declared.dreamt.NextDream.TheVariants.{Known, Lined, Empty}
use Rattle.turn_run.specs.Turns.{IsSettledEnd}
use Rattle.task_model.specs.declared.stream.Instance.{Instance}
use Rattle.task_model.specs.declared.task.Task.{Task}
use Rattle.transcript_model.specs.Dreaming.{HasNoDreamAfter}
use Rattle.transcript_model.specs.Rounds.{limits_of}
use Rattle.transcript_model.specs.declared.entry.Entry.{Entry}
use Rattle.transcript_model.specs.declared.head.Head.{Head}

-- A plan that needs nothing that is supposed may end the run; a dream's line is one, with these entries; or there is
-- surely no dream.
abbrev pub IsNextDream : Head → Task → List Entry → List Instance → NextDream → Type 0
IsNextDream head task before tried (Known o) = IsSettledEnd head task before o
IsNextDream head task before tried (Lined dream) =
    IsDreamLine (limits_of head) task before tried dream.line dream.entries.items
IsNextDream head task before tried Empty = HasNoDreamAfter (limits_of head) task before tried
