-- Laws of what is said of dreams. Each is the contract of a public function of `laws.rt`.
use Rattle.std.specs.Prelude.{ℕ, List}
use Rattle.task_model.specs.Dreams as dreams
use Rattle.task_model.specs.declared.stream.Instance.{Instance}
use Rattle.task_model.specs.declared.task.Task.{Task}
use Rattle.transcript_model.specs.Dreaming.{IsDreamAfter}
use Rattle.transcript_model.specs.Rounds.{Limits}
use Rattle.transcript_model.specs.declared.entry.Call.{Call}
use Rattle.transcript_model.specs.declared.entry.DreamUse.{DreamUse}
use Rattle.transcript_model.specs.declared.entry.Entry.{Entry}
use Rattle.dream_check.specs.Lines.{IsWrongLine}

-- No line of a dream is wrong.
abbrev pub DreamsHaveNoWrongLine : Type 0
DreamsHaveNoWrongLine =
    (limits : Limits) (task : Task) (before : List Entry) (tried : List Instance) (uses : List DreamUse)
    (steps : List Call) (entries : List dreams.SupposedEntry) (offset : ℕ)
    → IsDreamAfter limits task before tried uses steps entries
    → ¬ (IsWrongLine limits task before tried uses steps offset)
