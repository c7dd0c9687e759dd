-- Accepted texts spell fit tasks.
use Rattle.std.specs.Prelude.{ℕ, ◌≤◌, List, length}
use Rattle.task_model.specs.Fit.{IsFit}
use Rattle.task_model.specs.declared.domain.Domain.{Domain}
use Rattle.task_model.specs.declared.task.Task.{Task}
use Rattle.task_reader.specs.Tasks.{SpellsTask}
use Rattle.task_reader.specs.Texts.{SpellsDomain}
use Rattle.task_reader.specs.declared.texts.TheConstants.{TEXT_BYTES}

-- at most 4 MiB
abbrev pub IsShort : List ℕ → Type 0
IsShort bytes = length bytes ≤ TEXT_BYTES

-- A text of at most 4 MiB spells the domain.
pub record HasShortText (d : Domain) : Type 0 where
  pub bytes : List ℕ
  pub short : IsShort bytes
  pub spelled : SpellsDomain bytes d

-- The task that three texts of at most 4 MiB spell is fit.
abbrev pub SpelledTasksAreFit : Type 0
SpelledTasksAreFit =
    (domain_bytes problem_bytes stream_bytes : List ℕ) (task : Task) → IsShort domain_bytes → IsShort problem_bytes
    → IsShort stream_bytes → SpellsTask domain_bytes problem_bytes stream_bytes task → IsFit task
