-- What texts spell is one thing, and what spells isn't refused.
use Rattle.std.specs.Prelude.{◌≡◌, ℕ, List}
use Rattle.task_model.specs.declared.task.Task.{Task}
use Rattle.task_reader.specs.Tasks.{SpellsTask, RefusesSecond, RefusesThird}
use Rattle.task_reader.specs.Texts.{RefusesDomain}
use Rattle.task_reader.specs.declared.refusal.FaultKind.{FaultKind}

-- three texts spell one task at most
abbrev pub TextsSpellOneTask : Type 0
TextsSpellOneTask =
    (domain_bytes problem_bytes stream_bytes : List ℕ) (t u : Task) → SpellsTask domain_bytes problem_bytes stream_bytes t
    → SpellsTask domain_bytes problem_bytes stream_bytes u → t ≡ u

-- None of the texts is refused, whichever fault one looks for.
pub record AreNotRefused (domain_bytes problem_bytes stream_bytes : List ℕ) : Type 0 where
  pub first : (kind : FaultKind) (place : ℕ) → ¬ (RefusesDomain domain_bytes kind place)
  pub second : (kind : FaultKind) (place : ℕ)
      → ¬ (RefusesSecond domain_bytes problem_bytes kind place)
  pub third : (kind : FaultKind) (place : ℕ)
      → ¬ (RefusesThird domain_bytes problem_bytes stream_bytes kind place)

-- where three texts spell a task, that is so
abbrev pub SpelledTextsAreNotRefused : Type 0
SpelledTextsAreNotRefused =
    (domain_bytes problem_bytes stream_bytes : List ℕ) (task : Task)
    → SpellsTask domain_bytes problem_bytes stream_bytes task → AreNotRefused domain_bytes problem_bytes stream_bytes
