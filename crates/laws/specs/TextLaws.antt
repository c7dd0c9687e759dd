-- What the text of a run's report names. The law is the contract of a public function of `texts.rt`, and so is proved.
use Rattle.std.specs.Prelude.{◌≡◌, ℕ, List, Some}
use Rattle.command_line.specs.Words.{SolveWords, command_of, solve}
use Rattle.command_files.specs.Outside.{Outside}
use Rattle.run_command.specs.Runs.{HasOutcome}
use Rattle.command_files.specs.declared.status.Status.{Status}
use Rattle.transcript_model.specs.declared.entry.Entry.{Entry}
use Rattle.transcript_model.specs.declared.head.Head.{Head}
use Rattle.transcript_model.specs.declared.outcome.Outcome.{Outcome}

-- The same entries and outcome, and heads of one mode and the same limits.
pub record AreOneRun (head other : Head) (entries others : List Entry) (o p : Outcome) : Type 0 where
  pub transcript : entries ≡ others
  pub outcome : o ≡ p
  pub version : head.version ≡ other.version
  pub mode : head.mode ≡ other.mode
  pub calls : head.calls ≡ other.calls
  pub states : head.states ≡ other.states
  pub depth : head.depth ≡ other.depth

-- Two runs of the program with outcomes, each for words that mean a task is to be solved, write the same text. Then
-- they are one run by all that the text shows, whatever their words, files and children were.
abbrev pub OneTextOneRun : Type 0
OneTextOneRun =
    (words others : List (List ℕ)) (outside after : Outside) (status end : Status) (text : List ℕ)
    (asked again : SolveWords) → command_of words ≡ Some (solve asked) → command_of others ≡ Some (solve again)
    → (first : HasOutcome words outside status text) (second : HasOutcome others after end text)
    → AreOneRun first.run.head second.run.head first.run.entries second.run.entries first.outcome second.outcome
