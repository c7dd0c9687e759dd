-- What holds of every command that words mean.
use Rattle.std.specs.Prelude.{◌≡◌, ◌≤◌, ℕ, List, [], Some, ⊤, true}
use Rattle.clap.specs.Words.{Text}
use Rattle.transcript_model.specs.declared.head.Mode.TheVariants.{Incremental}
use Rattle.transcript_model.specs.declared.limits.TheConstants.{MOST_CALLS, MOST_DEPTH, WORKERS}
use Rattle.command_line.specs.Words.{Command, SolveWords, command_of, deorder, generate, migrate, play, replay, solve}
use Rattle.command_line.specs.declared.number.TheConstants.{LATEST_PROTOCOL, MOST_RESTARTS}
use Rattle.task_model.specs.declared.limits.TheConstants.{MOST_STATES}

-- from 1 to the most
abbrev pub IsFromOne : ℕ → ℕ → Type 0
IsFromOne most n = (1 ≤ n) × (n ≤ most)

-- `solve`: its numbers are in their ranges, no program stands beside a map, and the cheapest plan is asked for in
-- incremental mode alone
pub record AreInRange (w : SolveWords) : Type 0 where
  pub calls : IsFromOne MOST_CALLS w.limits.calls
  pub states : IsFromOne MOST_STATES w.limits.states
  pub depth : IsFromOne MOST_DEPTH w.limits.depth
  pub workers : IsFromOne WORKERS w.workers
  pub protocol : IsFromOne LATEST_PROTOCOL w.protocol
  pub restarts : w.restarts ≤ MOST_RESTARTS
  pub alone : (path : Text) → w.path ≡ Some path → w.program ≡ []
  pub cheapest : w.optimal ≡ true → w.mode ≡ Incremental

-- the numbers of the command are in their ranges
abbrev pub IsInRange : Command → Type 0
IsInRange (solve w) = AreInRange w
IsInRange (replay w) = IsFromOne MOST_STATES w.states
IsInRange (generate n) = IsFromOne 12 n
IsInRange (migrate path) = ⊤
IsInRange (deorder w) = IsFromOne MOST_STATES w.states
IsInRange (play w) = IsFromOne MOST_STATES w.states

-- whatever the words are
abbrev pub WordsAreInRange : Type 0
WordsAreInRange =
    (words : List Text) (command : Command) → command_of words ≡ Some command → IsInRange command
