-- What is found of a head.
use Rattle.std.specs.Prelude.{◌≡◌, ℕ, ◌≤◌, ◌++◌, ◌∷◌, [], List, map, Bool, true, false}
use Rattle.task_model.specs.declared.task.Task.{Task}
use Rattle.transcript_model.specs.declared.head.PoolLine.{PoolLine}
use Rattle.transcript_model.specs.declared.report.Report.{Report}
use Rattle.pools.specs.Pools.{shares_of}
use Rattle.replay_check.specs.Breaches.{BreaksHead}
use Rattle.replay_check.specs.Heads.{AreFitPoolLines, IsFitReportHead, is_fit_pool, served_by, share_in, workers_together}
use Rattle.legal_report.specs.Lines.{line_behind_pools}
use Rattle.replay_check.specs.declared.head.Before.{Before}
use Rattle.replay_check.specs.declared.head.Headed.{Headed}
use Rattle.replay_check.specs.declared.head.Headed.TheVariants.{Fits, Breaks}
use Rattle.io_world.specs.declared.host.TheConstants.{CHILDREN}

-- These pools were passed, and they fit.
pub record IsAfter (task : Task) (passed : List PoolLine) (b : Before) : Type 0 where
  pub pools : shares_of b.pools.items ≡ map (share_in task) passed
  pub served : b.served.items ≡ served_by task passed
  pub workers : b.workers ≡ workers_together passed
  pub few : b.workers ≤ CHILDREN
  pub fit : AreFitPoolLines task passed

-- the next pool fits, and was passed; or it doesn't fit
abbrev pub IsPassed : Task → List PoolLine → PoolLine → Before → Bool → Type 0
IsPassed task before pool b true =
    (is_fit_pool task before pool ≡ true) × IsAfter task (before ++ pool ∷ []) b
IsPassed task before pool b false = is_fit_pool task before pool ≡ false

abbrev pub IsHeaded : Task → Report → Headed → Type 0
IsHeaded task r (Fits pools) =
    IsFitReportHead task r × (shares_of pools.items ≡ map (share_in task) r.pools)
IsHeaded task r (Breaks line) =
    BreaksHead task r line × (line ≤ line_behind_pools r) × ((other : ℕ) → BreaksHead task r other → line ≤ other)
