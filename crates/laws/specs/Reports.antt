-- What a report says of a run. Each law is the contract of a public function of `runs.rt`, and so is proved.
use Rattle.std.specs.Prelude.{◌≡◌, ◌<◌, ◌≤◌, List, length, All}
use Rattle.std.specs.List.{flat_map}
use Rattle.lemmas.specs.Lists.{AreDistinct}
use Rattle.turn_run.specs.Reports.{IsRun, report_of, whole_text}
use Rattle.report_text.specs.Forms.{IsFormed}
use Rattle.round_run.specs.Batches.{IsRunnable}
use Rattle.task_model.specs.Fit.{IsFit}
use Rattle.task_model.specs.declared.task.Task.{Task}
use Rattle.transcript_model.specs.declared.entry.Entry.{Entry}
use Rattle.transcript_model.specs.declared.head.Head.{Head}
use Rattle.transcript_model.specs.declared.head.Pool.{Pool}
use Rattle.transcript_model.specs.declared.limits.TheConstants.{MOST_DEPTH, WORKERS}
use Rattle.transcript_model.specs.declared.outcome.Outcome.{Outcome}

-- Each pool has at most 16 workers, and one stream at least; no stream is in two places.
pub record ArePoolsOfReports (pools : List Pool) : Type 0 where
  pub few : All (λ (p : Pool). p.workers ≤ WORKERS) pools
  pub some : All (λ (p : Pool). 0 < length p.streams) pools
  pub once : AreDistinct (flat_map (λ (p : Pool). p.streams) pools)

-- The head may be run; its depth is from 1 to 8, and its pools are such as a report shows.
pub record IsHeadOfReports (task : Task) (head : Head) : Type 0 where
  pub runnable : IsRunnable task head
  pub some_depth : 1 ≤ head.depth
  pub depth : head.depth ≤ MOST_DEPTH
  pub pools : ArePoolsOfReports head.pools

-- ---- laws

-- The report of a run has the stated forms.
abbrev pub ReportsOfRunsAreFormed : Type 0
ReportsOfRunsAreFormed =
    (task : Task) (head : Head) (entries : List Entry) (o : Outcome) → IsFit task → IsHeadOfReports task head
    → IsRun task head entries o → IsFormed (report_of task head entries o)

-- The text that a run writes names its transcript and its outcome: runs that write the same, of whatever tasks and
-- heads, have the same.
abbrev pub TextsNameRuns : Type 0
TextsNameRuns =
    (first second : Task) (head other : Head) (entries others : List Entry) (o p : Outcome)
    → IsFit first → IsHeadOfReports first head → IsRun first head entries o
    → IsFit second → IsHeadOfReports second other → IsRun second other others p
    → whole_text first head entries o ≡ whole_text second other others p → (entries ≡ others) × (o ≡ p)
