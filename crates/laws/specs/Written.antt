-- What a run writes is valid, in each mode that is replayed. Each law is the contract of a public function of `replays.rt`,
-- and so is proved.
use Rattle.std.specs.Prelude.{◌≡◌, ◌⊎◌, ℕ, ◌<◌, ◌≤◌, List, [], ◌∷◌, length}
use Rattle.turn_run.specs.Reports.{IsRun, whole_text}
use Rattle.replay_check.specs.Verdicts.{IsVerdict}
use Rattle.replay_check.specs.declared.verdict.Verdict.{Verdict}
use Rattle.replay_check.specs.declared.verdict.Verdict.TheVariants.{Valid}
use Rattle.task_model.specs.Fit.{IsFit}
use Rattle.laws.specs.Reports.{ArePoolsOfReports, IsHeadOfReports}
use Rattle.lemmas.specs.Lists.{numbers_from}
use Rattle.task_model.specs.declared.task.Task.{Task}
use Rattle.transcript_model.specs.declared.entry.Entry.{Entry}
use Rattle.transcript_model.specs.declared.head.Head.{Head}
use Rattle.transcript_model.specs.declared.head.Pool.{Pool}
use Rattle.transcript_model.specs.declared.limits.TheConstants.{WORKERS}
use Rattle.transcript_model.specs.declared.outcome.Outcome.{Outcome}

-- One pool serves all streams, in their order, if there are any; and else there is none.
abbrev pub IsOnePool : Task → List Pool → Type 0
IsOnePool task pools =
    (pools ≡ [])
    ⊎ ((pool : Pool) × (pools ≡ pool ∷ []) × (pool.workers ≤ WORKERS)
    × (pool.streams ≡ numbers_from 0 (length task.streams)) × (0 < length task.streams))

-- The one pool of a run without a map is such as a report shows.
abbrev pub OnePoolIsOfReports : Type 0
OnePoolIsOfReports =
    (task : Task) (pools : List Pool) → IsOnePool task pools → ArePoolsOfReports pools

-- Of a whole report that a run wrote a replay with a limit of at least the run's says nothing but that it is valid.
abbrev pub WrittenReportsAreValid : Type 0
WrittenReportsAreValid =
    (limit : ℕ) (task : Task) (head : Head) (entries : List Entry) (o : Outcome) (v : Verdict) → IsFit task
    → IsHeadOfReports task head → IsRun task head entries o → head.states ≤ limit
    → IsVerdict limit task (whole_text task head entries o) v → v ≡ Valid
