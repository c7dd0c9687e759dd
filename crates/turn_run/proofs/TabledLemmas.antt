-- What a run comes to where its children answer by a table.
use Rattle.std.proofs.Common.{◌≡◌, ℕ, List, Option, sym, ◌∙◌, inl, inr}
use Rattle.io_world.specs.Talks.{Talk}
use Rattle.turn_run.specs.Reports.{IsRun}
use Rattle.round_run.specs.Batches.{IsRunnable}
use Rattle.round_run.specs.Dialogue.{Dialogue, workers_in}
use Rattle.table_runs.proofs.ServedLemmas.{go_to_pools}
use Rattle.table_runs.proofs.TabledLemmas.{talked_tabled}
use Rattle.table_runs.specs.Tabled.{IsTabled}
use Rattle.task_model.specs.Fit.{IsFit}
use Rattle.task_model.specs.declared.task.Task.{Task}
use Rattle.transcript_model.specs.Outcomes.{MayStand}
use Rattle.transcript_model.specs.Turns.{Stage, after_cut, between, inside}
use Rattle.transcript_model.specs.declared.entry.Entry.{Entry}
use Rattle.transcript_model.specs.declared.head.Head.{Head}
use Rattle.transcript_model.specs.declared.outcome.Outcome.{Outcome}

-- an outcome stands nowhere inside a turn
pub resting : (stage : Stage) (o : Outcome) → MayStand stage o → ¬ (stage ≡ inside)
resting stage o (inl rests) stopped_there =
    let no : between ≡ inside = sym rests ∙ stopped_there in absurd (cc)
resting stage o (inr cut) stopped_there =
    let no : after_cut ≡ inside = sym cut.0 ∙ stopped_there in absurd (cc)

-- A run whose dialogue this was.
pub run_tabled : (task : Task) (head : Head) (entries : List Entry) (o : Outcome) (spoken : ℕ → Option Talk) → IsFit task
    → IsRunnable task head → IsRun task head entries o → Dialogue task head.version (workers_in head) entries spoken
    → IsTabled task head entries spoken o
run_tabled task head entries o spoken fit runnable run talks =
    talked_tabled task head entries run.stage o spoken fit runnable.fit.calls (record {
      legal = run.legal;
      turns = run.turns;
      lazy = run.lazy;
      stands = run.stands;
      claim = run.sure.holds;
      end = run.end;
      few = run.few;
      closed = run.closed;
      talks = talks;
      served =
          go_to_pools task head entries run.stage fit runnable.fit.pools run.legal run.turns (resting run.stage o run.stands);
    })
