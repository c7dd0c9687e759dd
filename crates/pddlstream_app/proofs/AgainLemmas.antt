-- The log of a host whose children are started again, of a run with an outcome.
use Rattle.std.proofs.Common.{◌≡◌, ℕ, zero, suc, List, [], refl, subst, ◌∙◌, inl, inr, Option, Some}
use Rattle.command_files.specs.Outside.{Outside, Written}
use Rattle.command_files.specs.declared.status.Status.{Status}
use Rattle.command_files.specs.declared.status.Status.TheVariants.{Memory, WriteFault}
use Rattle.command_line.proofs.RangesLemmas.{in_range}
use Rattle.command_line.specs.Ranges.{AreInRange}
use Rattle.command_line.specs.Words.{command_of, solve}
use Rattle.io_world.specs.FileMap.{FileMap}
use Rattle.io_world.specs.Logs.{no_calls, told_of}
use Rattle.restart_runs.proofs.OuterLemmas.{outer_tabled, resting}
use Rattle.restart_runs.specs.Tabled.{IsRanAgain}
use Rattle.round_run.specs.Batches.{IsRunnable}
use Rattle.round_run.specs.Calls.{LogRan}
use Rattle.round_run.specs.Dialogue.{Dialogue, workers_in}
use Rattle.run_command.proofs.HeadsLemmas.{head_runs}
use Rattle.run_command.proofs.MakingLemmas.{made_in_range}
use Rattle.run_command.specs.Heard.{Heard, IsHeard, IsHeardAgain}
use Rattle.run_command.specs.Runs.{HasOutcome, ProgramRun, outcome_status}
use Rattle.run_command.specs.Works.{Work, command_for, files_of, made_words, making, solving, words_of_work}
use Rattle.table_runs.proofs.ServedLemmas.{go_to_pools}
use Rattle.transcript_model.specs.declared.outcome.Outcome.{Outcome}
use Rattle.transcript_model.specs.declared.outcome.Outcome.TheVariants as outcome
use Rattle.pddlstream_app.specs.Runs.{Ends, EndsAgain, LacksMemory, RunWrites, ShowsAgain, WasShown, WritesAgain, was_memory}

-- the words of a run are in their ranges
work_within : (words : List (List ℕ)) (work : Work) → command_of words ≡ Some (command_for work) → AreInRange (words_of_work work)
work_within words (solving w) meant = in_range words (solve w) meant
work_within words (making n) meant = made_in_range made_words refl

-- so its head can be run
run_runnable : (words : List (List ℕ)) (told : Option FileMap) (run : ProgramRun words told) → IsRunnable run.task run.head
run_runnable words told run =
    head_runs run.task (files_of told run.work) (words_of_work run.work) run.head run.headed (work_within words run.work run.meant)

-- an outcome isn't want of memory
outcome_told : (o : Outcome) → ¬ (outcome_status o ≡ Memory)
outcome_told (outcome.Plan steps cost from) is = absurd (cc (is))
outcome_told outcome.NoPlan is = absurd (cc (is))
outcome_told (outcome.Limit kind) is = absurd (cc (is))

module _ {words : List (List ℕ)} {outside : Outside} {status : Status} {text : List ℕ} (below heard : Heard)
    (spoken : outside.spoken ≡ heard.spoken) (was : outside.was ≡ heard.was) (now : outside.now ≡ heard.now)
    (h : HasOutcome words outside status text) (Lacked : Type 0) (some : ¬ Lacked) where
  pub ran_again : IsHeardAgain Lacked below heard → IsRanAgain h.run.task h.run.head h.run.entries below.was below.now h.outcome
  ran_again by =
      let runnable = run_runnable words outside.files.told h.run in
      let t = h.turns in
      let whole = by.whole some in
      let ran : LogRan h.run.task h.run.head h.run.entries (Some []) (told_of by.calls) =
      subst (λ log. LogRan h.run.task h.run.head h.run.entries log (told_of by.calls)) (was ∙ by.was)
      (subst (LogRan h.run.task h.run.head h.run.entries outside.was) (now ∙ by.now) h.calls) in
      outer_tabled h.run.task h.run.head h.run.entries t.stage h.outcome no_calls by.calls below.was below.now by.events
      h.run.fit runnable.fit.pools runnable.fit.calls
      (record {
        legal = t.legal;
        turns = t.turns;
        lazy = t.lazy;
        stands = t.stands;
        claim = t.sure.holds;
        end = t.end;
        few = t.few;
        closed = t.closed;
        talks = subst (Dialogue h.run.task h.run.head.version (workers_in h.run.head) h.run.entries) (spoken ∙ by.spoken) h.talks;
        served = go_to_pools h.run.task h.run.head h.run.entries t.stage h.run.fit runnable.fit.pools t.legal t.turns
            (resting t.stage h.outcome t.stands);
      })
      ran refl whole by.log (by.done whole)

module _ (words : List (List ℕ)) (outside : Outside) (below heard : Heard) (spoken : outside.spoken ≡ heard.spoken)
    (was : outside.was ≡ heard.was) (now : outside.now ≡ heard.now) (Lacked : Type 0) where
  writes_again : {status : Status} {text : List ℕ} (restarts : ℕ) → IsHeard restarts Lacked below heard
      → (Lacked → status ≡ Memory) → (writes : RunWrites words outside status text) → WritesAgain restarts below writes
  writes_again zero by lacks writes = tt
  writes_again (suc more) by lacks (inl h) =
      ran_again below heard spoken was now h Lacked (λ lacked. outcome_told h.outcome (h.kind ∙ lacks lacked)) by
  writes_again (suc more) by lacks (inr other) = tt

  shows_again : {text : List ℕ} (restarts : ℕ) → IsHeard restarts Lacked below heard → (was_shown : WasShown words outside text)
      → (Lacked → was_memory was_shown) → ShowsAgain restarts below was_shown
  shows_again restarts by (inl (other, writes)) lacks = writes_again restarts by lacks writes
  shows_again restarts by (inr part) lacks = tt

module _ (words : List (List ℕ)) (outside : Outside) (below heard : Heard) (spoken : outside.spoken ≡ heard.spoken)
    (was : outside.was ≡ heard.was) (now : outside.now ≡ heard.now) (Same : Type 0) (written : Written) (restarts : ℕ) where
  pub ends_again : (status : Status) (ends : Ends words outside Same written status)
      → IsHeard restarts (LacksMemory words outside Same written status ends) below heard
      → EndsAgain restarts below words outside Same written status ends
  ends_again WriteFault part by =
      shows_again words outside below heard spoken was now (was_memory part.was) restarts by part.was (λ lacked. lacked)
  ends_again status all by =
      writes_again words outside below heard spoken was now (status ≡ Memory) restarts by (λ lacked. lacked) all.writes
