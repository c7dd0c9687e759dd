-- A batch: the workers are started, and then rounds are run.
use Rattle.std.proofs.Common.{◌≡◌, ◌⊎◌, ◌≤◌, ◌<◌, ◌∙◌, inl, inr, ℕ, List, Result, Ok, Err, false, ap, arith, length, refl, slice_get, subst, sym, unwrap_or}
use Rattle.std.proofs.lemmas.Result.{IfErr-weaker, err_from_is_err_and}
use Rattle.std.specs.Result.{IsErrAnd}
use Rattle.instance_queue.specs.Level.{due_instances}
use Rattle.instance_queue.specs.declared.due.Due.{Due}
use Rattle.round_run.proofs.BreakingRunLemmas.{rounds_broken, same_after, start_refused}
use Rattle.round_run.proofs.CallsRunLemmas.{batch_runs}
use Rattle.round_run.proofs.GoingLemmas.{between, cause_behind}
use Rattle.round_run.proofs.LedLemmas.{Joins, led_then}
use Rattle.round_run.proofs.RollingFrontLemmas.{all_work, front_asks_some, front_first}
use Rattle.round_run.proofs.StartsLemmas.{level_ok, started_after}
use Rattle.round_run.proofs.StoppedLemmas.{stopped_hearing, stopped_map, stops_some}
use Rattle.round_run.proofs.TalkingLemmas.{dialogue_unasked}
use Rattle.round_run.specs.Batches.{EndsBatch, IsRunnable}
use Rattle.round_run.specs.Breaking.{LogBreaks, RunBreaks, starts_after}
use Rattle.round_run.specs.Calls.{starts_before}
use Rattle.round_run.specs.Desk.{OnBatch, desk_of}
use Rattle.round_run.specs.Dialogue.{workers_in}
use Rattle.round_run.specs.Held.{Held}
use Rattle.round_run.specs.Open.{RunsRounds, StartsWorkers}
use Rattle.round_run.specs.Resting.{IsFrontOfBatch, RanBatch, Rests}
use Rattle.round_run.specs.Stops.{MayHear, StopsAt}
use Rattle.round_run.specs.Told.{Became, HostTold, Told}
use Rattle.round_run.specs.declared.ending.Batch.{Batch}
use Rattle.round_run.specs.declared.ending.Batch.TheVariants.{CallsSpent, Done}
use Rattle.round_run.specs.declared.fault.RunFault.{RunFault}
use Rattle.round_run.specs.declared.fault.RunFault.TheVariants.{Generator}
use Rattle.session_core.specs.State.{State}
use Rattle.task_model.specs.declared.task.Task.{Task}
use Rattle.transcript_model.proofs.RoundsFrontLemmas.{batch_exists}
use Rattle.transcript_model.specs.Legal.{IsLegal}
use Rattle.transcript_model.specs.Rounds.{IsBatch, limits_of}
use Rattle.transcript_model.specs.declared.entry.Entry.{Entry}
use Rattle.transcript_model.specs.declared.head.Head.{Head}

-- a batch in which nothing was asked: something was asked before, or nothing was to be asked
asked_before : (task : Task) (entries : List Entry) (before after calls many : ℕ) (b : Batch)
    → EndsBatch task entries before after calls many b → 1 ≤ calls → after ≡ before → (0 < before) ⊎ (many ≡ 0)
asked_before task entries before after calls many Done ends some same = inr (omega (arith, ends.0, same))
asked_before task entries before after calls many CallsSpent ends some same = inl (omega (arith, ends.0, some, same))

-- the sink is left alone while workers are started
abbrev pub with_host : Told → HostTold → Told
with_host told host = record { host = host; taken = told.taken; lost = told.lost }

module _ (task : Task) (head : Head) (dues : List Due) (s : State) (held mid : Held) (runnable : IsRunnable task head) (last : ℕ)
    (was : Told) (half : HostTold) (host : Became) (rests : Rests task head s held was.host.running was.host.spoken) where
  -- the rounds were run
  pub batch_went : {later all : Became} → Joins host later all → (left : Held) (new : State) (now : Told) (x : Unit {0})
      (r : Result Batch RunFault)
      → StartsWorkers task head dues s mid (record { last = last; was = was.host; now = half; host = host })
      (let ok : Result (Unit {0}) RunFault = Ok x in ok)
      → RunsRounds task head dues s new mid left (between last (with_host was half) now later) r
      → OnBatch (desk_of task head s held) (desk_of task head new left) (between last was now all) (RanBatch task head dues s new)
      (IsFrontOfBatch task head s.entries dues) r
  batch_went {later} {all} joins left new now x r starts runs = record {
    same = record { task = refl; head = refl };
    holds = level_ok r _ _ _ (λ b ran works. record {
      works = works;
      started = started_after task new.entries (length s.asked) (length new.asked) head.calls (length dues) b s.pools new.pools
          was.host.running half.running now.host.running ran.ends ran.grows runnable.fit.some_calls rests.started
          starts.started.ready starts.started.idle runs.same.running (works.of.pools ∙ sym rests.works.of.pools);
    }) runs.ran runs.works;
    ran = runs.ran;
    adds = level_ok r _ _ _ (λ b ran adds. record {
      goes = adds.goes;
      order = batch_runs task head s.entries new.entries (length s.asked) (length new.asked) (length dues) b was.host.log half.log
          now.host.log rests.works.listens.session.counted runs.session.counted runnable.fit.some_calls ran.ends starts.started.log
          adds.order;
    }) runs.ran runs.adds;
    stopped = IfErr-weaker r _ _ (λ fault more.
        stopped_map head.version task (workers_in head) now.host.spoken (IsFrontOfBatch task head s.entries dues) s.entries fault
        was.taken now.taken (LogBreaks task head.version (workers_in head) s.entries fault half.log now.host.log)
        (RunBreaks task head s.entries fault was.host.log now.host.log)
        (λ es told front. rounds_broken task head (IsFrontOfBatch task head s.entries dues) s.entries
        (starts_before head.pools (length s.asked) (length dues)) fault was.host.log half.log now.host.log
        (same_after head.pools (length s.asked) (length dues) more.0
        ∙ ap (starts_after head.pools) rests.works.listens.session.counted)
        starts.started.log es
        (λ failed. front_asks_some head task s.entries (due_instances dues) es front
        (stops_some was.taken now.taken es (subst (λ f. StopsAt f was.taken now.taken es) failed told)))) more.1) runs.stopped;
    state = λ k.
        ap (λ bs. unwrap_or (slice_get bs k) false) runs.same.started ∙ starts.state k ∙ sym (runs.same.running k);
    causes = record {
      host = cause_behind Generator last was.host.faults half.faults now.host.faults r starts.cause.later runs.causes.host;
      sink = runs.causes.sink;
    };
    led = led_then joins starts.led runs.led;
    still = level_ok r _ _ _ (λ b ran still none.
        let same : length new.asked ≡ length s.asked =
        omega (arith, none, runs.session.counted, rests.works.listens.session.counted) in
        joins.same (starts.still (asked_before task new.entries (length s.asked) (length new.asked) head.calls (length dues) b ran.ends
        runnable.fit.some_calls same)) (still same)) runs.ran runs.still;
  }

  -- a start was refused
  pub batch_refused : (new : State) (fault : RunFault) (r : Result Batch RunFault) → IsErrAnd r (λ y. y ≡ fault)
      → StartsWorkers task head dues s mid (record { last = last; was = was.host; now = half; host = host })
      (let bad : Result (Unit {0}) RunFault = Err fault in bad)
      → OnBatch (desk_of task head s held) (desk_of task head s mid) (between last was (with_host was half) host) (RanBatch task head dues s new)
      (IsFrontOfBatch task head s.entries dues) r
  batch_refused new fault r is starts =
      let p = err_from_is_err_and r is in
      let refused = starts.refused in
      let first = sym rests.works.listens.session.counted ∙ refused.0 in
      let batch = batch_exists (limits_of head) task s.entries (due_instances dues) (all_work head.pools runnable.fit.pools.some) in
      let legal = subst (λ v. IsLegal v task s.entries) rests.works.of.version rests.works.listens.session.legal in
      rw (p.1, p.2) (record {
        same = record { task = refl; head = refl };
        holds = tt;
        ran = tt;
        adds = tt;
        stopped = stopped_hearing head.version task (workers_in head) half.spoken (IsFrontOfBatch task head s.entries dues) s.entries fault
            was.taken (RunBreaks task head s.entries fault was.host.log half.log) legal
            (front_first s.entries batch.0 (IsBatch (limits_of head) task s.entries (due_instances dues)) batch.1)
            (dialogue_unasked task head.version (workers_in head) s.entries half.spoken first)
            (start_refused task head (IsFrontOfBatch task head s.entries dues) s.entries fault was.host.log half.log first refused.2)
            refused.1;
        state = starts.state;
        causes = record {
          host = record { later = starts.cause.later; cause = λ same. starts.cause.cause (ap Err (same_fault same)) };
          sink = record { later = omega arith; cause = λ same. absurd (subst MayHear (same_fault same) refused.1) };
        };
        led = starts.led;
        still = tt;
      })
    where
      same_fault : {a b : RunFault} → (let q : Result Batch RunFault = Err a in q) ≡ Err b → a ≡ b
      same_fault e = cc
