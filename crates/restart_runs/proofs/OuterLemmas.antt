-- A run over a host that starts its children again leaves the log of such a run below.
use Rattle.std.proofs.Common.{inl, inr, ◌≡◌, ℕ, zero, suc, ◌<◌, ◌≤◌, true, List, [], ◌++◌, Option, None, Some, refl, sym, ap, subst, ◌∙◌, arith, append_assoc, All}
use Rattle.std.proofs.lemmas.List.{append_cancel_left}
use Rattle.std.proofs.lemmas.List.Elements.{All-nil, All-weaker}
use Rattle.io_world.specs.Logs.{Calls, said_of, told_of}
use Rattle.io_world.specs.Talks.{Event, LogGrows, silence, spelled}
use Rattle.restart_host.proofs.NotedLemmas.{told_whole}
use Rattle.restart_host.specs.Leads.{AreDoneBelow, IsDoneBy}
use Rattle.restart_host.specs.Uses.{AreDone}
use Rattle.restart_runs.proofs.BegunLemmas.{IsOkStart, all_stand, starts_begun, starts_ok, stops_done}
use Rattle.restart_runs.proofs.BroughtLemmas.{followed}
use Rattle.restart_runs.proofs.NextLemmas.{SayAnswers}
use Rattle.restart_runs.proofs.CallsLemmas.{IsNoStart, done_cut, stop_no}
use Rattle.restart_runs.proofs.StandsLemmas.{Stands}
use Rattle.restart_runs.proofs.TabledAgainLemmas.{asks_kept, tabled_again}
use Rattle.restart_runs.specs.Again.{LogRanAgain}
use Rattle.restart_runs.proofs.WorkersLemmas.{GoToWorkers, IsWorkerIn, worker_in}
use Rattle.restart_runs.specs.Laws.{OuterCallsAreBrought, OuterRunsAreTabled}
use Rattle.round_run.specs.Calls.{Follows, IsStop, LogRan, starts_before, starts_of}
use Rattle.round_run.proofs.DialogueRequestLemmas.{requests_counted}
use Rattle.round_run.specs.Dialogue.{Dialogue, replies_of, requests_of, workers_in}
use Rattle.table_runs.proofs.ServedLemmas.{asked_in_turn}
use Rattle.transcript_model.specs.Outcomes.{MayStand}
use Rattle.transcript_model.specs.Turns.{Stage, inside}
use Rattle.transcript_model.specs.declared.outcome.Outcome.{Outcome}
use Rattle.pools.specs.Pools.{AreFitPools}
use Rattle.table_runs.specs.Tabled.{IsTalkedRun}
use Rattle.task_model.specs.Fit.{IsFit}
use Rattle.task_model.specs.declared.task.Task.{Task}
use Rattle.transcript_model.specs.Legal.{asks_of}
use Rattle.transcript_model.specs.declared.entry.Entry.{Entry}
use Rattle.transcript_model.specs.declared.head.Head.{Head}
use Rattle.transcript_model.specs.declared.head.Pool.{Pool}
use Rattle.transcript_model.specs.declared.limits.TheConstants.{MOST_CALLS}

-- the starts before the first request, where there is one
before_ok : (pools : List Pool) (asks : ℕ) → All IsOkStart (starts_before pools 0 asks)
before_ok pools zero = All-nil IsOkStart
before_ok pools (suc more) = starts_ok pools

before_all : (pools : List Pool) (asks : ℕ) → 0 < asks → starts_before pools 0 asks ≡ starts_of pools
before_all pools zero some = absurd (omega (arith, some))
before_all pools (suc more) some = refl

pub outer_brought : OuterCallsAreBrought
outer_brought task head entries calls past os is fit able legal few served alone ran talks done =
    let workers : GoToWorkers task head entries = λ k r at. worker_in task head r.child able (served k r at) in
    let starts : List Event = starts_before head.pools 0 (asks_of entries) in
    let events : List Event = ran.1 in
    let stops : List Event = ran.2 in
    let same : ran.0 ≡ calls = cc (ran.3) in
    let cut : os ≡ starts ++ (events ++ stops) =
    append_cancel_left calls os (starts ++ (events ++ stops))
    (ran.4 ∙ ap (λ zs. ((zs ++ starts) ++ events) ++ stops) same ∙ append_assoc (calls ++ starts) events stops
    ∙ append_assoc calls starts (events ++ stops)) in
    let first = done_cut calls past starts (events ++ stops) is (subst (λ zs. AreDone calls past zs is) cut done) in
    let second = done_cut (calls ++ starts) (past ++ first.now) events stops first.later first.second in
    let said : (c : ℕ) → IsWorkerIn head c → 0 < asks_of entries
    → SayAnswers task head.version (requests_of task (workers_in head) entries) (replies_of entries) c
    (spelled c silence (calls ++ os)).heard =
    λ c worker some.
    let talk = talks c worker.one (let count = requests_counted task (workers_in head) [] entries in omega (arith, count, some)) in
    record { answered = talk.answered; short = talk.short } in
    let final : calls ++ os ≡ ((calls ++ starts) ++ events) ++ stops =
    ran.4 ∙ ap (λ zs. ((zs ++ starts) ++ events) ++ stops) same in
    let stand : (c : ℕ) → IsWorkerIn head c → 0 < asks_of entries → Stands task head [] (calls ++ starts) c =
    λ c worker some.
    subst (λ zs. Stands task head [] (calls ++ zs) c) (sym (before_all head.pools (asks_of entries) some))
    (all_stand task head calls c worker) in (
      past,
      first.now,
      second.now,
      second.later,
      refl,
      starts_begun starts calls past first.now (before_ok head.pools (asks_of entries)) first.first,
      ap (λ zs. past ++ zs) (first.cut ∙ ap (λ zs. first.now ++ zs) second.cut)
          ∙ sym (append_assoc past first.now (second.now ++ second.later))
          ∙ sym (append_assoc (past ++ first.now) second.now second.later),
      (followed task head entries fit legal few workers alone (calls ++ os) said (0 < asks_of entries) (λ some. some) [] entries
          (calls ++ starts) (past ++ first.now) events second.now stops refl final (All-weaker IsStop IsNoStart stop_no stops ran.6)
          stand (subst (λ zs. Follows task (workers_in head) (zs ++ starts) [] entries events) same ran.5) second.first).again,
      stops_done stops ((calls ++ starts) ++ events) ((past ++ first.now) ++ second.now) second.later ran.6 second.second,
    )

-- where an outcome may stand no batch is open
pub resting : (stage : Stage) (o : Outcome) → MayStand stage o → ¬ (stage ≡ inside)
resting stage o (inl between_so) is = absurd (cc (between_so, is))
resting stage o (inr cut) is = absurd (cc (cut.0, is))

module _ (task : Task) (head : Head) (entries : List Entry) (stage : Stage) (o : Outcome) (old new : Calls)
    (events : List Event) (fit : IsFit task) (able : AreFitPools task (workers_in head)) (few : head.calls ≤ MOST_CALLS)
    (run : IsTalkedRun task head entries stage o (said_of new)) (ran : LogRan task head entries (told_of old) (told_of new))
    (begun : old.whole ≡ true) (whole : new.whole ≡ true) where
  -- the log below, where it is told
  ran_below : (past : List Event) → IsDoneBy old.events new.events past events
      → LogRanAgain task head entries (Some past) (Some (past ++ events))
  ran_below past done =
      let ran_so : LogRan task head entries (Some old.events) (Some (old.events ++ done.0)) =
      subst (λ zs. LogRan task head entries (Some old.events) (Some zs)) done.1
      (subst (λ (told : Option (List Event)). LogRan task head entries told (Some new.events)) (told_whole old begun)
      (subst (λ (told : Option (List Event)). LogRan task head entries (told_of old) told) (told_whole new whole) ran)) in
      let talks = subst (λ zs. Dialogue task head.version (workers_in head) entries (λ child. Some (spelled child silence zs))) done.1
      run.talks in
      let alone = asked_in_turn task head entries stage fit able run.legal run.turns (resting stage o run.stands) in
      let kept : asks_of entries ≤ MOST_CALLS = omega (arith, asks_kept task head entries stage run.turns, few) in
      outer_brought task head entries old.events past done.0 events fit able run.legal kept run.served alone ran_so talks done.2

  calls_below : (was now : Option (List Event)) → LogGrows was now events → AreDoneBelow old.events new.events was now events
      → LogRanAgain task head entries was now
  calls_below was None grows done = tt
  calls_below was (Some after) grows done =
      subst (λ told. LogRanAgain task head entries told (Some after)) (sym grows.1)
      (subst (λ zs. LogRanAgain task head entries (Some grows.0) (Some zs)) (sym grows.2)
      (ran_below grows.0 (done grows.0 after grows.1 refl)))

pub outer_tabled : OuterRunsAreTabled
outer_tabled task head entries stage o old new was now events fit able few run ran begun whole grows done =
    let calls = calls_below task head entries stage o old new events fit able few run ran begun whole was now grows done in
    record {
      calls = calls;
      tabled = tabled_again task head entries stage o was now fit few (record {
        legal = run.legal;
        turns = run.turns;
        lazy = run.lazy;
        stands = run.stands;
        claim = run.claim;
        end = run.end;
        few = run.few;
        closed = run.closed;
        calls = calls;
      });
    }
