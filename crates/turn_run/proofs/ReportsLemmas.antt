-- What a run over a task writes.
use Rattle.std.proofs.Common.{◌≡◌, ℕ, ◌≤◌, arith, List, [], count_by, length, Option, refl, sym, subst, ◌⊎◌, inl, inr, IfSome, ◌∷◌, ◌+◌, take, ap, ◌∙◌, ◌++◌, append_assoc}
use Rattle.std.proofs.lemmas.List.{append-nil, length-append}
use Rattle.std.specs.Io.KnownBytes.{Appends}
use Rattle.std.specs.List.{flat_map}
use Rattle.std.proofs.Math.Seq.{take-append-add}
use Rattle.std.proofs.lemmas.Grind.{flat_map-append}
use Rattle.task_model.specs.declared.task.Task.{Task}
use Rattle.lemmas.proofs.Members.{take_append}
use Rattle.transcript_model.specs.Legal.{IsLegal, asks_of, is_level}
use Rattle.report_text.specs.Texts.{text_of_head, text_of_entry, done_line, line_text, text_of_outcome, text_of_report}
use Rattle.transcript_model.specs.declared.entry.Entry.{Entry}
use Rattle.transcript_model.specs.declared.head.Head.{Head}
use Rattle.transcript_model.specs.declared.outcome.Outcome.{Outcome}
use Rattle.turn_run.proofs.TurnsFrontLemmas.{run_between}
use Rattle.turn_run.proofs.TurnsLemmas.{standing_first}
use Rattle.turn_laws.proofs.ModeCountsLemmas.{turn_keeps, turns_keep}
use Rattle.turn_laws.proofs.ModesLemmas.{as_family}
use Rattle.turn_laws.specs.Modes.{TurnOf, nothing_kept}
use Rattle.transcript_model.specs.Rounds.{limits_of}
use Rattle.report_text.proofs.PrintsLemmas.{appends_none, appends_then}
use Rattle.round_run.proofs.StoppedLemmas.{lines_of_one, off_none}
use Rattle.io_world.specs.Talks.{Event, Same, Talk}
use Rattle.round_run.proofs.TurnLineLemmas.{needed_more, needed_stops}
use Rattle.round_run.specs.TurnLines.{TurnBreaks, HasTurnLine}
use Rattle.round_run.proofs.BreakingRunLemmas.{broken_more, broken_of, still_breaks, stops_then_stops}
use Rattle.round_run.proofs.CallsRunLemmas.{stops_none}
use Rattle.round_run.proofs.CallsStopLemmas.{ran_of, ran_stopped}
use Rattle.round_run.specs.Calls.{LogRan, LogStops, Runs}
use Rattle.round_run.proofs.TalkingLemmas.{dialogue_unasked}
use Rattle.round_run.specs.Dialogue.{BrokenOff, Dialogue, IsSaid, replies_of, requests_of, workers_in}
use Rattle.turn_run.specs.Reports.{IsBroken, IsReported, IsRun, WasToWrite, text_of_end, text_so_far, whole_text, TookTo, begins_last, last_begins, report_of}
use Rattle.round_run.specs.Rolling.{Goes, Stopped}
use Rattle.report_text.specs.Prints.{CutOff}
use Rattle.round_run.specs.Stops.{StopsAt}
use Rattle.table_runs.specs.Tabled.{IsTabled}
use Rattle.turn_run.specs.Turns.{IsFrontOfRun}
use Rattle.round_run.specs.declared.fault.RunFault.{RunFault}
use Rattle.round_run.specs.declared.fault.RunFault.TheVariants.{Answer, Generator, Write, Memory}
use Rattle.turn_run.specs.declared.whole_run.Ran.{Ran}

-- a whole report is the text of one
pub whole_is : (task : Task) (head : Head) (entries : List Entry) (o : Outcome)
    → whole_text task head entries o ≡ text_of_report (report_of task head entries o)
whole_is task head entries o = sym (append_assoc (text_so_far task head entries) (text_of_outcome head.version o) (line_text done_line))

-- no more requests are made than the head's calls
pub run_calls : (task : Task) (head : Head) (entries : List Entry) (o : Outcome) → IsRun task head entries o
    → asks_of entries ≤ head.calls
run_calls task head entries o run =
    turns_keep (limits_of head) task (TurnOf head.mode (limits_of head) task)
    (λ k before now next cut this. turn_keeps (limits_of head) task head.mode k before now next cut this)
    nothing_kept [] entries run.stage (as_family head.mode (limits_of head) task entries run.stage run.turns) (omega arith)

module _ (task : Task) (head : Head) (spoken : ℕ → Option Talk) where
  legal_nil : IsLegal head.version task []
  legal_nil k e at = absurd (cc)

  front_nil : IsFrontOfRun head task []
  front_nil = run_between head task nothing_kept [] (standing_first head task) legal_nil

  abbrev Front : List Entry → Type 0
  Front = IsFrontOfRun head task

  talks_nil : (fault : RunFault) → BrokenOff task head.version (workers_in head) Front fault [] spoken
  talks_nil fault =
      off_none head.version task (workers_in head) Front fault [] spoken legal_nil front_nil
      (dialogue_unasked task head.version (workers_in head) [] spoken refl)

  -- the head alone
  only_head : text_of_head task head ≡ text_so_far task head []
  only_head = sym (append-nil (text_of_head task head))

  -- nothing was written, for want of memory
  pub broken_before : (was now : Option (List Event)) (sink : Option (List ℕ)) (fault : RunFault)
      → LogStops was now → fault ≡ Memory
      → IsBroken task head spoken was now sink sink fault
  broken_before was now sink fault stops is =
      subst (IsBroken task head spoken was now sink sink)
      (sym is) (record { text = []; form = inl (refl, refl, stops); told = appends_none sink })

  -- the head was to be written
  pub broken_head : (fault : RunFault) (log : Option (List Event)) (old new : Option (List ℕ))
      → fault ≡ Write → CutOff old new (text_of_head task head) → IsBroken task head spoken log log old new fault
  broken_head fault log old new is cut =
      subst (IsBroken task head spoken log log old new) (sym is) (record {
        text = text_of_head task head;
        form = inr (inl (record {
          entries = [];
          front = front_nil;
          blamed = tt;
          talks = talks_nil Write;
          calls = broken_of task head Front [] Write log log (still_breaks task head Front [] Write log refl);
          needed = inl (stops_none log);
          is = only_head;
        }));
        told = (cut.count, omega arith, cut.less, cut.took);
      })

  -- the head was written, and then no memory was there
  pub broken_behind : (fault : RunFault) (log : Option (List Event)) (old new : Option (List ℕ))
      → Appends old new (text_of_head task head) → fault ≡ Memory → IsBroken task head spoken log log old new fault
  broken_behind fault log old new told is =
      subst (IsBroken task head spoken log log old new) (sym is) (record {
        text = text_of_head task head;
        form = inr (inl (record {
          entries = [];
          front = front_nil;
          blamed = tt;
          talks = talks_nil Memory;
          calls = broken_of task head Front [] Memory log log (still_breaks task head Front [] Memory log (inl (refl, λ n. refl)));
          needed = inl (stops_none log);
          is = only_head;
        }));
        told = told;
      })

  -- the last entry's lines begin behind those of the others
  last_at : (entries done : List Entry) (last : Entry) → entries ≡ done ++ last ∷ []
      → last_begins task head entries ≤ length (text_so_far task head done)
  last_at [] done last is = omega arith
  last_at (e ∷ es) done last is =
      let long : length es ≡ length done = omega (arith, ap length is, length-append done (last ∷ [])) in
      let front : take (length es) (e ∷ es) ≡ done = (λ i. take (long i) (is i)) ∙ take_append done (last ∷ []) in
      omega (arith, ap (λ xs. length (text_so_far task head xs)) front)

  took_turns : (fault : RunFault) (more : List Entry) (old mid new : Option (List ℕ))
      → Appends old mid (text_of_head task head) → StopsAt fault mid new more
      → TookTo (last_begins task head more) fault old new (text_so_far task head more)
  took_turns Generator more old mid new first told = appends_then old mid new _ _ first told
  took_turns Memory more old mid new first told = appends_then old mid new _ _ first told
  took_turns (Answer number why) more old mid new first told = appends_then old mid new _ _ first told
  took_turns Write more old mid new first c =
      let begun = text_so_far task head c.done in
      let cut = text_of_entry c.last in
      let parts : text_so_far task head more ≡ begun ++ cut =
      ap (text_so_far task head) c.is
      ∙ ap (λ bytes. text_of_head task head ++ bytes)
      (flat_map-append text_of_entry c.done (c.last ∷ [])
      ∙ ap (λ bytes. flat_map text_of_entry c.done ++ bytes) (lines_of_one c.last))
      ∙ sym (append_assoc (text_of_head task head) (flat_map text_of_entry c.done) cut) in
      let taken : text_of_head task head ++ (flat_map text_of_entry c.done ++ take c.count cut)
      ≡ take (length begun + c.count) (text_so_far task head more) =
      sym (append_assoc (text_of_head task head) (flat_map text_of_entry c.done) (take c.count cut))
      ∙ sym (take-append-add begun cut c.count) ∙ ap (take (length begun + c.count)) (sym parts) in (
        length begun + c.count,
        omega (arith, last_at more c.done c.last c.is),
        omega (arith, c.less, ap length parts, length-append begun cut),
        subst (Appends old new) taken (appends_then old mid new _ _ first c.took),
      )

  -- the head was written, and the turns stopped
  pub broken_turns : (fault : RunFault) (was now : Option (List Event)) (old mid new : Option (List ℕ))
      → Appends old mid (text_of_head task head)
      → Stopped head.version task (workers_in head)
      (IsFrontOfRun head task) [] fault mid new spoken (TurnBreaks task head [] fault was now)
      → IsBroken task head spoken was now old new fault
  broken_turns fault was now old mid new first stopped = record {
    text = text_so_far task head stopped.more;
    form = inr (inl (record {
      entries = stopped.more;
      front = stopped.front;
      blamed = stopped.blamed;
      talks = stopped.talks;
      calls = broken_of task head Front stopped.more fault was now stopped.logged.0;
      needed = needed_stops head.mode stopped.more was now stopped.logged.1;
      is = refl;
    }));
    told = took_turns fault stopped.more old mid new first stopped.told;
  }

  -- the lines of the head and of the entries were written
  pub told_so_far : (entries : List Entry) (old mid new : Option (List ℕ))
      → Appends old mid (text_of_head task head)
      → Goes [] entries mid new → Appends old new (text_so_far task head entries)
  told_so_far entries old mid new first goes =
      subst (λ es. Appends old new (text_so_far task head es)) (sym goes.pushed) (appends_then old mid new _ _ first goes.told)

  -- the outcome was to be written
  pub broken_end : (entries : List Entry) (o : Outcome) (fault : RunFault) (was now : Option (List Event)) (old mid new : Option (List ℕ))
      → IsRun task head entries o → Dialogue task head.version (workers_in head) entries spoken → IsTabled task head entries spoken o
      → Runs task head [] entries was now
      → (now ≡ was) ⊎ HasTurnLine head.mode entries → Appends old mid (text_so_far task head entries)
      → fault ≡ Write → CutOff mid new (text_of_end head.version o) → IsBroken task head spoken was now old new fault
  broken_end entries o fault was now old mid new run talks tabled runs needed first is cut =
      subst (IsBroken task head spoken was now old new) (sym is) (record {
        text = whole_text task head entries o;
        form = inr (inr (
          refl,
          record {
            entries = entries;
            outcome = o;
            run = run;
            talks = talks;
            tabled = tabled;
            calls = ran_of task head entries was now runs;
            is = refl;
          },
        ));
        told = (
          length (text_so_far task head entries) + cut.count,
          omega arith,
          omega (arith, cut.less, length-append (text_so_far task head entries) (text_of_end head.version o)),
          subst (Appends old new) (sym (take-append-add (text_so_far task head entries) (text_of_end head.version o) cut.count))
              (appends_then old mid new _ _ first cut.took),
        );
      })

  pub reported : (entries : List Entry) (o : Outcome) (levels asks : ℕ) (was now : Option (List Event)) (old mid new : Option (List ℕ))
      → IsRun task head entries o → Dialogue task head.version (workers_in head) entries spoken → IsTabled task head entries spoken o
      → LogRan task head entries was now
      → levels ≡ count_by is_level entries → asks ≡ asks_of entries → Appends old mid (text_so_far task head entries)
      → Appends mid new (text_of_end head.version o)
      → IsReported task head spoken was now old new (record { outcome = o; levels = levels; asks = asks })
  reported entries o levels asks was now old mid new run talks tabled calls of_levels of_asks first second =
      record {
        entries = entries;
        run = run;
        talks = talks;
        tabled = tabled;
        calls = calls;
        told = appends_then old mid new (text_so_far task head entries) (text_of_end head.version o) first second;
        levels = of_levels;
        asks = of_asks;
      }

-- what was said stays, and stops come to the log, so the report is still of it
pub reported_behind : (task : Task) (head : Head) (spoken later : ℕ → Option Talk)
    (was now after : Option (List Event)) (old new : Option (List ℕ)) (ran : Ran)
    → Same spoken later → LogStops now after → IsReported task head spoken was now old new ran
    → IsReported task head later was after old new ran
reported_behind task head spoken later was now after old new ran same stops r = record {
  entries = r.entries;
  run = r.run;
  talks = λ child one some.
      subst (λ talk. IfSome talk (IsSaid task head.version (requests_of task (workers_in head) r.entries) (replies_of r.entries) [] child))
      (sym (same child)) (r.talks child one some);
  tabled = subst (λ s. IsTabled task head r.entries s ran.outcome) (λ i. λ k. sym (same k) i) r.tabled;
  calls = ran_stopped task head r.entries was now after r.calls stops;
  told = r.told;
  levels = r.levels;
  asks = r.asks;
}

-- the same where there is no outcome
pub broken_stopped : (task : Task) (head : Head) (spoken later : ℕ → Option Talk)
    (was now after : Option (List Event)) (old new : Option (List ℕ)) (fault : RunFault)
    → Same spoken later → LogStops now after → IsBroken task head spoken was now old new fault
    → IsBroken task head later was after old new fault
broken_stopped task head spoken later was now after old new fault same stops b =
    subst (λ s. IsBroken task head s was after old new fault) (λ i. λ k. sym (same k) i) (by b.form b.told)
  where
    by : (form : WasToWrite task head fault spoken was now b.text) → TookTo (begins_last form) fault old new b.text
        → IsBroken task head spoken was after old new fault
    by (inl (is, none, before)) told =
        record { text = b.text; form = inl (is, none, stops_then_stops was now after before stops); told = told }
    by (inr (inl p)) told = record {
      text = b.text;
      form = inr (inl (record {
        entries = p.entries;
        front = p.front;
        blamed = p.blamed;
        talks = p.talks;
        calls = broken_more task head (IsFrontOfRun head task) p.entries fault was now after p.calls stops;
        needed = needed_more head.mode p.entries was now after p.needed stops;
        is = p.is;
      }));
      told = told;
    }
    by (inr (inr (is, w))) told = record {
      text = b.text;
      form = inr (inr (
        is,
        record {
          entries = w.entries;
          outcome = w.outcome;
          run = w.run;
          talks = w.talks;
          tabled = w.tabled;
          calls = ran_stopped task head w.entries was now after w.calls stops;
          is = w.is;
        },
      ));
      told = told;
    }
