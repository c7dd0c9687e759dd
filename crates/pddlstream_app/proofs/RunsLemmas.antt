-- How runs end.
use Rattle.std.proofs.Common.{◌≡◌, ℕ, ◌+◌, arith, List, [], ◌++◌, length, take, true, false, MatchBool, Option, Some, refl, sym, subst, ap, ◌∙◌, ◌⊎◌, inl, inr, Err, IfErr, IfOk, Ok, Result}
use Rattle.std.proofs.Math.Seq.{take-append-add}
use Rattle.std.proofs.lemmas.List.{length-append}
use Rattle.std.specs.Io.KnownBytes.{Appends}
use Rattle.report_text.proofs.PrintsLemmas.{appends_none, appends_then}
use Rattle.round_run.specs.Calls.{LogRan, LogStops}
use Rattle.round_run.specs.Dialogue.{Dialogue, workers_in}
use Rattle.turn_run.proofs.ReportsLemmas.{whole_is}
use Rattle.turn_run.specs.Reports as reports
use Rattle.turn_run.specs.Reports.{IsBroken, IsPart, IsReported, WasToWrite, TookTo, begins_last}
use Rattle.turn_run.specs.declared.whole_run.Ran.{Ran}
use Rattle.table_runs.specs.Tabled.{IsTabled}
use Rattle.task_model.specs.declared.task.Task.{Task}
use Rattle.transcript_model.specs.Legal.{IsLegal}
use Rattle.transcript_model.specs.declared.entry.Entry.{Entry}
use Rattle.transcript_model.specs.declared.head.Head.{Head}
use Rattle.transcript_model.specs.declared.outcome.Outcome.{Outcome}
use Rattle.transcript_model.specs.declared.outcome.Outcome.TheVariants as outcome
use Rattle.pddlstream_app.proofs.NoInputLemmas.{is_of_input}
use Rattle.pddlstream_app.proofs.SaidLemmas.{answer_said, said_whole}
use Rattle.pddlstream_app.specs.AnswerOf.{HasAnswer}
use Rattle.pddlstream_app.specs.NoInput.{HasNoInput}
use Rattle.command_files.specs.Outside.{IsUntouched, Outside, Written}
use Rattle.pddlstream_app.specs.Runs.{ClosesRun, Ends, LacksMemory, RunHasFault, IsBefore, IsBeforeLast, IsCompleted, IsStopped, IsUnneeded, TellsStatus, TookAll, TookPart}
use Rattle.run_command.specs.Runs.{HasOutcome, IsPartOfRun, ProgramRun, outcome_status, shown_so_far, shown_text}
use Rattle.command_files.specs.Stop.{is_write, is_write_fault, status_at, last_text}
use Rattle.command_line.specs.Words.{SolveWords, command_of, solve}
use Rattle.run_command.specs.Solving.{HasNoReport, IsPosed, IsSolved, SolvesRun}
use Rattle.run_command.specs.Works.{Work, command_for, files_of, solving, words_of_work}
use Rattle.round_run.specs.declared.fault.RunFault.{RunFault}
use Rattle.round_run.specs.declared.fault.RunFault.TheVariants as fault
use Rattle.command_files.specs.declared.status.Status.{Status}
use Rattle.command_files.specs.declared.status.Status.TheVariants.{Memory, WriteFault}
use Rattle.command_files.specs.declared.stop.Stop.{Stop}
use Rattle.command_files.specs.declared.stop.Stop.TheVariants as stop

-- ---- ways to end

pub outcome_whole : (o : Outcome) → is_write_fault (outcome_status o) ≡ false
outcome_whole (outcome.Plan steps cost from) = refl
outcome_whole outcome.NoPlan = refl
outcome_whole (outcome.Limit kind) = refl

stop_kind : (why : Stop) → is_write_fault (status_at why) ≡ is_write why
stop_kind stop.Usage = refl
stop_kind (stop.Input which kind place) = refl
stop_kind (stop.Map why) = refl
stop_kind (stop.Grid kind line) = refl
stop_kind (stop.Failed which) = refl
stop_kind (stop.TooLong which) = refl
stop_kind (stop.Run (fault.Answer number why)) = refl
stop_kind (stop.Run fault.Generator) = refl
stop_kind (stop.Run fault.Write) = refl
stop_kind (stop.Run fault.Memory) = refl

-- before the last line
pub before_last : (words : List (List ℕ)) (outside : Outside) (written : Written) (why : Stop)
    → IsStopped words outside written why → is_write why ≡ false → IsBeforeLast words outside written why
before_last words outside written why s other =
    subst (λ b. MatchBool b (TookPart words outside written) (IsBeforeLast words outside written why)) other s

module _ (words : List (List ℕ)) (outside : Outside) (Same : Type 0) (written : Written) where
  -- the sink took all
  all_taken : (status : Status) → is_write_fault status ≡ false → TookAll words outside Same written status
      → Ends words outside Same written status
  all_taken status whole all =
      subst (λ b. MatchBool b (TookPart words outside written) (TookAll words outside Same written status)) (sym whole) all

  pub taken_all : (status : Status) → is_write_fault status ≡ false → Ends words outside Same written status
      → TookAll words outside Same written status
  taken_all status whole ends = subst
      (λ b. MatchBool b (TookPart words outside written) (TookAll words outside Same written status)) whole ends

  -- all was written, and that is that memory is wanting
  lacks_all : (status : Status) → is_write_fault status ≡ false → (ends : Ends words outside Same written status)
      → status ≡ Memory → LacksMemory words outside Same written status ends
  lacks_all WriteFault whole ends is = absurd (cc (whole))
  lacks_all Memory whole ends is = refl
  lacks_all status whole ends is = is

  -- the sink took a part
  pub ends_written : (why : Stop) → is_write why ≡ true → IsStopped words outside written why
      → Ends words outside Same written WriteFault
  ends_written why other s = subst (λ b. MatchBool b (TookPart words outside written) (IsBeforeLast words outside written why)) other s

  -- the run has an outcome, or the command answers
  pub ends_completed : (status : Status) → IsCompleted words outside Same written status
      → Ends words outside Same written status
  ends_completed status c = of c.has c.unneeded
    where
      of : (has : HasOutcome words outside status c.text ⊎ HasAnswer words outside status c.text)
          → IsUnneeded Same has → Ends words outside Same written status
      of (inl h) none = all_taken status (ap is_write_fault (sym h.kind) ∙ outcome_whole h.outcome)
          (record { text = c.text; writes = inl h; unneeded = none; took = c.took })
      of (inr h) none = all_taken status (said_whole status (answer_said words outside status c.text h))
          (record { text = c.text; writes = inr (inl h); unneeded = tt; took = c.took })

-- ---- reports

module _ (words : List (List ℕ)) (outside : Outside) where
  abbrev pub unwritten : Option (List ℕ) → Written
  unwritten sink = record { before = sink; after = sink }

  -- a file was not read, or its bytes were refused
  pub stopped_reading : (sink : Option (List ℕ)) (why : Stop) → HasNoInput words outside.files why
      → LogStops outside.was outside.now
      → IsStopped words outside (unwritten sink) why
  stopped_reading sink stop.Usage n none = absurd (is_of_input words outside.files stop.Usage n)
  stopped_reading sink (stop.Input which kind place) n none =
      record { text = []; cause = (n, (refl, none)); took = appends_none sink }
  stopped_reading sink (stop.Map why) n none =
      record { text = []; cause = (n, (refl, none)); took = appends_none sink }
  stopped_reading sink (stop.Grid kind line) n none =
      record { text = []; cause = (n, (refl, none)); took = appends_none sink }
  stopped_reading sink (stop.Failed which) n none =
      record { text = []; cause = (n, (refl, none)); took = appends_none sink }
  stopped_reading sink (stop.TooLong which) n none =
      record { text = []; cause = (n, (refl, none)); took = appends_none sink }
  stopped_reading sink (stop.Run (fault.Answer number why)) n none =
      absurd (is_of_input words outside.files (stop.Run (fault.Answer number why)) n)
  stopped_reading sink (stop.Run fault.Generator) n none =
      absurd (is_of_input words outside.files (stop.Run fault.Generator) n)
  stopped_reading sink (stop.Run fault.Write) n none =
      absurd (is_of_input words outside.files (stop.Run fault.Write) n)
  stopped_reading sink (stop.Run fault.Memory) n none =
      record { text = []; cause = inl (refl, none); took = appends_none sink }

  -- memory is wanting before anything was written
  pub stopped_early : (written : Written) → Appends written.before written.after []
      → LogStops outside.was outside.now
      → IsStopped words outside written (stop.Run fault.Memory)
  stopped_early written nothing none =
      record { text = []; cause = inl (refl, none); took = nothing }

  -- a task is to be solved, or made and solved
  module _ (work : Work) (meant : command_of words ≡ Some (command_for work)) (task : Task) (head : Head)
      (posed : IsPosed (files_of outside.files.told work) (words_of_work work) task head) where
    abbrev run_with : (entries : List Entry) → IsLegal head.version task entries
        → ProgramRun words outside.files.told
    run_with entries legal = record {
      work = work;
      meant = meant;
      task = task;
      spelled = posed.spelled;
      fit = posed.fit;
      head = head;
      headed = posed.headed;
      entries = entries;
      legal = legal;
    }

    abbrev pub outcome_with : (text : List ℕ) (entries : List Entry) (o : Outcome)
        → reports.IsRun task head entries o
        → Dialogue task head.version (workers_in head) entries outside.spoken → IsTabled task head entries outside.spoken o
        → LogRan task head entries outside.was outside.now
        → text ≡ shown_text work task head entries o → HasOutcome words outside (outcome_status o) text
    outcome_with text entries o turns talks tabled calls is = record {
      run = run_with entries turns.legal;
      outcome = o;
      kind = refl;
      turns = turns;
      talks = talks;
      tabled = tabled;
      calls = calls;
      is = is;
    }

    -- a run that shows this has an outcome
    pub completed_with : (Same : Type 0) (written : Written) (ran : Ran) {old new : Option (List ℕ)}
        (r : IsReported task head outside.spoken outside.was outside.now old new ran)
        → (ran.asks ≡ 0 → IsUntouched outside × Same)
        → Appends written.before written.after (shown_text work task head r.entries ran.outcome)
        → IsCompleted words outside Same written (outcome_status ran.outcome)
    completed_with Same written ran r none took = record {
      text = shown_text work task head r.entries ran.outcome;
      has = inl (outcome_with (shown_text work task head r.entries ran.outcome) r.entries ran.outcome r.run r.talks r.tabled
          r.calls refl);
      unneeded = λ asked. none (r.asks ∙ asked);
      took = took;
    }

    abbrev part_with : (text shows : List ℕ) (f : RunFault) (p : IsPart task head f outside.spoken outside.was outside.now text)
        → shows ≡ shown_so_far work task head p.entries
        → IsPartOfRun words outside f shows
    part_with text shows f p is = record {
      run = run_with p.entries p.front.turns.legal;
      front = p.front;
      blamed = p.blamed;
      talks = p.talks;
      calls = p.calls;
      needed = p.needed;
      is = is;
    }

    abbrev ToWrite : RunFault → List ℕ → Type 0
    ToWrite f text = WasToWrite task head f outside.spoken outside.was outside.now text

    -- what was shown of a run that was to write this
    abbrev Shows : RunFault → List ℕ → List ℕ → Type 0
    Shows f text shows =
        (p : IsPart task head f outside.spoken outside.was outside.now text) → shows ≡ shown_so_far work task head p.entries

    -- nothing, where memory is wanting at once
    abbrev ShowsNothing : List ℕ → List ℕ → Type 0
    ShowsNothing text shows = text ≡ [] → shows ≡ []

    pub stopped_with : (written : Written) (f : RunFault) (text shows : List ℕ) → ToWrite f text → Shows f text shows
        → ShowsNothing text shows → ¬ (f ≡ fault.Write) → Appends written.before written.after shows
        → IsStopped words outside written (stop.Run f)
    stopped_with written fault.Generator text shows w is none other took =
        record { text = shows; cause = of w; took = took }
      where
        of : ToWrite fault.Generator text → IsBefore words outside (stop.Run fault.Generator) shows
        of (inl x) = absurd (let e = x.0 in cc)
        of (inr (inl p)) = part_with text shows fault.Generator p (is p)
        of (inr (inr x)) = absurd (let e = x.0 in cc)
    stopped_with written fault.Memory text shows w is none other took =
        record { text = shows; cause = of w; took = took }
      where
        of : ToWrite fault.Memory text → IsBefore words outside (stop.Run fault.Memory) shows
        of (inl x) = inl (none x.1, x.2)
        of (inr (inl p)) = inr (inl (fault.Memory, part_with text shows fault.Memory p (is p)))
        of (inr (inr x)) = absurd (let e = x.0 in cc)
    stopped_with written (fault.Answer number why) text shows w is none other took =
        record { text = shows; cause = of w; took = took }
      where
        of : ToWrite (fault.Answer number why) text
            → IsBefore words outside (stop.Run (fault.Answer number why)) shows
        of (inl x) = absurd (let e = x.0 in cc)
        of (inr (inl p)) = part_with text shows (fault.Answer number why) p (is p)
        of (inr (inr x)) = absurd (let e = x.0 in cc)
    stopped_with written fault.Write text shows w is none other took = absurd (other refl)

  -- a task is to be solved
  module _ (asked : SolveWords) (meant : command_of words ≡ Some (solve asked)) where
    -- the report was written
    completed : (Same : Type 0) (written : Written) (ran : Ran) (status : Status) → IsSolved asked outside Same written ran
        → status ≡ outcome_status ran.outcome → IsCompleted words outside Same written status
    completed Same written ran status s is =
        let r = s.reported in
        subst (IsCompleted words outside Same written) (sym is)
        (completed_with (solving asked) meant s.task s.head s.posed Same written ran r s.unneeded
        (subst (Appends written.before written.after) (whole_is s.task s.head r.entries ran.outcome) r.told))

    -- the run over the task has no outcome
    stopped_running : (written : Written) (f : RunFault) (task : Task) (head : Head)
        → IsPosed outside.files.told asked task head
        → IsBroken task head outside.spoken outside.was outside.now written.before written.after f
        → IsStopped words outside written (stop.Run f)
    stopped_running written fault.Generator task head posed b =
        stopped_with (solving asked) meant task head posed written fault.Generator b.text b.text b.form (λ p. p.is) (λ e. e)
        (λ e. absurd (cc)) b.told
    stopped_running written fault.Memory task head posed b =
        stopped_with (solving asked) meant task head posed written fault.Memory b.text b.text b.form (λ p. p.is) (λ e. e)
        (λ e. absurd (cc)) b.told
    stopped_running written (fault.Answer number why) task head posed b =
        stopped_with (solving asked) meant task head posed written (fault.Answer number why) b.text b.text b.form (λ p. p.is) (λ e. e)
        (λ e. absurd (cc)) b.told
    stopped_running written fault.Write task head posed b = of b.form b.told
      where
        of : (form : WasToWrite task head fault.Write outside.spoken outside.was outside.now b.text)
            → TookTo (begins_last form) fault.Write written.before written.after b.text → TookPart words outside written
        of (inl x) told = absurd (let e = x.0 in cc)
        of (inr (inl p)) (n, begun, less, app) = record {
          text = b.text;
          was = inr (part_with (solving asked) meant task head posed b.text b.text fault.Write p p.is);
          count = n;
          whole = begun;
          less = less;
          took = app;
        }
        of (inr (inr (failed, w))) (n, begun, less, app) = record {
          text = b.text;
          was = inl (
            outcome_status w.outcome,
            inl (outcome_with
                (solving asked) meant task head posed b.text w.entries w.outcome w.run w.talks w.tabled w.calls
                (w.is ∙ whole_is task head w.entries w.outcome)),
          );
          count = n;
          whole = begun;
          less = less;
          took = app;
        }

    -- the task has no report
    stopped_solving : (written : Written) (why : Stop) → HasNoReport asked outside written why
        → IsStopped words outside written why
    stopped_solving written why (inl u) =
        subst (λ after. IsStopped words outside (record { before = written.before; after = after }) why) (sym u.nothing)
        (stopped_reading written.before why (record { command = solve asked; meant = meant; cause = u.cause }) u.none)
    stopped_solving written why (inr u) =
        subst (IsStopped words outside written) (sym u.is) (stopped_running written u.fault u.task u.head u.posed u.broken)

    -- how the run ends
    pub solved_completed : (Same : Type 0) (written : Written) (r : Result Status Stop)
        → SolvesRun asked outside Same written r → IfOk r (IsCompleted words outside Same written)
    solved_completed Same written (Ok status) e = completed Same written e.ran status e.solved e.kind
    solved_completed Same written (Err why) e = tt

    pub solved_stopped : (Same : Type 0) (written : Written) (r : Result Status Stop)
        → SolvesRun asked outside Same written r → IfErr r (IsStopped words outside written)
    solved_stopped Same written (Ok status) e = tt
    solved_stopped Same written (Err why) none = stopped_solving written why none

  -- ---- last lines

  -- memory may be wanting in place of another cause
  for_memory : (why : Stop) (text : List ℕ) → IsBefore words outside why text
      → IsBefore words outside (stop.Run fault.Memory) text
  for_memory stop.Usage text b = inl b.1
  for_memory (stop.Input which kind place) text b = inl b.1
  for_memory (stop.Map why) text b = inl b.1
  for_memory (stop.Grid kind line) text b = inl b.1
  for_memory (stop.Failed which) text b = inl b.1
  for_memory (stop.TooLong which) text b = inl b.1
  for_memory (stop.Run (fault.Answer number why)) text b = inr (inl (fault.Answer number why, b))
  for_memory (stop.Run fault.Generator) text b = inr (inl (fault.Generator, b))
  for_memory (stop.Run fault.Write) text b = absurd b
  for_memory (stop.Run fault.Memory) text b = b

  module _ (Same : Type 0) (old mid new : Option (List ℕ)) where
    abbrev ended : Written
    ended = record { before = old; after = new }

    module _ (why : Stop) (b : IsBeforeLast words outside (record { before = old; after = mid }) why) where
      abbrev faulty : RunHasFault words outside (status_at why) (b.text ++ last_text why)
      faulty = record { stop = why; kind = refl; before = b.text; cause = b.cause; is = refl }

      -- it ends so, for want of memory where that is the cause
      abbrev Told : Status → Type 0
      Told status = (ends : Ends words outside Same ended status)
          × (why ≡ stop.Run fault.Memory → LacksMemory words outside Same ended status ends)

      ends_told : (status : Status) → is_write why ≡ false
          → TellsStatus (status_at why) (last_text why) (record { before = mid; after = new }) status → Told status
      ends_told status other (inl x) =
          let all : Ends words outside Same ended (status_at why) =
          all_taken words outside Same ended (status_at why) (stop_kind why ∙ other) (record {
            text = b.text ++ last_text why;
            writes = inr (inr faulty);
            unneeded = tt;
            took = appends_then old mid new b.text (last_text why) b.took x.1;
          }) in
          subst Told (sym x.0)
          (all, λ is. lacks_all words outside Same ended (status_at why) (stop_kind why ∙ other) all (ap status_at is))
      ends_told status other (inr (is, n, less, app)) = subst Told (sym is) (
        record {
          text = b.text ++ last_text why;
          was = inl (status_at why, inr (inr faulty));
          count = length b.text + n;
          whole = omega arith;
          less = omega (arith, less, length-append b.text (last_text why));
          took = subst (Appends old new) (sym (take-append-add b.text (last_text why) n))
              (appends_then old mid new b.text (take n (last_text why)) b.took app);
        },
        λ same. ap status_at same,
      )

    pub ends_closed : (why : Stop) (status : Status)
        → IsStopped words outside (record { before = old; after = mid }) why → is_write why ≡ false
        → ClosesRun why (record { before = mid; after = new }) status
        → (ends : Ends words outside Same ended status) × (why ≡ stop.Run fault.Memory → LacksMemory words outside Same ended status ends)
    ends_closed why status s other closed =
        of (before_last words outside (record { before = old; after = mid }) why s other) closed
      where
        of : IsBeforeLast words outside (record { before = old; after = mid }) why
            → ClosesRun why (record { before = mid; after = new }) status
            → (ends : Ends words outside Same ended status) × (why ≡ stop.Run fault.Memory → LacksMemory words outside Same ended status ends)
        of b (inl x) = ends_told why b status other x
        of b (inr x) =
            let told = ends_told (stop.Run fault.Memory)
            (record { text = b.text; cause = for_memory why b.text b.cause; took = b.took }) status refl x in
            (told.0, λ is. told.1 refl)
