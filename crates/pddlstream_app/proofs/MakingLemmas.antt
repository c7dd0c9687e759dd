-- How runs end in which the task of a number is made and solved.
use Rattle.std.proofs.Common.{◌≡◌, ℕ, arith, List, [], Option, Some, refl, sym, subst, ap, ◌∙◌, inl, inr, Result, Ok, Err, IfOk, IfErr, ◌⊎◌}
use Rattle.std.specs.Io.KnownBytes.{Appends}
use Rattle.io_world.specs.Faults.{Extends}
use Rattle.report_text.proofs.PrintsLemmas.{appends_none}
use Rattle.round_run.specs.declared.fault.RunFault.TheVariants as fault
use Rattle.turn_run.specs.declared.whole_run.Ran.{Ran}
use Rattle.command_line.specs.Words.{command_of, generate}
use Rattle.pddlstream_app.proofs.NoInputLemmas.{made_nothing}
use Rattle.pddlstream_app.proofs.RunsLemmas.{completed_with, outcome_with, stopped_reading, stopped_with, unwritten, stopped_early}
use Rattle.run_command.specs.Works.{made_line, made_words, making}
use Rattle.command_files.specs.Outside.{Outside, Written}
use Rattle.run_command.specs.Runs.{HasOutcome, outcome_status, shown_text}
use Rattle.pddlstream_app.specs.Runs.{IsCompleted, IsStopped}
use Rattle.run_command.specs.Making.{IsLined, HasNoLine, IsMadeUnsolved, MakesRun}
use Rattle.run_command.specs.Solving.{HasNoReport, IsSolved}
use Rattle.command_files.specs.declared.status.Status.{Status}
use Rattle.command_files.specs.declared.stop.Stop.{Stop}
use Rattle.command_files.specs.declared.stop.Stop.TheVariants as stop
use Rattle.round_run.specs.Calls.{LogStops}
use Rattle.run_command.proofs.MakingLemmas.{over_made}

module _ (words : List (List ℕ)) (outside : Outside) (number : ℕ) (meant : command_of words ≡ Some (generate number))
    (nothing : Extends outside.files.before outside.files.after []) where
  module _ (Same : Type 0) (inner outer : Written) (ran : Ran)
      (s : IsSolved made_words (over_made number outside) Same inner ran) where
    abbrev line : List ℕ
    line = made_line number ran.outcome ran.levels ran.asks

    line_is : line ≡ shown_text (making number) s.task s.head s.reported.entries ran.outcome
    line_is = λ i. made_line number ran.outcome (s.reported.levels i) (s.reported.asks i)

    abbrev has_line : HasOutcome words outside (outcome_status ran.outcome) line
    has_line =
        let r = s.reported in
        outcome_with words outside (making number) meant s.task s.head s.posed line r.entries ran.outcome r.run r.talks r.tabled
        r.calls line_is

    -- the line was written
    completed_making : (result : Result Status Stop) → IsLined (outcome_status ran.outcome) line outer result
        → IfOk result (IsCompleted words outside Same outer)
    completed_making (Ok status) said =
        subst (IsCompleted words outside Same outer) (sym said.0)
        (completed_with words outside (making number) meant s.task s.head s.posed Same outer ran s.reported s.unneeded
        (subst (Appends outer.before outer.after) line_is said.1))
    completed_making (Err why) said = tt

    -- it was not written, or in part
    stopped_making : (result : Result Status Stop) → IsLined (outcome_status ran.outcome) line outer result
        → IfErr result (IsStopped words outside outer)
    stopped_making (Ok status) said = tt
    stopped_making (Err why) (inl x) = subst (IsStopped words outside outer) (sym x.0) (record {
      text = [];
      cause = inr
          (inr (record { number = number; meant = meant; status = outcome_status ran.outcome; line = line; has = has_line; is = refl }));
      took = x.1;
    })
    stopped_making (Err why) (inr (failed, n, less, app)) = subst (IsStopped words outside outer) (sym failed) (record {
      text = line;
      was = inl (outcome_status ran.outcome, inl has_line);
      count = n;
      whole = omega arith;
      less = less;
      took = app;
    })

  -- the task has no outcome
  stopped_unmade : (sink : Option (List ℕ)) (why : Stop) → IsMadeUnsolved (over_made number outside) why
      → IsStopped words outside (unwritten words outside sink) why
  stopped_unmade sink why made = of made.none
    where
      of : HasNoReport made_words (over_made number outside) made.inner why → IsStopped words outside (unwritten words outside sink) why
      of (inl u) =
          stopped_reading words outside sink why (made_nothing words outside.files number meant nothing why u.cause) u.none
      of (inr u) = subst (IsStopped words outside (unwritten words outside sink)) (sym u.is)
          (stopped_with words outside (making number) meant u.task u.head u.posed (unwritten words outside sink) u.fault
          u.broken.text [] u.broken.form (λ p. refl) (λ e. refl) (λ e. made.other (u.is ∙ ap stop.Run e)) (appends_none sink))

  -- nothing was written
  stopped_unlined : (written : Written) (why : Stop) → HasNoLine (over_made number outside) written why → IsStopped words outside written why
  stopped_unlined written why none =
      subst (λ after. IsStopped words outside (record { before = written.before; after = after }) why) (sym none.nothing)
      (of none.cause)
    where
      of : ((why ≡ stop.Run fault.Memory) × LogStops outside.was outside.now) ⊎ IsMadeUnsolved (over_made number outside) why
          → IsStopped words outside (unwritten words outside written.before) why
      of (inl m) = subst (IsStopped words outside (unwritten words outside written.before)) (sym m.0)
          (stopped_early words outside (unwritten words outside written.before) (appends_none written.before) m.1)
      of (inr made) = stopped_unmade written.before why made

  -- how the run ends
  pub made_completed : (Same : Type 0) (written : Written) (r : Result Status Stop)
      → MakesRun number (over_made number outside) Same written r → IfOk r (IsCompleted words outside Same written)
  made_completed Same written (Ok status) e = completed_making Same e.inner written e.ran e.solved (Ok status) e.lined
  made_completed Same written (Err why) e = tt

  pub made_stopped : (Same : Type 0) (written : Written) (r : Result Status Stop)
      → MakesRun number (over_made number outside) Same written r
      → IfErr r (IsStopped words outside written)
  made_stopped Same written (Ok status) e = tt
  made_stopped Same written (Err why) (inl e) = stopped_making Same e.inner written e.ran e.solved (Err why) e.lined
  made_stopped Same written (Err why) (inr none) = stopped_unlined written why none
