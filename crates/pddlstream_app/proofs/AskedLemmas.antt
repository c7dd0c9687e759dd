-- Which files were asked for.
use Rattle.std.proofs.Common.{◌≡◌, ℕ, List, [], ◌∷◌, refl, sym, subst, ◌⊎◌, inl, inr, false, Option, Some, Result, Ok, Err, IfOk, IfErr}
use Rattle.std.specs.Io.KnownBytes.{Appends}
use Rattle.report_text.proofs.PrintsLemmas.{appends_then}
use Rattle.round_run.specs.declared.fault.RunFault.{RunFault}
use Rattle.round_run.specs.declared.fault.RunFault.TheVariants as fault
use Rattle.transcript_model.specs.declared.outcome.Outcome.{Outcome}
use Rattle.transcript_model.specs.declared.outcome.Outcome.TheVariants as outcome
use Rattle.pddlstream_app.proofs.RunsLemmas.{before_last}
use Rattle.pddlstream_app.proofs.SaidLemmas.{answer_said, said_asks}
use Rattle.pddlstream_app.specs.AnswerOf.{HasAnswer}
use Rattle.pddlstream_app.specs.Asked.{AsksAll, AsksBefore, AsksFiles, AsksSome, AsksToNamed, AsksUpTo}
use Rattle.command_files.specs.Inputs.{AsksAllOf, EndsReading, SolvesNothing, file_at, files_named}
use Rattle.command_line.specs.Words.{Command, SolveWords, command_of, generate, solve}
use Rattle.pddlstream_app.proofs.NoInputLemmas.{is_of_input, made_nothing}
use Rattle.command_files.specs.Files.{file_of}
use Rattle.pddlstream_app.specs.NoInput.{HasNoInput, ReadsNothing}
use Rattle.run_command.specs.Works.{made_line, made_words}
use Rattle.command_files.specs.declared.stop.FileRole.TheVariants as role
use Rattle.command_files.specs.declared.stop.Text.TheVariants.{Domain, Problem, Streams}
use Rattle.command_files.specs.Outside.{FilesSeen, Outside, Written}
use Rattle.pddlstream_app.specs.Runs.{ClosesRun, IsBeforeLast, IsCompleted, IsStopped}
use Rattle.run_command.specs.Runs.{HasOutcome, outcome_status}
use Rattle.run_command.specs.Making.{IsLined, IsMadeUnsolved, MakesRun}
use Rattle.run_command.specs.Solving.{HasNoReport, SolvesRun}
use Rattle.io_world.specs.Faults.{Extends}
use Rattle.command_files.specs.Stop.{is_write, status_at, last_text}
use Rattle.command_files.specs.declared.status.Status.{Status}
use Rattle.command_files.specs.declared.stop.Stop.{Stop}
use Rattle.command_files.specs.declared.stop.Stop.TheVariants as stop
use Rattle.round_run.specs.Calls.{LogStops}
use Rattle.run_command.proofs.MakingLemmas.{over_made}

module _ (words : List (List ℕ)) (files : FilesSeen) where
  reading_up_to : (command : Command) → command_of words ≡ Some command → (why : Stop)
      → EndsReading command files why → AsksUpTo words files
  reading_up_to command meant why n = let s = n.stopped in
      record {
        command = command;
        meant = meant;
        all = n.all;
        are = n.are;
        before = s.before;
        wanted = s.wanted;
        later = s.later;
        order = s.order;
        answer = s.answer;
        asked = s.asked;
      }

  solving_up_to : (w : SolveWords) → command_of words ≡ Some (solve w) → (why : Stop)
      → SolvesNothing w files why → AsksUpTo words files
  solving_up_to w meant why (inl n) = reading_up_to (solve w) meant why n
  solving_up_to w meant why (inr n) = record {
    command = solve w;
    meant = meant;
    all = files_named (solve w);
    are = inl refl;
    before = file_of (role.Text Domain) w.files.domain ∷ file_of (role.Text Problem) w.files.problem ∷ [];
    wanted = file_of (role.Text Streams) w.files.streams;
    later = file_at role.Map w.path;
    order = refl;
    answer = Ok tt;
    asked = n.asked_for;
  }

  -- the files up to that at which a run ends, if its command has some
  command_some : (command : Command) → command_of words ≡ Some command → (why : Stop)
      → ReadsNothing command files why → AsksSome words files
  command_some (solve w) meant why n = inr (inr (solving_up_to w meant why n))
  command_some (generate number) meant why n = inl n.asked_for
  command_some command meant why n = inr (inr (reading_up_to command meant why n))

  up_to : (why : Stop) → HasNoInput words files why → AsksSome words files
  up_to why n = command_some n.command n.meant why n.cause

  -- the run over the task stopped
  asked_running : (f : RunFault) → AsksAll words files → AsksBefore words files (stop.Run f)
  asked_running (fault.Answer number why) all = all
  asked_running fault.Generator all = all
  asked_running fault.Write all = all
  asked_running fault.Memory all = inr (inl all)

  -- a file was not read, or its bytes were refused
  pub asked_reading : (why : Stop) → HasNoInput words files why → AsksBefore words files why
  asked_reading stop.Usage n = absurd (is_of_input words files stop.Usage n)
  asked_reading (stop.Input which kind place) n = n
  asked_reading (stop.Map why) n = n
  asked_reading (stop.Grid kind line) n = n
  asked_reading (stop.Failed which) n = n
  asked_reading (stop.TooLong which) n = n
  asked_reading (stop.Run (fault.Answer number why)) n =
      absurd (is_of_input words files (stop.Run (fault.Answer number why)) n)
  asked_reading (stop.Run fault.Generator) n =
      absurd (is_of_input words files (stop.Run fault.Generator) n)
  asked_reading (stop.Run fault.Write) n =
      absurd (is_of_input words files (stop.Run fault.Write) n)
  asked_reading (stop.Run fault.Memory) n = up_to (stop.Run fault.Memory) n

  -- the line of a run was written, or not
  asked_lined : (kind : Status) (line : List ℕ) (written : Written) (r : Result Status Stop)
      → IsLined kind line written r → AsksAll words files → IfErr r (AsksBefore words files)
  asked_lined kind line written (Ok status) said all = tt
  asked_lined kind line written (Err why) (inl x) all = subst (AsksBefore words files) (sym x.0) (inr (inl all))
  asked_lined kind line written (Err why) (inr x) all = subst (AsksBefore words files) (sym x.0) all

  pub some_before : (why : Stop) → AsksBefore words files why → AsksSome words files
  some_before stop.Usage a = inl a.1
  some_before (stop.Input which kind place) a = up_to (stop.Input which kind place) a
  some_before (stop.Map why) a = up_to (stop.Map why) a
  some_before (stop.Grid kind line) a = up_to (stop.Grid kind line) a
  some_before (stop.Failed which) a = up_to (stop.Failed which) a
  some_before (stop.TooLong which) a = up_to (stop.TooLong which) a
  some_before (stop.Run (fault.Answer number why)) a = inr (inl a)
  some_before (stop.Run fault.Generator) a = inr (inl a)
  some_before (stop.Run fault.Write) a = inr (inl a)
  some_before (stop.Run fault.Memory) a = a

module _ (words : List (List ℕ)) (outside : Outside) (asked : SolveWords) (meant : command_of words ≡ Some (solve asked)) where
  -- the files of a task that is to be solved were read
  asks_solving : AsksAllOf (solve asked) outside.files → AsksAll words outside.files
  asks_solving all = record { command = solve asked; meant = meant; asks = all }

  -- it has no report
  asked_unsolved : (written : Written) (why : Stop) → HasNoReport asked outside written why
      → AsksBefore words outside.files why
  asked_unsolved written why (inl u) =
      asked_reading words outside.files why (record { command = solve asked; meant = meant; cause = u.cause })
  asked_unsolved written why (inr u) =
      subst (AsksBefore words outside.files) (sym u.is) (asked_running words outside.files u.fault (asks_solving u.asks))

  pub solved_asked : (Same : Type 0) (written : Written) (r : Result Status Stop)
      → SolvesRun asked outside Same written r → IfOk r (λ status. AsksAll words outside.files)
  solved_asked Same written (Ok status) e = asks_solving e.solved.asks
  solved_asked Same written (Err why) e = tt

  pub solved_asked_before : (Same : Type 0) (written : Written) (r : Result Status Stop)
      → SolvesRun asked outside Same written r
      → IfErr r (AsksBefore words outside.files)
  solved_asked_before Same written (Ok status) e = tt
  solved_asked_before Same written (Err why) none = asked_unsolved written why none

module _ (words : List (List ℕ)) (outside : Outside) (number : ℕ) (meant : command_of words ≡ Some (generate number))
    (nothing : Extends outside.files.before outside.files.after []) where
  -- the task of a number is to be made: it has no files
  asks_making : AsksAll words outside.files
  asks_making = record { command = generate number; meant = meant; asks = record { all = []; are = refl; asked = nothing } }

  -- it has no report
  asked_unmade : (written : Written) (why : Stop) → HasNoReport made_words (over_made number outside) written why
      → AsksBefore words outside.files why
  asked_unmade written why (inl u) =
      asked_reading words outside.files why (made_nothing words outside.files number meant nothing why u.cause)
  asked_unmade written why (inr u) =
      subst (AsksBefore words outside.files) (sym u.is) (asked_running words outside.files u.fault asks_making)

  pub made_asked : (r : Result Status Stop) → IfOk r (λ status. AsksAll words outside.files)
  made_asked (Ok status) = asks_making
  made_asked (Err why) = tt

  pub made_asked_before : (Same : Type 0) (written : Written) (r : Result Status Stop)
      → MakesRun number (over_made number outside) Same written r
      → IfErr r (AsksBefore words outside.files)
  made_asked_before Same written (Ok status) e = tt
  made_asked_before Same written (Err why) (inl e) =
      asked_lined words outside.files (outcome_status e.ran.outcome)
      (made_line number e.ran.outcome e.ran.levels e.ran.asks) written (Err why) e.lined asks_making
  made_asked_before Same written (Err why) (inr none) = of none.cause
    where
      of : ((why ≡ stop.Run fault.Memory) × LogStops outside.was outside.now) ⊎ IsMadeUnsolved (over_made number outside) why
          → AsksBefore words outside.files why
      of (inl m) = subst (AsksBefore words outside.files) (sym m.0) (inl nothing)
      of (inr made) = asked_unmade made.inner why made.none

-- the run has an outcome, or the command answers
pub asked_completed : {Same : Type 0} (words : List (List ℕ)) (outside : Outside) (some written : Written) (status : Status)
    → IsCompleted words outside Same some status → AsksAll words outside.files
    → AsksFiles words outside.files written status
asked_completed words outside some written status c all = of c.has
  where
    solved : (o : Outcome) → AsksFiles words outside.files written (outcome_status o)
    solved (outcome.Plan steps cost from) = all
    solved outcome.NoPlan = all
    solved (outcome.Limit kind) = all

    of : HasOutcome words outside status c.text ⊎ HasAnswer words outside status c.text
        → AsksFiles words outside.files written status
    of (inl h) = subst (AsksFiles words outside.files written) h.kind (solved h.outcome)
    of (inr h) = said_asks words outside.files written status (answer_said words outside status c.text h) all

module _ (words : List (List ℕ)) (outside : Outside) (before mid now : Option (List ℕ)) where
  -- nothing was written before the last line of a run that ends at a file
  named : (why : Stop) → HasNoInput words outside.files why → (text : List ℕ) → text ≡ []
      → Appends before mid text → Appends mid now (last_text why)
      → AsksToNamed words outside.files (record { before = before; after = now }) (status_at why)
  named why cause text none took app = record {
    why = why;
    kind = refl;
    cause = cause;
    took = appends_then before mid now [] (last_text why) (subst (Appends before mid) none took) app;
  }

  asked_whole : (why : Stop)
      → IsBeforeLast words outside (record { before = before; after = mid }) why
      → Appends mid now (last_text why) → AsksBefore words outside.files why
      → AsksFiles words outside.files (record { before = before; after = now }) (status_at why)
  asked_whole stop.Usage s app a = a
  asked_whole (stop.Input which kind place) s app a =
      named (stop.Input which kind place) a s.text s.cause.1.0 s.took app
  asked_whole (stop.Map why) s app a = named (stop.Map why) a s.text s.cause.1.0 s.took app
  asked_whole (stop.Grid kind line) s app a =
      named (stop.Grid kind line) a s.text s.cause.1.0 s.took app
  asked_whole (stop.Failed which) s app a =
      named (stop.Failed which) a s.text s.cause.1.0 s.took app
  asked_whole (stop.TooLong which) s app a =
      named (stop.TooLong which) a s.text s.cause.1.0 s.took app
  asked_whole (stop.Run (fault.Answer number why)) s app a = a
  asked_whole (stop.Run fault.Generator) s app a = a
  asked_whole (stop.Run fault.Write) s app a = absurd s.cause
  asked_whole (stop.Run fault.Memory) s app a = a

  -- the last line was written, or a part of it, or that memory is wanting
  pub asked_closed : (why : Stop) (status : Status)
      → IsStopped words outside (record { before = before; after = mid }) why → is_write why ≡ false
      → ClosesRun why (record { before = mid; after = now }) status
      → AsksBefore words outside.files why
      → AsksFiles words outside.files (record { before = before; after = now }) status
  asked_closed why status s other closed a = of closed
    where
      to : {ended : Status} → status ≡ ended
          → AsksFiles words outside.files (record { before = before; after = now }) ended
          → AsksFiles words outside.files (record { before = before; after = now }) status
      to is = subst (AsksFiles words outside.files (record { before = before; after = now })) (sym is)

      of : ClosesRun why (record { before = mid; after = now }) status
          → AsksFiles words outside.files (record { before = before; after = now }) status
      of (inl (inl x)) =
          to x.0 (asked_whole why (before_last words outside (record { before = before; after = mid }) why s other) x.1 a)
      of (inl (inr x)) = to x.0 (some_before words outside.files why a)
      of (inr (inl x)) = to x.0 (some_before words outside.files why a)
      of (inr (inr x)) = to x.0 (some_before words outside.files why a)
