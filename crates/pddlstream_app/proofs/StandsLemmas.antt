-- How runs stand and end, by what was heard of their children.
use Rattle.std.proofs.Common.{◌≡◌, ℕ, zero, suc, ◌<◌, arith, List, [], true, false, refl, sym, subst, ap, ◌∙◌, ◌⊎◌, inl, inr, None, Some, Option, Result, Ok, Err, IsErrOf}
use Rattle.io_world.specs.Faults.{Extends, HasCause}
use Rattle.io_world.specs.Talks.{Event, Talk}
use Rattle.report_text.proofs.PrintsLemmas.{appends_none}
use Rattle.round_run.proofs.StoppedLemmas.{same_err}
use Rattle.round_run.specs.Calls.{LogStops}
use Rattle.round_run.specs.declared.fault.RunFault.TheVariants as fault
use Rattle.command_files.specs.Outside.{FilesSeen, Outside, Written, resting}
use Rattle.command_files.specs.Stop.{is_write, status_at}
use Rattle.command_files.specs.declared.status.Status.{Status}
use Rattle.command_files.specs.declared.status.Status.TheVariants.{GeneratorFault, Memory, WriteFault}
use Rattle.command_files.specs.declared.stop.Stop.{Stop}
use Rattle.command_files.specs.declared.stop.Stop.TheVariants as stop
use Rattle.command_line.specs.Words.{Command, SolveWords, command_of, generate, solve}
use Rattle.run_command.proofs.MakingLemmas.{over_made}
use Rattle.run_command.proofs.RestartsLemmas.{heard_silent, heard_weaker, silent, silent_stops}
use Rattle.run_command.specs.Heard.{Heard, IsHeard, IsHeardAgain, heard_in, hearing, restarts_for, restarts_in}
use Rattle.run_command.specs.Runs.{HasOutcome}
use Rattle.run_command.specs.Making.{MakesRun}
use Rattle.run_command.specs.Solving.{Lacks, SolvesBy}
use Rattle.pddlstream_app.proofs.AgainLemmas.{ends_again, ran_again}
use Rattle.pddlstream_app.proofs.CompleteLemmas.{again_settles, no_answer}
use Rattle.pddlstream_app.proofs.AnswersLemmas.{answer_completed, answer_stopped}
use Rattle.pddlstream_app.proofs.MakingLemmas.{made_completed, made_stopped}
use Rattle.pddlstream_app.proofs.RunsLemmas.{ends_closed, ends_completed, ends_written, solved_completed, solved_stopped, stopped_early}
use Rattle.pddlstream_app.specs.Answering.{IsAnswerTold, command_answering}
use Rattle.pddlstream_app.specs.AnswerOf.{HasAnswer}
use Rattle.pddlstream_app.specs.Complete.{AreGivenAgain, Completes, CompletesBy, GoesWell, SettlesBy}
use Rattle.transcript_model.specs.Tables.{Answers}
use Rattle.pddlstream_app.specs.Runs.{ClosesRun, Ends, EndsBy, IsUnhindered, LacksMemory, StandsBy}
use Rattle.pddlstream_app.specs.declared.answer.AnswerConfig.{AnswerConfig}
use Rattle.pddlstream_app.specs.declared.answer.AnswerConfig.TheVariants as config

-- ---- before the last line

-- how many failures are made good, by the command
restarts_by : (words : List (List ℕ)) (command : Command) (Lacked : Type 0) (below heard : Heard)
    → command_of words ≡ Some command → IsHeard (restarts_for (Some command)) Lacked below heard
    → IsHeard (restarts_in words) Lacked below heard
restarts_by words command Lacked below heard meant by = subst (λ n. IsHeard n Lacked below heard) (sym (ap restarts_for meant)) by

-- none, where a command is answered
answering_none : (w : AnswerConfig) → restarts_for (Some (command_answering w)) ≡ 0
answering_none (config.Replay w) = refl
answering_none (config.Migrate path) = refl
answering_none (config.Deorder w) = refl
answering_none (config.Play w) = refl

module _ (words : List (List ℕ)) (outside : Outside) (Same : Type 0) (written : Written) where
  -- a task is to be solved
  pub stands_solved : (asked : SolveWords) → command_of words ≡ Some (solve asked) → (r : Result Status Stop)
      → SolvesBy asked outside Same written r → StandsBy words outside Same written r
  stands_solved asked meant r e = record {
    heard = e.heard;
    by = restarts_by words (solve asked) (Lacks r) (heard_in outside) e.heard meant e.by;
    completed = solved_completed words (hearing outside.files e.heard) asked meant Same written r e.ends;
    stopped = solved_stopped words (hearing outside.files e.heard) asked meant Same written r e.ends;
  }

  -- the task of a number is to be made and solved
  pub stands_made : (number : ℕ) → command_of words ≡ Some (generate number)
      → Extends outside.files.before outside.files.after [] → (r : Result Status Stop)
      → MakesRun number (over_made number outside) Same written r → StandsBy words outside Same written r
  stands_made number meant nothing r e = record {
    heard = heard_in outside;
    by = restarts_by words (generate number) (Lacks r) (heard_in outside) (heard_in outside) meant refl;
    completed = made_completed words outside number meant nothing Same written r e;
    stopped = made_stopped words outside number meant nothing Same written r e;
  }

module _ (words : List (List ℕ)) (files : FilesSeen) (spoken : ℕ → Option Talk) (log : Option (List Event))
    (Same : Type 0) where
  -- a command is to be answered
  pub stands_answered : (written : Written) (w : AnswerConfig) → command_of words ≡ Some (command_answering w)
      → (r : Result Status Stop) → IsAnswerTold (command_answering w) files written r
      → StandsBy words (resting files spoken log) Same written r
  stands_answered written w meant r told = record {
    heard = heard_in (resting files spoken log);
    by = restarts_by words (command_answering w) (Lacks r) (heard_in (resting files spoken log))
        (heard_in (resting files spoken log)) meant
        (subst (λ n. IsHeard n (Lacks r) (heard_in (resting files spoken log)) (heard_in (resting files spoken log)))
        (sym (answering_none w)) refl);
    completed = answer_completed words (command_answering w) meant files spoken log written Same r told;
    stopped = answer_stopped words (command_answering w) meant files spoken log written r told;
  }

  -- the words mean no command, or for them memory is wanting
  abbrev early : Heard
  early = silent (restarts_in words) spoken log

  stops_early : LogStops early.was early.now
  stops_early = silent_stops (restarts_in words) spoken log

  pub stands_unused : (sink : Option (List ℕ)) → command_of words ≡ None
      → StandsBy words (resting files spoken log) Same (record { before = sink; after = sink }) (Err stop.Usage)
  stands_unused sink none = record {
    heard = early;
    by = heard_silent (restarts_in words) _ spoken log;
    completed = tt;
    stopped = record { text = []; cause = (none, (refl, stops_early)); took = appends_none sink };
  }

  pub stands_early : (sink : Option (List ℕ))
      → StandsBy words (resting files spoken log) Same (record { before = sink; after = sink }) (Err (stop.Run fault.Memory))
  stands_early sink = record {
    heard = early;
    by = heard_silent (restarts_in words) _ spoken log;
    completed = tt;
    stopped = stopped_early words (hearing files early) (record { before = sink; after = sink }) (appends_none sink) stops_early;
  }

-- ---- the end

module _ (words : List (List ℕ)) (outside : Outside) (Same : Type 0) where
  -- the log of the host itself is as what was heard says
  ended : (heard : Heard) (written : Written) (status : Status) (ends : Ends words (hearing outside.files heard) Same written status)
      → IsHeard (restarts_in words) (LacksMemory words (hearing outside.files heard) Same written status ends) (heard_in outside)
      heard → EndsBy words outside Same written status
  ended heard written status ends by = record {
    heard = heard;
    ends = ends;
    by = by;
    again = ends_again words (hearing outside.files heard) (heard_in outside) heard refl refl refl Same written (restarts_in words)
        status ends by;
  }

  -- an outcome, or an answer
  pub ends_ok : (written : Written) (status : Status) → StandsBy words outside Same written (Ok status)
      → EndsBy words outside Same written status
  ends_ok written status s =
      ended s.heard written status (ends_completed words (hearing outside.files s.heard) Same written status s.completed)
      (heard_weaker (restarts_in words) _ _ _ _ (λ is. absurd (cc (is))) s.by)

  -- the sink failed
  pub ends_cut : (written : Written) (why : Stop) → is_write why ≡ true → StandsBy words outside Same written (Err why)
      → EndsBy words outside Same written WriteFault
  ends_cut written why other s =
      ended s.heard written WriteFault (ends_written words (hearing outside.files s.heard) Same written why other s.stopped)
      (heard_weaker (restarts_in words) _ _ _ _
      (λ is. absurd (let both : true ≡ false = sym other ∙ ap is_write (same_err is) in cc)) s.by)

  -- the last line was written, or a part of it, or that memory is wanting
  pub ends_last : (old mid new : Option (List ℕ)) (why : Stop) (status : Status) → is_write why ≡ false
      → StandsBy words outside Same (record { before = old; after = mid }) (Err why)
      → ClosesRun why (record { before = mid; after = new }) status
      → EndsBy words outside Same (record { before = old; after = new }) status
  ends_last old mid new why status other s closed =
      let to = ends_closed words (hearing outside.files s.heard) Same old mid new why status s.stopped other closed in
      ended s.heard (record { before = old; after = new }) status to.0
      (heard_weaker (restarts_in words) _ _ _ _ (λ is. to.1 (same_err is)) s.by)

-- ---- where all goes well

-- how a run ends that lacked memory before its last line
lacked_last : (why : Stop) (written : Written) (status : Status) → why ≡ stop.Run fault.Memory → ClosesRun why written status
    → (status ≡ Memory) ⊎ (status ≡ WriteFault)
lacked_last why written status is (inl (inl x)) = inl (x.0 ∙ ap status_at is)
lacked_last why written status is (inl (inr x)) = inr x.0
lacked_last why written status is (inr (inl x)) = inl x.0
lacked_last why written status is (inr (inr x)) = inr x.0

pub lacked_closed : (why : Stop) (written : Written) (status : Status) → ClosesRun why written status
    → (let r : Result Status Stop = Err why in Lacks r) → (status ≡ Memory) ⊎ (status ≡ WriteFault)
lacked_closed why written status closed is = lacked_last why written status (same_err is) closed

-- some failures are made good
some_again : (restarts : ℕ) (Lacked : Type 0) (below heard : Heard) → 0 < restarts → IsHeard restarts Lacked below heard
    → IsHeardAgain Lacked below heard
some_again zero Lacked below heard some h = absurd (omega (arith, some))
some_again (suc more) Lacked below heard some h = h

-- what a run comes to whose children answer by a table in each of their lives
abbrev CompletesAgain : List (List ℕ) → Outside → Heard → (host_rose sink_rose : Type 0) → Status → Type 0
CompletesAgain words outside heard host_rose sink_rose status =
    (answers : Answers) → GoesWell words (hearing outside.files heard) host_rose sink_rose → 0 < restarts_in words
    → AreGivenAgain words outside answers → SettlesBy words outside.files.told answers status

module _ {words : List (List ℕ)} {outside : Outside} {Same host_rose sink_rose : Type 0} where
  pub completes_by : {written : Written} {r : Result Status Stop} (s : StandsBy words outside Same written r)
      (status : Status) → (Lacks r → (status ≡ Memory) ⊎ (status ≡ WriteFault))
      → Completes words (hearing outside.files s.heard) host_rose sink_rose status
      → CompletesAgain words outside s.heard host_rose sink_rose status
      → CompletesBy words outside host_rose sink_rose status
  completes_by s status lacks c again = record {
    heard = s.heard;
    by = heard_weaker (restarts_in words) _ _ _ _ lacks s.by;
    completes = c;
    again = again;
  }

  -- where the run has an outcome
  pub completes_lives : {written : Written} (status : Status) (s : StandsBy words outside Same written (Ok status))
      → CompletesAgain words outside s.heard host_rose sink_rose status
  completes_lives status s answers well some given = of s.completed.has
    where
      of : HasOutcome words (hearing outside.files s.heard) status s.completed.text
          ⊎ HasAnswer words (hearing outside.files s.heard) status s.completed.text
          → SettlesBy words outside.files.told answers status
      of (inl h) =
          again_settles answers h outside.was outside.now
          (ran_again (heard_in outside) s.heard refl refl refl h (let r : Result Status Stop = Ok status in Lacks r)
          (λ is. absurd (cc (is))) (some_again (restarts_in words) _ (heard_in outside) s.heard some s.by))
          (given.said h.run) (given.few h.run)
      of (inr h) = absurd (no_answer well.asked well.meant h)

-- a fault of the generator is told only where it is the cause
pub closed_generator : (why : Stop) (written : Written) (status : Status) → ClosesRun why written status
    → status ≡ GeneratorFault → why ≡ stop.Run fault.Generator
closed_generator why written status (inl (inl x)) is = of why (sym x.0 ∙ is)
  where
    of : (why : Stop) → status_at why ≡ GeneratorFault → why ≡ stop.Run fault.Generator
    of stop.Usage e = absurd (cc)
    of (stop.Input which kind place) e = absurd (cc)
    of (stop.Map f) e = absurd (cc)
    of (stop.Grid kind line) e = absurd (cc)
    of (stop.Failed which) e = absurd (cc)
    of (stop.TooLong which) e = absurd (cc)
    of (stop.Run (fault.Answer number f)) e = absurd (cc)
    of (stop.Run fault.Generator) e = refl
    of (stop.Run fault.Write) e = absurd (cc)
    of (stop.Run fault.Memory) e = absurd (cc)
closed_generator why written status (inl (inr x)) is = absurd (let both = sym x.0 ∙ is in cc)
closed_generator why written status (inr (inl x)) is = absurd (let both = sym x.0 ∙ is in cc)
closed_generator why written status (inr (inr x)) is = absurd (let both = sym x.0 ∙ is in cc)

-- a run that ended by itself was stopped by no cause that it would have told otherwise
pub closed_unhindered : (why bad : Stop) (written : Written) (status : Status) → ClosesRun why written status
    → IsUnhindered status → ¬ (IsUnhindered (status_at bad)) → ¬ (why ≡ bad)
closed_unhindered why bad written status (inl (inl x)) by hindered is =
    hindered (subst IsUnhindered (x.0 ∙ ap status_at is) by)
closed_unhindered why bad written status (inl (inr x)) by hindered is = absurd (subst IsUnhindered x.0 by)
closed_unhindered why bad written status (inr (inl x)) by hindered is = absurd (subst IsUnhindered x.0 by)
closed_unhindered why bad written status (inr (inr x)) by hindered is = absurd (subst IsUnhindered x.0 by)

-- an answer has no fault of the generator
pub ungenerated : {T : Type 0} (r : Result T Stop) (bad : Stop) → ((last count : ℕ) → HasCause bad last count count r)
    → IsErrOf r bad → ⊥
ungenerated r bad none is = let rose = (none 1 0).cause is in absurd (omega (arith, rose))
