-- When the host is as it was, and why a file was not read.
use Rattle.std.proofs.Common.{◌≡◌, ◌⊎◌, ℕ, arith, List, true, false, refl, sym, subst, ap, ◌∙◌, inl, inr, None, Some, Result, Ok, Err, IfErr}
use Rattle.std.specs.Io.KnownBytes.{Appends}
use Rattle.command_line.specs.Words.{Command, SolveWords, command_of, generate, solve}
use Rattle.pddlstream_app.proofs.SaidLemmas.{answer_said, said_behind}
use Rattle.pddlstream_app.specs.AnswerOf.{HasAnswer, only_reads}
use Rattle.pddlstream_app.specs.Asked.{AsksFiles, HasReadCause}
use Rattle.command_files.specs.Inputs.{EndsReading, SolvesNothing}
use Rattle.pddlstream_app.specs.NoInput.{HasNoInput, ReadsNothing}
use Rattle.run_command.specs.Works.{seen_made}
use Rattle.command_files.specs.Outside.{FilesSeen, HaveFailed, Outside, Written}
use Rattle.pddlstream_app.specs.Runs.{ClosesRun, IsBeforeHost, IsCompleted, LeavesHost, SparesHost}
use Rattle.run_command.specs.Runs.{HasOutcome, outcome_status}
use Rattle.run_command.specs.Solving.{IsAtText}
use Rattle.command_files.specs.Stop.{last_text, status_at}
use Rattle.command_files.specs.declared.status.Status.{Status}
use Rattle.command_files.specs.declared.status.Status.TheVariants.{ReadFault}
use Rattle.command_files.specs.declared.stop.FileRole.{FileRole}
use Rattle.command_files.specs.declared.stop.Stop.{Stop}
use Rattle.command_files.specs.declared.stop.Stop.TheVariants as stop
use Rattle.round_run.specs.declared.fault.RunFault.TheVariants as fault
use Rattle.transcript_model.specs.declared.outcome.Outcome.{Outcome}
use Rattle.transcript_model.specs.declared.outcome.Outcome.TheVariants as outcome

-- ---- the host

-- no call was made on it
pub spares_same : {H : Type 0} (words : List (List ℕ)) (result : Result Status Stop) (host : H)
    → SparesHost words result host host
spares_same {H} words result host = record { answer = λ c e reads. refl; usage = λ e. refl; input = of result }
  where
    of : (r : Result Status Stop) → IfErr r (λ why. IsAtText why → host ≡ host)
    of (Ok status) = tt
    of (Err why) = λ t. refl

-- the words mean a command that doesn't answer
module _ (words : List (List ℕ)) (command : Command) (meant : command_of words ≡ Some command)
    (runs : only_reads command ≡ false) where
  no_answer : (c : Command) → command_of words ≡ Some c → only_reads c ≡ true → ⊥
  no_answer c e reads =
      let both : Some command ≡ Some c = sym meant ∙ e in
      let same : command ≡ c = cc in
      let other : false ≡ true = sym runs ∙ ap only_reads same ∙ reads in
      absurd (cc)

  pub leaves_running : (P : Type 0) (c : Command) → command_of words ≡ Some c → only_reads c ≡ true → P
  leaves_running P c e reads = absurd (no_answer c e reads)

  pub spares_running : {H : Type 0} (result : Result Status Stop) (old new : H) → IfErr result (λ why. IsAtText why → new ≡ old)
      → SparesHost words result old new
  spares_running result old new input = record {
    answer = λ c e reads. absurd (no_answer c e reads);
    usage = λ e. let both : Some command ≡ None = sym meant ∙ e in absurd (cc);
    input = input;
  }

-- a run that ends with such a status stopped at the words, a file or a text
at_text : (why : Stop) → IsBeforeHost (status_at why) → IsAtText why
at_text stop.Usage b = tt
at_text (stop.Input which kind place) b = tt
at_text (stop.Map why) b = tt
at_text (stop.Grid kind line) b = tt
at_text (stop.Failed which) b = tt
at_text (stop.TooLong which) b = tt
at_text (stop.Run (fault.Answer number why)) b = absurd b
at_text (stop.Run fault.Generator) b = absurd b
at_text (stop.Run fault.Write) b = absurd b
at_text (stop.Run fault.Memory) b = absurd b

module _ {H : Type 0} (words : List (List ℕ)) (old new : H) where
  -- the run has an outcome, or the command answers
  pub leaves_completed : (outside : Outside) (Same : Type 0) (written : Written) (status : Status)
      → SparesHost words (Ok status) old new → IsCompleted words outside Same written status
      → LeavesHost words status old new
  leaves_completed outside Same written status s c = record { answer = s.answer; usage = s.usage; input = λ b. absurd (of c.has b) }
    where
      ran : (o : Outcome) → IsBeforeHost (outcome_status o) → ⊥
      ran (outcome.Plan steps cost from) b = b
      ran outcome.NoPlan b = b
      ran (outcome.Limit kind) b = b

      of : HasOutcome words outside status c.text ⊎ HasAnswer words outside status c.text → IsBeforeHost status → ⊥
      of (inl h) b = ran h.outcome (subst IsBeforeHost (sym h.kind) b)
      of (inr h) b = said_behind status (answer_said words outside status c.text h) b

  -- the last line was written, or a part of it, or that memory is wanting
  pub leaves_closed : (why : Stop) (written : Written) (status : Status)
      → SparesHost words (Err why) old new → ClosesRun why written status → LeavesHost words status old new
  leaves_closed why written status s closed = record { answer = s.answer; usage = s.usage; input = of closed }
    where
      of : ClosesRun why written status → IsBeforeHost status → new ≡ old
      of (inl (inl x)) b = s.input (at_text why (subst IsBeforeHost x.0 b))
      of (inl (inr x)) b = absurd (subst IsBeforeHost x.0 b)
      of (inr (inl x)) b = absurd (subst IsBeforeHost x.0 b)
      of (inr (inr x)) b = absurd (subst IsBeforeHost x.0 b)

-- ---- files

module _ (files : FilesSeen) (which : FileRole) where
  failed_reading : (command : Command) → EndsReading command files (stop.Failed which) → HaveFailed files
  failed_reading command n = n.stopped.cause.1

  failed_solving : (w : SolveWords) → SolvesNothing w files (stop.Failed which) → HaveFailed files
  failed_solving w (inl n) = failed_reading (solve w) n
  failed_solving w (inr n) = let is : stop.Failed which ≡ stop.Map n.fault = n.is in absurd (cc)

failed_command : (files : FilesSeen) (which : FileRole) (command : Command) → ReadsNothing command files (stop.Failed which)
    → HaveFailed files
failed_command files which (solve w) n = failed_solving files which w n
failed_command files which (generate number) n =
    let rose = failed_solving (seen_made number) which _ n.cause in absurd (omega (arith, rose))
failed_command files which command n = failed_reading files which command n

-- what could not be read is told only where the count rose, or of a file that is too long
pub read_cause : (words : List (List ℕ)) (files : FilesSeen) (written : Written) → AsksFiles words files written ReadFault
    → HasReadCause words files written
read_cause words files written a = of a.why a.kind a.cause a.took
  where
    of : (why : Stop) → status_at why ≡ ReadFault → HasNoInput words files why
        → Appends written.before written.after (last_text why) → HasReadCause words files written
    of stop.Usage e n took = absurd (cc)
    of (stop.Input which kind place) e n took = absurd (cc)
    of (stop.Map why) e n took = absurd (cc)
    of (stop.Grid kind line) e n took = absurd (cc)
    of (stop.Failed which) e n took = inl (failed_command files which n.command n.cause)
    of (stop.TooLong which) e n took = inr (record { which = which; cause = n; took = took })
    of (stop.Run (fault.Answer number why)) e n took = absurd (cc)
    of (stop.Run fault.Generator) e n took = absurd (cc)
    of (stop.Run fault.Write) e n took = absurd (cc)
    of (stop.Run fault.Memory) e n took = absurd (cc)
