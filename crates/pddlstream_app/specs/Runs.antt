-- What a run of the program is, what it writes, and how it ends.
use Rattle.std.specs.Prelude.{◌≡◌, ◌⊎◌, ℕ, zero, suc, ◌<◌, ◌≤◌, List, [], ◌++◌, length, take, true, MatchBool, None, Some, Result, IfErr, IfOk, ⊤}
use Rattle.std.proofs.Common.{inl, inr}
use Rattle.std.specs.Io.KnownBytes.{Appends}
use Rattle.io_world.specs.Faults.{Rose}
use Rattle.restart_runs.specs.Tabled.{IsRanAgain}
use Rattle.round_run.specs.Calls.{LogStops}
use Rattle.turn_run.specs.Reports.{last_begins}
use Rattle.task_model.specs.declared.task.Task.{Task}
use Rattle.transcript_model.specs.Legal.{asks_of}
use Rattle.transcript_model.specs.declared.entry.Entry.{Entry}
use Rattle.transcript_model.specs.declared.head.Head.{Head}
use Rattle.command_line.specs.Words.{Command, command_of, generate}
use Rattle.pddlstream_app.specs.AnswerOf.{HasAnswer, only_reads}
use Rattle.pddlstream_app.specs.NoInput.{HasNoInput}
use Rattle.command_files.specs.Outside.{IsUntouched, Outside, Written}
use Rattle.command_files.specs.Stop.{is_write, is_write_fault, last_text, status_at}
use Rattle.run_command.specs.Heard.{Heard, IsHeard, heard_in, hearing, restarts_in}
use Rattle.run_command.specs.Works.{Work, making, solving}
use Rattle.round_run.specs.declared.fault.RunFault.{RunFault}
use Rattle.round_run.specs.declared.fault.RunFault.TheVariants as fault
use Rattle.command_files.specs.declared.status.Status.{Status}
use Rattle.command_files.specs.declared.status.Status.TheVariants.{GeneratorFault, Usage, Input, ReadFault, WriteFault, Memory}
use Rattle.command_files.specs.declared.stop.Stop.{Stop}
use Rattle.command_files.specs.declared.stop.Stop.TheVariants as stop
use Rattle.run_command.specs.Runs.{HasOutcome, IsPartOfRun, shown_so_far}
use Rattle.run_command.specs.Solving.{IsAtText, Lacks}

-- ---- faults

-- nothing was written yet, and no child was started
abbrev pub IsEarly : Outside → List ℕ → Type 0
IsEarly outside text = (text ≡ []) × LogStops outside.was outside.now

-- The task of a number was made and solved, and for its line memory was wanting, so that nothing was written.
pub record IsUnsaid (words : List (List ℕ)) (outside : Outside) (text : List ℕ) : Type 0 where
  pub number : ℕ
  pub meant : command_of words ≡ Some (generate number)
  pub status : Status
  pub line : List ℕ
  pub has : HasOutcome words outside status line
  pub is : text ≡ []

-- what was written before the last line of a run that stops so, with the cause; for want of memory a run may stop that
-- had another fault to tell
abbrev pub IsBefore : List (List ℕ) → Outside → Stop → List ℕ → Type 0
IsBefore words outside stop.Usage text = (command_of words ≡ None) × IsEarly outside text
IsBefore words outside (stop.Run fault.Write) text = ⊥
IsBefore words outside (stop.Run fault.Memory) text =
    IsEarly outside text ⊎ ((f : RunFault) × IsPartOfRun words outside f text) ⊎ IsUnsaid words outside text
IsBefore words outside (stop.Run f) text = IsPartOfRun words outside f text
IsBefore words outside why text = HasNoInput words outside.files why × IsEarly outside text

-- The text is what a run wrote that stops so, and its last line.
pub record RunHasFault (words : List (List ℕ)) (outside : Outside) (status : Status) (text : List ℕ) : Type 0 where
  pub stop : Stop
  pub kind : status_at stop ≡ status
  pub before : List ℕ
  pub cause : IsBefore words outside stop before
  pub is : text ≡ before ++ last_text stop

-- ---- all that a run writes

-- what a run writes in all that ends so
abbrev pub RunWrites : List (List ℕ) → Outside → Status → List ℕ → Type 0
RunWrites words outside status text =
    HasOutcome words outside status text ⊎ HasAnswer words outside status text ⊎ RunHasFault words outside status text

-- where what is written is a run's outcome, and its transcript has no request, no call was made on a child, and the host
-- itself is as it was
abbrev pub IsUnneeded : {words : List (List ℕ)} {outside : Outside} {status : Status} {text : List ℕ} {Other : Type 0}
    → (Same : Type 0) → HasOutcome words outside status text ⊎ Other → Type 0
IsUnneeded {words} {outside} Same (inl h) = asks_of h.run.entries ≡ 0 → IsUntouched outside × Same
IsUnneeded Same (inr other) = ⊤

-- The sink took all that the run writes.
pub record TookAll (words : List (List ℕ)) (outside : Outside) (Same : Type 0) (written : Written) (status : Status)
    : Type 0 where
  pub text : List ℕ
  pub writes : RunWrites words outside status text
  pub unneeded : IsUnneeded Same writes
  pub took : Appends written.before written.after text

-- what was to be written where the sink failed: all that a run writes that ends in another way, or what is shown of a
-- run before its outcome
abbrev pub WasShown : List (List ℕ) → Outside → List ℕ → Type 0
WasShown words outside text =
    ((other : Status) × RunWrites words outside other text) ⊎ IsPartOfRun words outside fault.Write text

-- where the last entry's lines begin in what is shown
abbrev pub shows_last : Work → Task → Head → List Entry → ℕ
shows_last (solving w) task head entries = last_begins task head entries
shows_last (making n) task head entries = 0

-- where the lines begin that were to be written last: those of the outcome, the answer, the fault or the last entry
abbrev pub ends_shown : {words : List (List ℕ)} {outside : Outside} {text : List ℕ} → WasShown words outside text → ℕ
ends_shown (inl (other, inl h)) = length (shown_so_far h.run.work h.run.task h.run.head h.run.entries)
ends_shown (inl (other, inr (inl a))) = 0
ends_shown (inl (other, inr (inr f))) = length f.before
ends_shown (inr p) = shows_last p.run.work p.run.task p.run.head p.run.entries

-- The sink took a part, and not all, of what was to be written: the lines that were to be written last are cut off, and
-- those before them are whole.
pub record TookPart (words : List (List ℕ)) (outside : Outside) (written : Written) : Type 0 where
  pub text : List ℕ
  pub was : WasShown words outside text
  pub count : ℕ
  pub whole : ends_shown was ≤ count
  pub less : count < length text
  pub took : Appends written.before written.after (take count text)

-- how a run ends
abbrev pub Ends : List (List ℕ) → Outside → (Same : Type 0) → Written → Status → Type 0
Ends words outside Same written status =
    MatchBool (is_write_fault status) (TookPart words outside written) (TookAll words outside Same written status)

-- ---- by what was heard of children

-- what was to be written last is that memory is wanting
abbrev pub was_memory : {words : List (List ℕ)} {outside : Outside} {text : List ℕ} → WasShown words outside text
    → Type 0
was_memory (inl (other, writes)) = other ≡ Memory
was_memory (inr part) = ⊥

-- memory was wanting: that is told, or was to be told where the sink failed
abbrev pub LacksMemory : (words : List (List ℕ)) (outside : Outside) (Same : Type 0) (written : Written)
    (status : Status) → Ends words outside Same written status → Type 0
LacksMemory words outside Same written WriteFault part = was_memory part.was
LacksMemory words outside Same written status all = status ≡ Memory

-- Where some failures of children are made good, and an outcome is written, the log of the host below is that of the
-- run whose children are started again: each may have several lives.
abbrev pub WritesAgain : {words : List (List ℕ)} {outside : Outside} {status : Status} {text : List ℕ}
    → (restarts : ℕ) → (below : Heard) → RunWrites words outside status text → Type 0
WritesAgain zero below writes = ⊤
WritesAgain (suc more) below (inl h) = IsRanAgain h.run.task h.run.head h.run.entries below.was below.now h.outcome
WritesAgain (suc more) below (inr other) = ⊤

-- the same where it was to be written, and the sink failed
abbrev pub ShowsAgain : {words : List (List ℕ)} {outside : Outside} {text : List ℕ}
    → (restarts : ℕ) → (below : Heard) → WasShown words outside text → Type 0
ShowsAgain restarts below (inl (other, writes)) = WritesAgain restarts below writes
ShowsAgain restarts below (inr part) = ⊤

abbrev pub EndsAgain : (restarts : ℕ) → (below : Heard) → (words : List (List ℕ)) (outside : Outside) (Same : Type 0)
    (written : Written) (status : Status) → Ends words outside Same written status → Type 0
EndsAgain restarts below words outside Same written WriteFault part = ShowsAgain restarts below part.was
EndsAgain restarts below words outside Same written status all = WritesAgain restarts below all.writes

-- How a run ends, by what it heard of its children; and what the log of their host has, where they are started again.
pub record EndsBy (words : List (List ℕ)) (outside : Outside) (Same : Type 0) (written : Written) (status : Status)
    : Type 0 where
  pub heard : Heard
  pub ends : Ends words (hearing outside.files heard) Same written status
  pub by : IsHeard (restarts_in words) (LacksMemory words (hearing outside.files heard) Same written status ends)
      (heard_in outside) heard
  pub again : EndsAgain (restarts_in words) (heard_in outside) words (hearing outside.files heard) Same written status ends

-- the run ended by itself: by no fault of a generator or of the sink, and not for want of memory
abbrev pub IsUnhindered : Status → Type 0
IsUnhindered GeneratorFault = ⊥
IsUnhindered WriteFault = ⊥
IsUnhindered Memory = ⊥
IsUnhindered status = ⊤

-- The count has not fallen, and it rose where this is so.
pub record Caused (IsSo : Type 0) (last before now : ℕ) : Type 0 where
  pub later : before ≤ now
  pub cause : IsSo → Rose last before now

-- a command that answers makes no call on a child, however it ends
abbrev pub LeavesAnswers : List (List ℕ) → Outside → Type 0
LeavesAnswers words outside =
    (command : Command) → command_of words ≡ Some command → only_reads command ≡ true → IsUntouched outside

-- the words, a file or a text ended the run, before a child was to be asked
abbrev pub IsBeforeHost : Status → Type 0
IsBeforeHost Usage = ⊤
IsBeforeHost Input = ⊤
IsBeforeHost ReadFault = ⊤
IsBeforeHost status = ⊥

-- The host is as it was: of a command that answers and of words that mean no command, however the call ends; and where
-- the words, a file or a text ended the run.
pub record LeavesHost {H : Type 0} (words : List (List ℕ)) (status : Status) (old new : H) : Type 0 where
  pub answer : (command : Command) → command_of words ≡ Some command → only_reads command ≡ true → new ≡ old
  pub usage : command_of words ≡ None → new ≡ old
  pub input : IsBeforeHost status → new ≡ old

-- ---- the parts of a run

-- the same of the host where a run stops, or not
pub record SparesHost {H : Type 0} (words : List (List ℕ)) (result : Result Status Stop) (old new : H) : Type 0 where
  pub answer : (command : Command) → command_of words ≡ Some command → only_reads command ≡ true → new ≡ old
  pub usage : command_of words ≡ None → new ≡ old
  pub input : IfErr result (λ why. IsAtText why → new ≡ old)

-- The run has an outcome, and its report was written; or the command answers, and its text was written.
pub record IsCompleted (words : List (List ℕ)) (outside : Outside) (Same : Type 0) (written : Written)
    (status : Status) : Type 0 where
  pub text : List ℕ
  pub has : HasOutcome words outside status text ⊎ HasAnswer words outside status text
  pub unneeded : IsUnneeded Same has
  pub took : Appends written.before written.after text

-- All that was to be written before the last line was written.
pub record IsBeforeLast (words : List (List ℕ)) (outside : Outside) (written : Written) (why : Stop) : Type 0 where
  pub text : List ℕ
  pub cause : IsBefore words outside why text
  pub took : Appends written.before written.after text

-- how a run stands that has no outcome
abbrev pub IsStopped : List (List ℕ) → Outside → Written → Stop → Type 0
IsStopped words outside written why =
    MatchBool (is_write why) (TookPart words outside written) (IsBeforeLast words outside written why)

-- How a run stands before its last line, by what it heard of its children.
pub record StandsBy (words : List (List ℕ)) (outside : Outside) (Same : Type 0) (written : Written)
    (result : Result Status Stop) : Type 0 where
  pub heard : Heard
  pub by : IsHeard (restarts_in words) (Lacks result) (heard_in outside) heard
  pub completed : IfOk result (IsCompleted words (hearing outside.files heard) Same written)
  pub stopped : IfErr result (IsStopped words (hearing outside.files heard) written)

-- the text was written, and the status is this; or the sink failed and took a part
abbrev pub TellsStatus : Status → List ℕ → Written → Status → Type 0
TellsStatus status text written ended =
    ((ended ≡ status) × Appends written.before written.after text)
    ⊎ ((ended ≡ WriteFault) × (n : ℕ) × (n < length text) × Appends written.before written.after (take n text))

-- the last line was written, for this cause or for want of memory
abbrev pub ClosesRun : Stop → Written → Status → Type 0
ClosesRun why written ended =
    TellsStatus (status_at why) (last_text why) written ended
    ⊎ TellsStatus Memory (last_text (stop.Run fault.Memory)) written ended
