-- What a run is, and what of it is shown.
use Rattle.std.specs.Prelude.{◌≡◌, ◌⊎◌, ℕ, List, [], true, Option, Some, count_by}
use Rattle.io_world.specs.FileMap.{FileMap}
use Rattle.gen_lines.specs.declared.answer.Why.{Why}
use Rattle.round_run.specs.Breaking.{LogBroken}
use Rattle.round_run.specs.Calls.{LogRan, LogStops}
use Rattle.round_run.specs.Dialogue.{BrokenOff, Dialogue, HasBadLine, workers_in}
use Rattle.turn_run.specs.Reports as reports
use Rattle.turn_run.specs.Reports.{text_so_far, report_of}
use Rattle.round_run.specs.Rolling.{Blames}
use Rattle.round_run.specs.TurnLines.{HasTurnLine}
use Rattle.turn_run.specs.Turns.{IsFrontOfRun}
use Rattle.table_runs.specs.Tabled.{IsTabled}
use Rattle.task_model.specs.Fit.{IsFit}
use Rattle.task_model.specs.declared.task.Task.{Task}
use Rattle.transcript_model.specs.Legal.{IsLegal, asks_of, is_level, is_open}
use Rattle.report_text.specs.Texts.{text_of_report}
use Rattle.transcript_model.specs.declared.entry.Entry.{Entry}
use Rattle.transcript_model.specs.declared.head.Head.{Head}
use Rattle.transcript_model.specs.declared.outcome.Outcome.{Outcome}
use Rattle.transcript_model.specs.declared.outcome.Outcome.TheVariants as outcome
use Rattle.command_line.specs.Words.{command_of}
use Rattle.command_files.specs.Inputs.{IsTaskOf}
use Rattle.command_files.specs.Outside.{Outside}
use Rattle.command_files.specs.declared.status.Status.{Status}
use Rattle.command_files.specs.declared.status.Status.TheVariants.{Plan, NoPlan, Limit}
use Rattle.round_run.specs.declared.fault.RunFault.{RunFault}
use Rattle.round_run.specs.declared.fault.RunFault.TheVariants as fault
use Rattle.run_command.specs.Heads.{IsHeadOf}
use Rattle.run_command.specs.Works.{Work, command_for, files_of, made_line, making, solving, words_of_work}

-- ---- a run

-- What a run is: the words mean that a task is to be solved, the told files spell a fit task, the head has the limits
-- of the words and the pools that they and the told files mean, and the transcript is legal. Or the words mean that the
-- task of a number is to be made and solved: then the same holds of the files and the words that stand for it.
pub record ProgramRun (words : List (List ℕ)) (told : Option FileMap) : Type 0 where
  pub work : Work
  pub meant : command_of words ≡ Some (command_for work)
  pub task : Task
  pub spelled : IsTaskOf (files_of told work) (words_of_work work).files task
  pub fit : IsFit task
  pub head : Head
  pub headed : IsHeadOf (files_of told work) (words_of_work work) task head
  pub entries : List Entry
  pub legal : IsLegal head.version task entries

-- what is shown of a run before its outcome: the lines of its head and of its transcript, and nothing of `generate`
abbrev pub shown_so_far : Work → Task → Head → List Entry → List ℕ
shown_so_far (solving w) task head entries = text_so_far task head entries
shown_so_far (making n) task head entries = []

-- all that is shown of a run with this outcome: its report, or the line of `generate`
abbrev pub shown_text : Work → Task → Head → List Entry → Outcome → List ℕ
shown_text (solving w) task head entries o = text_of_report (report_of task head entries o)
shown_text (making n) task head entries o = made_line n o (count_by is_level entries) (asks_of entries)

-- ---- outcomes

-- how a run ends with this outcome
abbrev pub outcome_status : Outcome → Status
outcome_status (outcome.Plan steps cost from) = Plan
outcome_status outcome.NoPlan = NoPlan
outcome_status (outcome.Limit kind) = Limit

-- The text is all that is shown of a run with an outcome of the status's kind. The run's transcript is a list of whole
-- turns of its mode, or one after a batch that was cut, each of which begins where one is needed; the outcome may
-- stand there and is sure, and a limit that a plan would have avoided stands only where a turn would be needed. What
-- was said with the children is the transcript's dialogue, and where they answer by a table the run comes to what the
-- table says. The calls that came to the log are the transcript's, in order, and then stops.
pub record HasOutcome (words : List (List ℕ)) (outside : Outside) (status : Status) (text : List ℕ) : Type 0 where
  pub run : ProgramRun words outside.files.told
  pub outcome : Outcome
  pub kind : outcome_status outcome ≡ status
  pub turns : reports.IsRun run.task run.head run.entries outcome
  pub talks : Dialogue run.task run.head.version (workers_in run.head) run.entries outside.spoken
  pub tabled : IsTabled run.task run.head run.entries outside.spoken outcome
  pub calls : LogRan run.task run.head run.entries outside.was outside.now
  pub is : text ≡ shown_text run.work run.task run.head run.entries outcome

-- ---- faults

-- The text is what is shown of a run that stopped with this fault. The transcript is one of
-- whole turns, the last of which may stop at any entry; each begins where one is needed. If a request is blamed, it is
-- open, and what its child said next is no answer. What was said with the children is the transcript's dialogue, broken
-- off behind it; the calls that came to the log are the transcript's, up to where it broke off, and then stops. A
-- request more, if one was begun, is the next of the run; none was where an answer is bad, and where the sink failed no
-- call was made behind those of the entries. Where no line stands that may have requests behind it only stops came.
pub record IsPartOfRun (words : List (List ℕ)) (outside : Outside) (f : RunFault) (text : List ℕ) : Type 0 where
  pub run : ProgramRun words outside.files.told
  pub front : IsFrontOfRun run.head run.task run.entries
  pub blamed : Blames run.head.version run.task (workers_in run.head) outside.spoken f run.entries
  pub talks : BrokenOff run.task run.head.version (workers_in run.head) (IsFrontOfRun run.head run.task) f run.entries
      outside.spoken
  pub calls : LogBroken run.task run.head (IsFrontOfRun run.head run.task) run.entries f outside.was outside.now
  pub needed : LogStops outside.was outside.now ⊎ HasTurnLine run.head.mode run.entries
  pub is : text ≡ shown_so_far run.work run.task run.head run.entries

-- The transcript is a front of a run, the request that is blamed is open, all before it are answered, and what its
-- child said next is no answer, for this cause. What was written to the children are its requests, and no other.
pub record HasBadAnswer {words : List (List ℕ)} (outside : Outside) (run : ProgramRun words outside.files.told)
    (number : ℕ) (why : Why) : Type 0 where
  pub front : IsFrontOfRun run.head run.task run.entries
  pub waiting : is_open run.entries number ≡ true
  pub line : HasBadLine run.task run.head.version (workers_in run.head) run.entries outside.spoken number why
  pub talks : BrokenOff run.task run.head.version (workers_in run.head) (IsFrontOfRun run.head run.task)
      (fault.Answer number why) run.entries outside.spoken
