-- What a run over a task writes.
use Rattle.std.specs.Prelude.{◌≡◌, ◌⊎◌, ℕ, ◌<◌, ◌≤◌, List, [], ◌∷◌, ◌++◌, length, map, take, All, Option, count_by}
use Rattle.std.proofs.Common.{inl, inr}
use Rattle.std.specs.Io.KnownBytes.{Appends}
use Rattle.std.specs.List.{flat_map}
use Rattle.turn_laws.specs.Lazy.{IsFewDue, IsLazy, IsLazyEnd}
use Rattle.task_model.specs.declared.task.Task.{Task}
use Rattle.transcript_model.specs.Legal.{HasNoneOpen, IsLegal, asks_of, is_level}
use Rattle.transcript_model.specs.Outcomes.{MayStand}
use Rattle.transcript_model.specs.Rounds.{limits_of}
use Rattle.report_text.specs.Texts.{done_line, line_text, shown_pool, text_of_entry, text_of_head, text_of_outcome}
use Rattle.transcript_model.specs.Turns.{AreTurnsOf, Stage}
use Rattle.transcript_model.specs.declared.entry.Entry.{Entry}
use Rattle.transcript_model.specs.declared.head.Head.{Head}
use Rattle.transcript_model.specs.declared.head.Pool.{Pool}
use Rattle.transcript_model.specs.declared.outcome.Outcome.{Outcome}
use Rattle.transcript_model.specs.declared.report.Report.{Report}
use Rattle.io_world.specs.Talks.{Event, Talk}
use Rattle.round_run.specs.Breaking.{LogBroken}
use Rattle.round_run.specs.Calls.{LogRan, LogStops}
use Rattle.round_run.specs.Dialogue.{BrokenOff, Dialogue, workers_in}
use Rattle.round_run.specs.Rolling.{Blames}
use Rattle.table_runs.specs.Tabled.{IsTabled}
use Rattle.round_run.specs.TurnLines.{HasTurnLine}
use Rattle.turn_run.specs.Turns.{HasShortDreams, IsFrontOfRun, IsSure}
use Rattle.round_run.specs.declared.fault.RunFault.{RunFault}
use Rattle.round_run.specs.declared.fault.RunFault.TheVariants.{Answer, Generator, Write, Memory}
use Rattle.turn_run.specs.declared.whole_run.Ran.{Ran}

-- the streams of the head's pools are the task's
abbrev pub AreStreamsOf : Task → Head → Type 0
AreStreamsOf task head =
    All (λ (pool : Pool). All (λ stream. stream < length task.streams) pool.streams) head.pools

-- ---- texts

-- the outcome's lines, and `done`
abbrev pub text_of_end : ℕ → Outcome → List ℕ
text_of_end version o = text_of_outcome version o ++ line_text done_line

-- the lines of the head and of the entries
abbrev pub text_so_far : Task → Head → List Entry → List ℕ
text_so_far task head entries = text_of_head task head ++ flat_map text_of_entry entries

-- a whole report
abbrev pub whole_text : Task → Head → List Entry → Outcome → List ℕ
whole_text task head entries o = text_so_far task head entries ++ text_of_end head.version o

-- a run's report, if this is its outcome
abbrev pub report_of : Task → Head → List Entry → Outcome → Report
report_of task head entries o =
    record {
      version = head.version;
      mode = head.mode;
      calls = head.calls;
      states = head.states;
      depth = head.depth;
      pools = map (shown_pool task) head.pools;
      entries = entries;
      outcome = o;
    }

-- ---- what was written

-- A legal transcript that is a list of whole turns of the head's mode, or one after a batch that was cut, each of which
-- begins where one is needed; no dream has more steps than a search may have states; no request is open; an outcome that
-- may stand there and is true of it, and a limit only where a further turn is needed.
pub record IsRun (task : Task) (head : Head) (entries : List Entry) (o : Outcome) : Type 0 where
  pub stage : Stage
  pub legal : IsLegal head.version task entries
  pub turns : AreTurnsOf head.mode (limits_of head) task entries stage
  pub lazy : IsLazy (limits_of head) task entries
  pub short : HasShortDreams head.states entries
  pub end : IsLazyEnd (limits_of head) task entries stage o
  pub few : IsFewDue task entries stage o
  pub stands : MayStand stage o
  pub closed : HasNoneOpen entries
  pub sure : IsSure head task entries o

-- A whole report was written, of a run, whose dialogue this was, by the calls that came to the log; the levels and the
-- requests are counted. Where its children answer by a table the run comes to what the table says (`IsTabled`).
pub record IsReported (task : Task) (head : Head) (spoken : ℕ → Option Talk)
    (was now : Option (List Event)) (old new : Option (List ℕ)) (ran : Ran) : Type 0 where
  pub entries : List Entry
  pub run : IsRun task head entries ran.outcome
  pub talks : Dialogue task head.version (workers_in head) entries spoken
  pub tabled : IsTabled task head entries spoken ran.outcome
  pub calls : LogRan task head entries was now
  pub told : Appends old new (whole_text task head entries ran.outcome)
  pub levels : ran.levels ≡ count_by is_level entries
  pub asks : ran.asks ≡ asks_of entries

-- The lines of the head and of a legal transcript of whole turns, the last of which may stop at any entry. In it the
-- request that is blamed is open, if one is; the dialogue was this, and the calls were those of the entries, up to
-- where the run broke off: a request more, if one was begun, is the next of the run. Where no line stands that may have
-- requests behind it no child was started.
pub record IsPart (task : Task) (head : Head) (fault : RunFault)
    (spoken : ℕ → Option Talk) (was now : Option (List Event)) (text : List ℕ) : Type 0 where
  pub entries : List Entry
  pub front : IsFrontOfRun head task entries
  pub blamed : Blames head.version task (workers_in head) spoken fault entries
  pub talks : BrokenOff task head.version (workers_in head) (IsFrontOfRun head task) fault entries spoken
  pub calls : LogBroken task head (IsFrontOfRun head task) entries fault was now
  pub needed : LogStops was now ⊎ HasTurnLine head.mode entries
  pub is : text ≡ text_so_far task head entries

-- The text of a report of a run, whose dialogue this was, by the calls that came to the log.
pub record IsWholeReport (task : Task) (head : Head) (spoken : ℕ → Option Talk)
    (was now : Option (List Event)) (text : List ℕ) : Type 0 where
  pub entries : List Entry
  pub outcome : Outcome
  pub run : IsRun task head entries outcome
  pub talks : Dialogue task head.version (workers_in head) entries spoken
  pub tabled : IsTabled task head entries spoken outcome
  pub calls : LogRan task head entries was now
  pub is : text ≡ whole_text task head entries outcome

-- What was to be written before the fault: nothing, for want of memory, and no child was started; or the head and whole
-- turns, the last of which may have stopped; or, where the sink failed, a whole report.
abbrev pub WasToWrite : Task → Head → RunFault → (ℕ → Option Talk) → (was now : Option (List Event))
    → List ℕ → Type 0
WasToWrite task head fault spoken was now text =
    ((fault ≡ Memory) × (text ≡ []) × LogStops was now) ⊎ IsPart task head fault spoken was now text
    ⊎ ((fault ≡ Write) × IsWholeReport task head spoken was now text)

-- where the lines of the last entry begin, among those of the head and of the entries; and those of the head, where
-- there is no entry
abbrev pub last_begins : Task → Head → List Entry → ℕ
last_begins task head [] = 0
last_begins task head (e ∷ es) = length (text_so_far task head (take (length es) (e ∷ es)))

-- where the lines begin that were to be written last: those of the last entry, or of the outcome
abbrev pub begins_last : {task : Task} {head : Head} {fault : RunFault} {spoken : ℕ → Option Talk}
    {was now : Option (List Event)} {text : List ℕ} → WasToWrite task head fault spoken was now text → ℕ
begins_last (inl nothing) = 0
begins_last {task} {head} (inr (inl part)) = last_begins task head part.entries
begins_last {task} {head} (inr (inr (failed, whole))) = length (text_so_far task head whole.entries)

-- The sink took the text; but a fault of the sink left out some of it behind this place.
abbrev pub TookTo : ℕ → RunFault → Option (List ℕ) → Option (List ℕ) → List ℕ → Type 0
TookTo place Write old new text = (n : ℕ) × (place ≤ n) × (n < length text) × Appends old new (take n text)
TookTo place Generator old new text = Appends old new text
TookTo place Memory old new text = Appends old new text
TookTo place (Answer number why) old new text = Appends old new text

-- A run had no outcome. All that was to be written was written; but a fault of the sink left out the end of the last
-- lines, and nothing was to be written behind them.
pub record IsBroken (task : Task) (head : Head) (spoken : ℕ → Option Talk)
    (was now : Option (List Event)) (old new : Option (List ℕ)) (fault : RunFault) : Type 0 where
  pub text : List ℕ
  pub form : WasToWrite task head fault spoken was now text
  pub told : TookTo (begins_last form) fault old new text
