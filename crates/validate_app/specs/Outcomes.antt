-- How a run ends: what is said of the plan, or why nothing is.
use Rattle.std.specs.Prelude.{◌≡◌, ◌⊎◌, ℕ, ◌<◌, List, length, take, Option, None, Some, ⊤}
use Rattle.std.specs.Io.KnownBytes.{Appends}
use Rattle.io_world.specs.FileMap.{FileMap}
use Rattle.task_model.specs.declared.task.Task.{Task}
use Rattle.transcript_model.specs.Transcript.{known_of}
use Rattle.transcript_model.specs.declared.entry.Call.{Call}
use Rattle.transcript_model.specs.declared.entry.Entry.{Entry}
use Rattle.validate_app.specs.Files.{TextsSeen}
use Rattle.validate_app.specs.Inputs.{IsPlanOf, IsPlainTaskOf, IsTranscriptOf, StopsAtText}
use Rattle.validate_app.specs.Told.{status_of, text_of}
use Rattle.validate_app.specs.Verdicts.{IsPlanVerdict}
use Rattle.validate_app.specs.Words.{ValidateWords, paths_of_words}
use Rattle.validate_app.specs.declared.outcome.Outcome.{Outcome}
use Rattle.validate_app.specs.declared.outcome.Outcome.TheVariants.{Judged, Stopped}
use Rattle.validate_app.specs.declared.status.Status.{Status}
use Rattle.validate_app.specs.declared.status.Status.TheVariants.{WriteFault}
use Rattle.validate_app.specs.declared.stop.Stop.{Stop}
use Rattle.validate_app.specs.declared.stop.Stop.TheVariants.{Usage, Memory}
use Rattle.validate_app.specs.declared.verdict.Verdict.{Verdict}

-- The files spell a task, a transcript and a plan, which claims this cost, and of which this is said over what the
-- transcript certifies behind what is known at first.
pub record IsJudgedPlan (told : Option FileMap) (w : ValidateWords) (v : Verdict) (claimed : Option ℕ) : Type 0 where
  pub task : Task
  pub spelled : IsPlainTaskOf told w task
  pub entries : List Entry
  pub report : IsTranscriptOf told w task entries
  pub calls : List Call
  pub plan : IsPlanOf told w calls claimed
  pub said : IsPlanVerdict task (known_of task entries) calls v

-- words with these paths, and what they lead to
abbrev pub MeansPaths : List (List ℕ) → (ValidateWords → Type 0) → Type 0
MeansPaths words IsSo = (w : ValidateWords) × (paths_of_words words ≡ Some w) × IsSo w

-- why there is no verdict; want of memory is free
abbrev pub HasNoVerdict : List (List ℕ) → TextsSeen → Stop → Type 0
HasNoVerdict words files Usage = paths_of_words words ≡ None
HasNoVerdict words files Memory = ⊤
HasNoVerdict words files why = MeansPaths words (λ w. StopsAtText files w why)

abbrev pub IsOutcome : List (List ℕ) → TextsSeen → Outcome → Type 0
IsOutcome words files (Judged v claimed) = MeansPaths words (λ w. IsJudgedPlan files.told w v claimed)
IsOutcome words files (Stopped why) = HasNoVerdict words files why

-- The sink took this text, and the run ends with this status; or it failed, and took less than all of the text.
abbrev pub TellsOutcome : List ℕ → Status → Option (List ℕ) → Option (List ℕ) → Status → Type 0
TellsOutcome text status before after end =
    ((end ≡ status) × Appends before after text)
    ⊎ ((end ≡ WriteFault) × ((n : ℕ) × (n < length text) × Appends before after (take n text)))

-- A run ends so: what it came to has its cause, and its text was written.
pub record ValidationEnds (words : List (List ℕ)) (files : TextsSeen) (before after : Option (List ℕ))
    (end : Status) : Type 0 where
  pub outcome : Outcome
  pub cause : IsOutcome words files outcome
  pub told : TellsOutcome (text_of outcome) (status_of outcome) before after end
