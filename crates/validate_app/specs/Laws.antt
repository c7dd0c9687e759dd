-- Laws of the outcomes. Each is the contract of a public function of `laws.rt`, and so is proved.
use Rattle.std.specs.Prelude.{◌≡◌, ◌⊎◌, ℕ, List, Option, Some}
use Rattle.io_world.specs.FileMap.{FileMap}
use Rattle.task_model.specs.declared.task.Task.{Task}
use Rattle.transcript_model.specs.declared.entry.Call.{Call}
use Rattle.transcript_model.specs.declared.entry.Entry.{Entry}
use Rattle.validate_app.specs.Inputs.{IsPlanOf, IsPlainTaskOf, IsTranscriptOf}
use Rattle.validate_app.specs.Outcomes.{IsJudgedPlan, IsOutcome}
use Rattle.validate_app.specs.Words.{ValidateWords}
use Rattle.validate_app.specs.declared.outcome.Outcome.{Outcome}
use Rattle.validate_app.specs.declared.outcome.Outcome.TheVariants.{Judged, Stopped}
use Rattle.validate_app.specs.declared.stop.FileRole.{FileRole}
use Rattle.validate_app.specs.declared.stop.Stop.{Stop}
use Rattle.validate_app.specs.declared.stop.Stop.TheVariants.{Failed, Memory}
use Rattle.validate_app.specs.declared.verdict.Verdict.{Verdict}

-- memory is wanting, or a file failed
abbrev pub IsFailure : Stop → Type 0
IsFailure why = (why ≡ Memory) ⊎ ((which : FileRole) × (why ≡ Failed which))

-- the run ends for such a thing
abbrev pub HasFailed : Outcome → Type 0
HasFailed (Judged v claimed) = ⊥
HasFailed (Stopped why) = IsFailure why

-- Of words and told files one outcome is right, unless memory is wanting or a file failed: one verdict with one claim,
-- or one fault at one place of one file.
abbrev pub OutcomesAreUnique : Type 0
OutcomesAreUnique =
    (words : List (List ℕ)) (told : FileMap) (first last : ℕ) (o p : Outcome)
    → IsOutcome words (record { told = Some told; first = first; last = last }) o
    → IsOutcome words (record { told = Some told; first = first; last = last }) p
    → HasFailed o ⊎ (HasFailed p ⊎ (o ≡ p))

-- where the files spell a task, a legal transcript and a plan, something is said
abbrev pub SpelledPlansAreJudged : Type 0
SpelledPlansAreJudged =
    (told : Option FileMap) (w : ValidateWords) (task : Task) (entries : List Entry) (calls : List Call)
    (claimed : Option ℕ)
    → IsPlainTaskOf told w task → IsTranscriptOf told w task entries → IsPlanOf told w calls claimed
    → (v : Verdict) × IsJudgedPlan told w v claimed
