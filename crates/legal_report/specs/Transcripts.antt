-- Whether entries are a legal transcript, and which is the first that is wrong.
use Rattle.std.specs.Prelude.{◌≡◌, ℕ, ◌≤◌, List, take, true, Some, slice_get}
use Rattle.task_model.specs.declared.task.Task.{Task}
use Rattle.transcript_model.specs.Legal.{IsLegal, IsRightAsk, MayFollow, asks_of, is_answer}
use Rattle.transcript_model.specs.declared.entry.Entry.{Entry}
use Rattle.transcript_model.specs.declared.entry.Entry.TheVariants as entry
use Rattle.transcript_model.specs.declared.limits.TheConstants.{MOST_CALLS}
use Rattle.legal_report.specs.declared.flaw.ReportFlaw.{ReportFlaw}
use Rattle.legal_report.specs.declared.flaw.ReportFlaw.TheVariants.{Text, Ask, Answer}

-- The entries are a legal transcript with at most as many requests as any run may make.
pub record IsSoundTranscript (version : ℕ) (task : Task) (entries : List Entry) : Type 0 where
  pub legal : IsLegal version task entries
  pub few : asks_of entries ≤ MOST_CALLS

-- behind these entries the entry is a request that may not be made, or that is one too many
abbrev pub IsWrongAsk : Task → List Entry → Entry → Type 0
IsWrongAsk task before (entry.Ask number turn call) =
    ¬ (IsRightAsk task before number turn call × (number ≤ MOST_CALLS))
IsWrongAsk task before e = ⊥

-- behind these entries the entry is wrong, for this flaw
abbrev pub IsWrongEntry : ℕ → Task → List Entry → Entry → ReportFlaw → Type 0
IsWrongEntry version task before e Ask = IsWrongAsk task before e
IsWrongEntry version task before e Answer = (is_answer e ≡ true) × ¬ (MayFollow version task before e)
IsWrongEntry version task before e Text = ⊥

-- The entry at this place, from 0, is the first that is wrong.
pub record FailsAtEntry (version : ℕ) (task : Task) (entries : List Entry) (place : ℕ) (flaw : ReportFlaw)
    : Type 0 where
  pub before : IsSoundTranscript version task (take place entries)
  pub e : Entry
  pub there : slice_get entries place ≡ Some e
  pub wrong : IsWrongEntry version task (take place entries) e flaw
