-- Entries that are taken one after another.
use Rattle.std.specs.Prelude.{ℕ, ◌+◌, ◌≤◌, length, take, All, Option, None, Some}
use Rattle.learning.specs.Knowledge.{IsKnowledge}
use Rattle.learning.specs.declared.knowledge.Knowledge.{Knowledge}
use Rattle.report_text.specs.Forms.{IsFormedEntry}
use Rattle.task_model.specs.Fit.{IsFit}
use Rattle.transcript_model.specs.declared.limits.TheConstants.{MOST_CALLS}
use Rattle.legal_report.specs.Transcripts.{FailsAtEntry}
use Rattle.legal_report.specs.declared.flaw.ReportFlaw.{ReportFlaw}
use Rattle.legal_report.specs.declared.walk.Walk.{Walk}
use Rattle.legal_report.specs.declared.walk.Walked.{Walked}
use Rattle.legal_report.specs.declared.walk.Walked.TheVariants.{Ends, Stops}

-- The entries are of the stated forms, over a fit task.
pub record IsReadable (w : Walk) : Type 0 where
  pub fit : IsFit w.task.now
  pub formed : All (IsFormedEntry w.version) w.entries.now

-- The knowledge is that of the entries before this place.
pub record StandsAtEntry (w : Walk) (place : ℕ) (l : Knowledge) : Type 0 where
  pub knowledge : IsKnowledge w.version w.task.now (take place w.entries.now) l
  pub few : length l.asked.items ≤ MOST_CALLS

-- the entry at this place is taken, or is the first that is wrong
abbrev pub IsEntryWalked : Walk → ℕ → Knowledge → Option ReportFlaw → Type 0
IsEntryWalked w place after None = StandsAtEntry w (place + 1) after
IsEntryWalked w place after (Some flaw) = FailsAtEntry w.version w.task.now w.entries.now place flaw

-- all entries are taken, or one is the first that is wrong
abbrev pub IsWalkDone : Walk → Knowledge → Walked → Type 0
IsWalkDone w knowledge Ends = StandsAtEntry w (length w.entries.now) knowledge
IsWalkDone w knowledge (Stops place flaw) = FailsAtEntry w.version w.task.now w.entries.now place flaw
