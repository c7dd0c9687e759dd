-- Entries that are taken one after another.
use Rattle.std.specs.Prelude.{◌≡◌, ℕ, ◌+◌, ◌<◌, List, take, length, All, Some, slice_get}
use Rattle.report_text.specs.Forms.{IsFormedEntry}
use Rattle.transcript_model.specs.declared.entry.Entry.{Entry}
use Rattle.replay_check.specs.Standings.{AreBounds, IsOpenEntry, IsStanding, IsWrong, limits_by}
use Rattle.replay_check.specs.declared.bounds.Bounds.{Bounds}
use Rattle.replay_check.specs.declared.entries.Walked.{Walked}
use Rattle.replay_check.specs.declared.entries.Walked.TheVariants as walked
use Rattle.replay_check.specs.declared.finding.Finding.{Finding}
use Rattle.replay_check.specs.declared.finding.Finding.TheVariants.{Holds, Breaks, Open}
use Rattle.replay_check.specs.declared.standing.Standing.{Standing}
use Rattle.replay_check.specs.declared.verdict.BreachKind.{BreachKind}

-- the judge stands before the entry at this place
pub record CanTake (b : Bounds) (entries : List Entry) (place : ℕ) (s : Standing) : Type 0 where
  pub bounds : AreBounds b
  pub formed : All (IsFormedEntry b.version) entries
  pub within : place < length entries
  pub standing : IsStanding b (take place entries) s

-- the judge stands before the entry at this place, of which that is said
pub record StopsBefore (b : Bounds) (entries : List Entry) (place : ℕ) (said : Entry → Type 0) : Type 0 where
  pub before : Standing
  pub standing : IsStanding b (take place entries) before
  pub e : Entry
  pub there : slice_get entries place ≡ Some e
  pub is : said e

-- this line of the entry at this place is wrong, and none before it
abbrev pub IsWrongAt : Bounds → List Entry → ℕ → ℕ → BreachKind → Type 0
IsWrongAt b entries place offset k =
    StopsBefore b entries place (λ e. IsWrong b.limit (limits_by b) b.task.now (take place entries) e offset k)

-- the claim of the entry at this place isn't decided, and no line before it is wrong
abbrev pub IsOpenAt : Bounds → List Entry → ℕ → Type 0
IsOpenAt b entries place =
    StopsBefore b entries place (λ e. IsOpenEntry b.limit (limits_by b) b.task.now (take place entries) e)

-- the judge stands behind the entry at this place, or a line of it is wrong, or its claim isn't decided
abbrev pub IsEntryTaken : Bounds → List Entry → ℕ → Standing → Finding → Type 0
IsEntryTaken b entries place s Holds = IsStanding b (take (place + 1) entries) s
IsEntryTaken b entries place s (Breaks offset k) = IsWrongAt b entries place offset k
IsEntryTaken b entries place s Open = IsOpenAt b entries place

-- the judge stands behind all entries, or one is wrong, or its claim isn't decided
abbrev pub IsWalked : Bounds → List Entry → Standing → Walked → Type 0
IsWalked b entries s (walked.Breaks place offset k) = IsWrongAt b entries place offset k
IsWalked b entries s (walked.Open place) = IsOpenAt b entries place
IsWalked b entries s walked.Ends = IsStanding b entries s
