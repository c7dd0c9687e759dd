-- What is wrong with a report, line by line. There is one case for each kind.
use Rattle.std.specs.Prelude.{◌≡◌, ◌⊎◌, ◌||◌, ℕ, ◌+◌, ◌<◌, ◌≤◌, List, [], ◌∷◌, ◌++◌, length, take, true, false, Some, slice_get}
use Rattle.dream_check.specs.Lines.{IsWrongLine}
use Rattle.turn_laws.specs.Modes.{Leaves}
use Rattle.task_model.specs.declared.task.Task.{Task}
use Rattle.transcript_model.specs.Dreaming.{HasNoDreamAfter}
use Rattle.transcript_model.specs.Legal.{MayFollow, is_ask, is_answer}
use Rattle.transcript_model.specs.Outcomes.{AreOrigins, IsTrueOutcome}
use Rattle.transcript_model.specs.Rounds.{Limits}
use Rattle.transcript_model.specs.Transcript.{known_of}
use Rattle.transcript_model.specs.Turns.{AreTurnsOf, Kept, MayBegin, Stage, after_cut, between}
use Rattle.transcript_model.specs.declared.entry.Call.{Call}
use Rattle.transcript_model.specs.declared.entry.Entry.{Entry}
use Rattle.transcript_model.specs.declared.entry.Entry.TheVariants as entry
use Rattle.transcript_model.specs.declared.head.Mode.TheVariants.{Incremental}
use Rattle.transcript_model.specs.declared.head.PoolLine.{PoolLine}
use Rattle.transcript_model.specs.declared.outcome.LimitKind.TheVariants.{Calls}
use Rattle.transcript_model.specs.declared.outcome.Origin.{Origin}
use Rattle.transcript_model.specs.declared.outcome.Outcome.{Outcome}
use Rattle.transcript_model.specs.declared.outcome.Outcome.TheVariants as outcome
use Rattle.transcript_model.specs.declared.report.Report.{Report}
use Rattle.replay_check.specs.Heads.{are_fit_limits, are_served, is_fit_pool, reported_limits}
use Rattle.legal_report.specs.Lines.{line_behind_pools, line_of}
use Rattle.replay_check.specs.Lines.{outcome_line}
use Rattle.shown_steps.specs.Plans.{CanRun, IsPlan}
use Rattle.replay_check.specs.declared.verdict.BreachKind.{BreachKind}
use Rattle.replay_check.specs.declared.verdict.BreachKind.TheVariants as kind

-- ---- the head

-- the pool in this line doesn't fit behind those before it
pub record BreaksPool (task : Task) (r : Report) (line : ℕ) : Type 0 where
  pub place : ℕ
  pub pool : PoolLine
  pub there : slice_get r.pools place ≡ Some pool
  pub wrong : is_fit_pool task (take place r.pools) pool ≡ false
  pub is : line ≡ place + 3

-- A limit is out of its range; a pool doesn't fit; a stream has no pool, which is told behind the pools.
abbrev pub BreaksHead : Task → Report → ℕ → Type 0
BreaksHead task r line =
    ((line ≡ 2) × (are_fit_limits r ≡ false))
    ⊎ (BreaksPool task r line ⊎ ((line ≡ line_behind_pools r) × (are_served task r.pools ≡ false)))

-- ---- entries

-- a request may follow, and its number is at most the limit of calls
abbrev pub MayAsk : Limits → Task → List Entry → Entry → Type 0
MayAsk limits task before (entry.Ask number turn call) =
    MayFollow limits.version task before (entry.Ask number turn call) × (number ≤ limits.calls)
MayAsk limits task before e = ⊥

-- the entries are turns of the mode, the last of which may stop at any entry
abbrev pub AreBegun : Limits → Task → List Entry → Type 0
AreBegun limits task entries = (stage : Stage) × AreTurnsOf limits.mode limits task entries stage

-- in a mode that dreams a turn may begin behind these entries
abbrev pub BeginsTurn : Limits → Task → List Entry → Type 0
BeginsTurn limits task before =
    ¬ (limits.mode ≡ Incremental) × MayBegin limits task before
    × AreTurnsOf limits.mode limits task before between

-- No turn goes on with the entry. A dream that uses something, and the want of one, are in order where a turn may
-- begin, whatever else is wrong with them.
abbrev pub IsOutOfOrder : Limits → Task → List Entry → Entry → Type 0
IsOutOfOrder limits task before (entry.Dream uses steps) =
    ¬ (BeginsTurn limits task before × (0 < length uses))
IsOutOfOrder limits task before entry.Nothing = ¬ (BeginsTurn limits task before)
IsOutOfOrder limits task before e = ¬ (AreBegun limits task (before ++ e ∷ []))

-- the line of the dream that is so many behind its first is wrong, by what whole turns leave
abbrev pub IsFalseDream : Limits → Task → List Entry → Entry → ℕ → Type 0
IsFalseDream limits task before (entry.Dream uses steps) offset =
    (k : Kept) × Leaves limits task before k × IsWrongLine limits task before k.tried uses steps offset
IsFalseDream limits task before e offset = ⊥

-- it is said that there is no dream, but by what whole turns leave there may be one
abbrev pub IsFalseNone : Limits → Task → List Entry → Entry → Type 0
IsFalseNone limits task before entry.Nothing =
    (k : Kept) × Leaves limits task before k × ¬ (HasNoDreamAfter limits task before k.tried)
IsFalseNone limits task before e = ⊥

-- So many lines behind the entry's first: a request that may not be made; an answer that may not be given; an entry
-- with which no turn goes on; a line of a dream that is none; that there is no dream, which is false.
abbrev pub BreaksEntry : Limits → Task → List Entry → Entry → ℕ → BreachKind → Type 0
BreaksEntry limits task before e offset kind.Ask =
    (offset ≡ 0) × (is_ask e ≡ true) × ¬ (MayAsk limits task before e)
BreaksEntry limits task before e offset kind.Answer =
    (offset ≡ 0) × (is_answer e ≡ true) × ¬ (MayFollow limits.version task before e)
BreaksEntry limits task before e offset kind.Order = (offset ≡ 0) × IsOutOfOrder limits task before e
BreaksEntry limits task before e offset kind.Dream = IsFalseDream limits task before e offset
BreaksEntry limits task before e offset kind.Outcome = (offset ≡ 0) × IsFalseNone limits task before e
BreaksEntry limits task before e offset other = ⊥

-- the line of an entry is wrong so
pub record BreaksEntries (task : Task) (r : Report) (line : ℕ) (k : BreachKind) : Type 0 where
  pub place : ℕ
  pub e : Entry
  pub there : slice_get r.entries place ≡ Some e
  pub offset : ℕ
  pub wrong : BreaksEntry (reported_limits task r) task (take place r.entries) e offset k
  pub is : line ≡ line_of r place + offset

-- ---- outcomes

-- a step of the plan can't be taken
pub record BreaksStep (task : Task) (entries : List Entry) (calls : List Call) (offset : ℕ) : Type 0 where
  pub place : ℕ
  pub within : place < length calls
  pub stuck : ¬ (CanRun task (known_of task entries) (take (place + 1) calls))
  pub is : offset ≡ place + 1

-- the origin here isn't the one that is due, or is missing, or needless
pub record BreaksFrom (version : ℕ) (entries : List Entry) (calls : List Call) (from : List Origin)
    (offset : ℕ) : Type 0 where
  pub due : List Origin
  pub origins : AreOrigins version entries calls due
  pub place : ℕ
  pub other : ¬ (slice_get from place ≡ slice_get due place)
  pub is : offset ≡ length calls + 2 + place

-- So many lines behind the plan's first: a step that can't be taken, or a plan that doesn't reach the goal, which is
-- told with its cost; a wrong cost; a wrong origin.
abbrev pub BreaksPlan : Limits → Task → List Entry → List Call → ℕ → List Origin → ℕ → BreachKind
    → Type 0
BreaksPlan limits task entries calls cost from offset kind.Plan =
    BreaksStep task entries calls offset
    ⊎ ((offset ≡ length calls + 1) × ((other : ℕ) → ¬ (IsPlan task (known_of task entries) calls other)))
BreaksPlan limits task entries calls cost from offset kind.Cost =
    (offset ≡ length calls + 1) × ¬ (IsPlan task (known_of task entries) calls cost)
BreaksPlan limits task entries calls cost from offset kind.From =
    BreaksFrom limits.version entries calls from offset
BreaksPlan limits task entries calls cost from offset other = ⊥

-- the outcome's claim is false
abbrev pub BreaksClaim : Limits → Task → List Entry → Outcome → ℕ → BreachKind → Type 0
BreaksClaim limits task entries o offset kind.Outcome =
    (offset ≡ 0) × ¬ (IsTrueOutcome limits task entries o)
BreaksClaim limits task entries o offset other = ⊥

-- what the outcome says is wrong
abbrev pub BreaksSaid : Limits → Task → List Entry → Outcome → ℕ → BreachKind → Type 0
BreaksSaid limits task entries (outcome.Plan calls cost from) offset k =
    BreaksPlan limits task entries calls cost from offset k
BreaksSaid limits task entries o offset k = BreaksClaim limits task entries o offset k

-- inside a batch: a request or an answer may come next
abbrev pub AreInBatch : Limits → Task → List Entry → Type 0
AreInBatch limits task entries =
    (e : Entry) × ((is_ask e || is_answer e) ≡ true) × AreBegun limits task (entries ++ e ∷ [])

-- An outcome has its place between two turns. The limit of calls has one also behind a batch that was cut, and inside a
-- batch, where it is false.
abbrev pub HasPlace : Limits → Task → List Entry → Outcome → Type 0
HasPlace limits task entries o =
    AreTurnsOf limits.mode limits task entries between
    ⊎ ((o ≡ outcome.Limit Calls)
    × (AreTurnsOf limits.mode limits task entries after_cut ⊎ AreInBatch limits task entries))

-- the line of the outcome that is so many behind its first is wrong so
abbrev pub BreaksOutcome : Limits → Task → List Entry → Outcome → ℕ → BreachKind → Type 0
BreaksOutcome limits task entries o offset kind.Order =
    (offset ≡ 0) × ¬ (HasPlace limits task entries o)
BreaksOutcome limits task entries o offset k = BreaksSaid limits task entries o offset k

pub record BreaksEnd (task : Task) (r : Report) (line : ℕ) (k : BreachKind) : Type 0 where
  pub offset : ℕ
  pub wrong : BreaksOutcome (reported_limits task r) task r.entries r.outcome offset k
  pub is : line ≡ outcome_line r + offset

-- ---- all

-- the line of the report is wrong so
abbrev pub IsBreach : Task → Report → ℕ → BreachKind → Type 0
IsBreach task r line k =
    ((k ≡ kind.Head) × BreaksHead task r line) ⊎ (BreaksEntries task r line k ⊎ BreaksEnd task r line k)
