-- The forms of what a report shows: its names, values and numbers.
use Rattle.std.specs.Prelude.{◌≡◌, ℕ, ◌*◌, ◌^◌, ◌<◌, ◌≤◌, ◌⊎◌, List, length, true, All}
use Rattle.gen_lines.specs.Reply.{is_value}
use Rattle.task_model.specs.Dreams.{placeholder}
use Rattle.task_model.specs.Fit.{is_name}
use Rattle.task_model.specs.declared.limits.TheConstants.{LARGEST_COUNT, LARGEST_NUMBER}
use Rattle.transcript_model.specs.Names.{generated}
use Rattle.transcript_model.specs.declared.entry.Call.{Call}
use Rattle.transcript_model.specs.declared.entry.DreamUse.{DreamUse}
use Rattle.transcript_model.specs.declared.entry.Entry.{Entry}
use Rattle.transcript_model.specs.declared.entry.Entry.TheVariants as entry
use Rattle.transcript_model.specs.declared.head.PoolLine.{PoolLine}
use Rattle.transcript_model.specs.declared.outcome.Origin.{Origin}
use Rattle.transcript_model.specs.declared.outcome.Outcome.{Outcome}
use Rattle.transcript_model.specs.declared.outcome.Outcome.TheVariants as outcome
use Rattle.transcript_model.specs.declared.report.Report.{Report}
use Rattle.gen_lines.specs.declared.spans.TheConstants.{YIELD_TUPLES}

-- ---- numbers and names

-- a number of at most 32 bits
abbrev pub IsNumber : ℕ → Type 0
IsNumber n = n ≤ LARGEST_COUNT

-- a number of at most 8 bits
abbrev pub IsSmall : ℕ → Type 0
IsSmall n = n ≤ 255

-- a name in lower case
abbrev pub IsName : List ℕ → Type 0
IsName name = is_name name ≡ true

-- `#` and a value
abbrev pub IsGenerated : List ℕ → Type 0
IsGenerated name = (value : List ℕ) × (name ≡ generated value) × (is_value value ≡ true)

-- `@j.i`, both numbers from 1
pub record IsPlaceholder (name : List ℕ) : Type 0 where
  pub j : ℕ
  pub i : ℕ
  pub is : name ≡ placeholder j i
  pub from : (0 < j) × (0 < i)
  pub upto : IsNumber j × IsNumber i

-- a declared or a generated object
abbrev pub IsObject : List ℕ → Type 0
IsObject name = IsName name ⊎ IsGenerated name

-- an object, or what stands for one in a dream
abbrev pub IsTerm : List ℕ → Type 0
IsTerm name = IsObject name ⊎ IsPlaceholder name

-- a name, and arguments of this form
pub record IsFormedCall (IsArgument : List ℕ → Type 0) (call : Call) : Type 0 where
  pub name : IsName call.name
  pub args : All IsArgument call.args

-- ---- entries

-- At least one tuple and no more than a yield may hold, of equally many values, and one where there are no values. In
-- version 1 there is one.
pub record AreTuples (version tuples : ℕ) (values : List (List ℕ)) : Type 0 where
  pub some : 1 ≤ tuples
  pub few : tuples ≤ YIELD_TUPLES
  pub one : version ≡ 1 → tuples ≡ 1
  pub empty : length values ≡ 0 → tuples ≡ 1
  pub width : ℕ
  pub equal : length values ≡ tuples * width
  pub each : All (λ value. is_value value ≡ true) values

abbrev pub IsFormedUse : DreamUse → Type 0
IsFormedUse u = IsNumber u.number × IsFormedCall IsTerm u.call

abbrev pub IsFormedEntry : ℕ → Entry → Type 0
IsFormedEntry version (entry.Ask number turn call) =
    IsNumber number × IsNumber turn × IsFormedCall IsObject call
IsFormedEntry version (entry.Got number tuples values) =
    IsNumber number × AreTuples version tuples values
IsFormedEntry version (entry.Value number value) = IsNumber number × (value ≤ LARGEST_NUMBER)
IsFormedEntry version (entry.End number) = IsNumber number
IsFormedEntry version (entry.Dream uses steps) =
    IsNumber (length uses) × IsNumber (length steps) × All IsFormedUse uses × All (IsFormedCall IsTerm) steps
IsFormedEntry version (entry.Pick number) = IsNumber number
IsFormedEntry version (entry.Retire number) = IsNumber number
IsFormedEntry version e = Unit {0}

-- ---- outcomes

-- In version 1 the tuple isn't shown, and is 1.
pub record IsFormedOrigin (version : ℕ) (origin : Origin) : Type 0 where
  pub object : IsObject origin.object
  pub number : IsNumber origin.number
  pub tuple : IsSmall origin.tuple
  pub one : version ≡ 1 → origin.tuple ≡ 1

abbrev pub IsFormedOutcome : ℕ → Outcome → Type 0
IsFormedOutcome version (outcome.Plan steps cost from) =
    IsNumber (length steps) × (cost < 2 ^ 64) × All (IsFormedCall IsTerm) steps × All (IsFormedOrigin version) from
IsFormedOutcome version outcome.NoPlan = Unit {0}
IsFormedOutcome version (outcome.Limit kind) = Unit {0}

-- ---- reports

-- a pool has at least one stream
pub record IsFormedPool (pool : PoolLine) : Type 0 where
  pub workers : IsSmall pool.workers
  pub some : 0 < length pool.streams
  pub streams : All IsName pool.streams

-- a report whose numbers and words have a report's forms
pub record IsFormed (r : Report) : Type 0 where
  pub version : (r.version ≡ 1) ⊎ (r.version ≡ 2)
  pub calls : IsNumber r.calls
  pub states : IsNumber r.states
  pub depth : IsSmall r.depth
  pub pools : All IsFormedPool r.pools
  pub entries : All (IsFormedEntry r.version) r.entries
  pub outcome : IsFormedOutcome r.version r.outcome
