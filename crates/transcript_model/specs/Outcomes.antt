-- What an outcome claims, and where it may stand.
use Rattle.std.specs.Prelude.{◌≡◌, ℕ, ◌+◌, ◌/◌, ◌≤◌, ◌⊎◌, ◌↔◌, ◌==◌, List, map, length, Bool, true, false, ◌&&◌, Option, None, Some, Contains, if◌then◌else◌}
use Rattle.std.specs.List.{list_any, position}
use Rattle.std.specs.Option.{option_map}
use Rattle.std.specs.Ordering.{nat_cmp}
use Rattle.std.specs.Cmp.Lexicographic.{slice_cmp}
use Rattle.task_model.specs.Known.{same_numbers}
use Rattle.lemmas.specs.Lists.{AreAscending}
use Rattle.task_model.specs.Plans.{IsValid, IsSolvable, IsReached, MoreThan}
use Rattle.task_model.specs.Streams.{IsDue, MoreAreDue}
use Rattle.task_model.specs.declared.limits.TheConstants.{MOST_DUE}
use Rattle.task_model.specs.declared.stream.Instance.{Instance}
use Rattle.task_model.specs.declared.task.GroundAction.{GroundAction}
use Rattle.task_model.specs.declared.task.Task.{Task}
use Rattle.transcript_model.specs.Calls.{call_of_step}
use Rattle.transcript_model.specs.Legal.{IsClosed, HasNoneOpen, asks_of}
use Rattle.transcript_model.specs.Names.{generated}
use Rattle.transcript_model.specs.Rounds.{Limits}
use Rattle.transcript_model.specs.Transcript.{names_of, known_of, notes_of, tuples_in}
use Rattle.transcript_model.specs.Turns.{Stage, between, after_cut}
use Rattle.transcript_model.specs.declared.entry.Call.{Call}
use Rattle.transcript_model.specs.declared.entry.Entry.{Entry}
use Rattle.transcript_model.specs.declared.entry.Entry.TheVariants as entry
use Rattle.transcript_model.specs.declared.head.Mode.TheVariants.{Incremental}
use Rattle.transcript_model.specs.declared.outcome.LimitKind.TheVariants.{Calls, States, Instances}
use Rattle.transcript_model.specs.declared.outcome.Origin.{Origin}
use Rattle.transcript_model.specs.declared.outcome.Outcome.{Outcome}
use Rattle.transcript_model.specs.declared.outcome.Outcome.TheVariants as outcome

-- ---- where generated objects came from

-- the number, from 1, of the first of so many tuples that has the value, if the entry is a yield that answers this
-- request
abbrev pub tuple_with : List ℕ → ℕ → Entry → Option ℕ
tuple_with value n (entry.Got number tuples values) =
    if n == number
    then option_map (λ place. place + 1)
    (position (list_any (same_numbers value)) (tuples_in (length values / tuples) tuples values))
    else None
tuple_with value n e = None

-- a yield that answers this request has the value
abbrev pub has_value : List Entry → ℕ → List ℕ → Bool
has_value entries n value = list_any (is_with n) entries
  where
    is_with : ℕ → Entry → Bool
    is_with n (entry.Got number tuples values) =
        (n == number) && list_any (same_numbers value) values
    is_with n e = false

-- An object and the first request whose answer has its value. In version 1 the tuple is 1, and else the first that has
-- it.
pub record IsOrigin (version : ℕ) (entries : List Entry) (origin : Origin) : Type 0 where
  pub value : List ℕ
  pub named : origin.object ≡ generated value
  pub there : has_value entries origin.number value ≡ true
  pub first : (n : ℕ) → has_value entries n value ≡ true → origin.number ≤ n
  pub one : version ≡ 1 → origin.tuple ≡ 1
  pub tuple : ¬ (version ≡ 1)
      → (e : Entry) × Contains entries e × (tuple_with value origin.number e ≡ Some origin.tuple)

-- the object of this name stands in the calls and is generated
abbrev pub IsUsed : List Call → List ℕ → Type 0
IsUsed calls name =
    (value : List ℕ) × (call : Call) × (name ≡ generated value) × Contains calls call × Contains call.args name

-- each generated object of the calls once, in order of bytes, with its origin
pub record AreOrigins (version : ℕ) (entries : List Entry) (calls : List Call) (from : List Origin) : Type 0 where
  pub each : (name : List ℕ)
      → Contains (map (λ (o : Origin). o.object) from) name ↔ IsUsed calls name
  pub ascend : AreAscending (slice_cmp nat_cmp) (map (λ (o : Origin). o.object) from)
  pub origins : (origin : Origin) → Contains from origin → IsOrigin version entries origin

-- ---- claims

-- The plan is valid over what is known, and its cost and its origins are as shown.
pub record IsTruePlan (version : ℕ) (task : Task) (entries : List Entry) (calls : List Call)
    (cost : ℕ) (from : List Origin) : Type 0 where
  pub steps : List GroundAction
  pub shown : calls ≡ map (call_of_step task (names_of task entries)) steps
  pub valid : IsValid task (known_of task entries) steps cost
  pub origins : AreOrigins version entries calls from

-- No plan exists, and nothing more can be asked.
pub record HasNoPlan (version : ℕ) (task : Task) (entries : List Entry) : Type 0 where
  pub closed : IsClosed version task entries
  pub unsolvable : ¬ (IsSolvable task (known_of task entries))

-- More states are reached than the limit allows; but in incremental mode nothing more can be asked either.
pub record IsPastStates (limits : Limits) (task : Task) (entries : List Entry) : Type 0 where
  pub many : MoreThan limits.states (IsReached task (known_of task entries))
  pub closed : ¬ (limits.mode ≡ Incremental) → IsClosed limits.version task entries

-- All calls are made and answered, and an instance is still due.
pub record IsPastCalls (limits : Limits) (task : Task) (entries : List Entry) : Type 0 where
  pub calls : asks_of entries ≡ limits.calls
  pub none_open : HasNoneOpen entries
  pub instance : Instance
  pub due : IsDue task (known_of task entries) (notes_of task entries) instance

-- what an outcome claims
abbrev pub IsTrueOutcome : Limits → Task → List Entry → Outcome → Type 0
IsTrueOutcome limits task entries (outcome.Plan steps cost from) =
    IsTruePlan limits.version task entries steps cost from
IsTrueOutcome limits task entries outcome.NoPlan = HasNoPlan limits.version task entries
IsTrueOutcome limits task entries (outcome.Limit Calls) = IsPastCalls limits task entries
IsTrueOutcome limits task entries (outcome.Limit States) = IsPastStates limits task entries
IsTrueOutcome limits task entries (outcome.Limit Instances) =
    MoreAreDue MOST_DUE task (known_of task entries) (notes_of task entries)

-- An outcome stands between turns, and the limit of calls also after a batch that was cut.
abbrev pub MayStand : Stage → Outcome → Type 0
MayStand stage o = (stage ≡ between) ⊎ ((stage ≡ after_cut) × (o ≡ outcome.Limit Calls))
