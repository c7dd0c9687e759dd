-- A plain run: what incremental mode comes to, without pools, rounds, bytes or a limit of states.
use Rattle.std.specs.Prelude.{◌≡◌, ℕ, ◌+◌, ◌-◌, ◌<◌, ◌≤◌, List, [], ◌∷◌, ◌++◌, filter, length, take, Option, None, Some, count_by}
use Rattle.task_model.specs.Plans.{IsSolvable}
use Rattle.task_model.specs.Streams.{AreDue, MoreAreDue, NothingIsDue}
use Rattle.task_model.specs.declared.limits.TheConstants.{MOST_DUE}
use Rattle.task_model.specs.declared.stream.Instance.{Instance}
use Rattle.task_model.specs.declared.task.Task.{Task}
use Rattle.transcript_model.specs.Legal.{asks_of, is_answer, is_ask, is_level}
use Rattle.transcript_model.specs.Rounds.{requests}
use Rattle.transcript_model.specs.Tables.{Answers, answers_to}
use Rattle.transcript_model.specs.Transcript.{known_of, notes_of}
use Rattle.transcript_model.specs.declared.entry.Entry.{Entry}
use Rattle.transcript_model.specs.declared.entry.Entry.TheVariants as entry
use Rattle.transcript_model.specs.declared.outcome.LimitKind.{LimitKind}
use Rattle.transcript_model.specs.declared.outcome.LimitKind.TheVariants as limit
use Rattle.transcript_model.specs.declared.outcome.Outcome.{Outcome}
use Rattle.transcript_model.specs.declared.outcome.Outcome.TheVariants as outcome

-- ---- runs

-- what a plain run ends with
pub data PlainEnd : Type 0 where
  plan : PlainEnd
  no_plan : PlainEnd
  limit_calls : PlainEnd
  limit_instances : PlainEnd

-- a level: its requests, as many as calls are left, and then the answers to them
abbrev pub level_of : Task → Answers → ℕ → List Entry → List Instance → List Entry
level_of task answers calls before list =
    let asks = requests task before (take (calls - asks_of before) list) in
    entry.Level ∷ asks ++ answers_to answers asks

-- No plan exists, and these instances are due: some, and not too many.
pub record GoesOn (task : Task) (before : List Entry) (list : List Instance) : Type 0 where
  pub unsolvable : ¬ (IsSolvable task (known_of task before))
  pub due : AreDue task (known_of task before) (notes_of task before) list
  pub some : 0 < length list
  pub few : length list ≤ MOST_DUE

-- The entries of a plain run behind these, and what it ends with. The entries of a level are its requests and then its
-- answers.
pub data IsPlainRun (task : Task) (answers : Answers) (calls : ℕ) : List Entry → List Entry → PlainEnd → Type 0 where
  solved : {before : List Entry} → IsSolvable task (known_of task before)
      → IsPlainRun task answers calls before [] plan
  too_many : {before : List Entry} → ¬ (IsSolvable task (known_of task before))
      → MoreAreDue MOST_DUE task (known_of task before) (notes_of task before)
      → IsPlainRun task answers calls before [] limit_instances
  closed : {before : List Entry} → ¬ (IsSolvable task (known_of task before))
      → NothingIsDue task (known_of task before) (notes_of task before)
      → IsPlainRun task answers calls before [] no_plan
  spent : {before : List Entry} (list : List Instance) → GoesOn task before list
      → calls ≤ asks_of before → IsPlainRun task answers calls before [] limit_calls
  cut : {before : List Entry} (list : List Instance) → GoesOn task before list
      → asks_of before < calls → calls < asks_of before + length list
      → IsPlainRun task answers calls before (level_of task answers calls before list) limit_calls
  level : {before rest : List Entry} {end : PlainEnd} (list : List Instance)
      → GoesOn task before list
      → asks_of before + length list ≤ calls
      → IsPlainRun task answers calls (before ++ level_of task answers calls before list) rest end
      → IsPlainRun task answers calls before (level_of task answers calls before list ++ rest) end

-- ---- runs that are as plain ones

-- the same requests and the same answers, each in one order, and as many levels
pub record SaysSame (entries others : List Entry) : Type 0 where
  pub asks : filter is_ask entries ≡ filter is_ask others
  pub answers : filter is_answer entries ≡ filter is_answer others
  pub levels : count_by is_level entries ≡ count_by is_level others

-- what a plain run ends with where an incremental one ends so; nothing of the limit of states, which plain runs don't
-- have
abbrev pub end_of : Outcome → Option PlainEnd
end_of (outcome.Plan steps cost from) = Some plan
end_of outcome.NoPlan = Some no_plan
end_of (outcome.Limit kind) = of kind
  where
    of : LimitKind → Option PlainEnd
    of limit.Calls = Some limit_calls
    of limit.Instances = Some limit_instances
    of limit.States = None

-- There is a plain run that says the same, knows the same in the end, and ends in the same way.
pub record IsAsPlain (task : Task) (answers : Answers) (calls : ℕ) (entries : List Entry) (o : Outcome) : Type 0 where
  pub plain : List Entry
  pub end : PlainEnd
  pub run : IsPlainRun task answers calls [] plain end
  pub same : SaysSame entries plain
  pub known : known_of task entries ≡ known_of task plain
  pub ends : end_of o ≡ Some end
