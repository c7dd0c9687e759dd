-- What is found of what a report says of dreams.
use Rattle.std.specs.Prelude.{◌⊎◌, ℕ, ◌+◌, ◌<◌, ◌≤◌, List, length, Bool, true, false, Option, Some, None}
use Rattle.task_model.specs.Dreams as dreams
use Rattle.task_model.specs.Dreams.{supposing}
use Rattle.task_model.specs.Known.{Known}
use Rattle.task_model.specs.Plans.{IsReached, IsSolvable, MoreThan}
use Rattle.task_model.specs.declared.limits.TheConstants.{MOST_SUPPOSED}
use Rattle.task_model.specs.declared.stream.Instance.{Instance}
use Rattle.task_model.specs.declared.task.Task.{Task}
use Rattle.transcript_model.specs.Dreaming.{AreSupposedAfter, HasNoDreamAfter, IsDreamAfter}
use Rattle.transcript_model.specs.Rounds.{Limits}
use Rattle.transcript_model.specs.Transcript.{known_of}
use Rattle.transcript_model.specs.declared.entry.Call.{Call}
use Rattle.transcript_model.specs.declared.entry.DreamUse.{DreamUse}
use Rattle.transcript_model.specs.declared.entry.Entry.{Entry}
use Rattle.dream_check.specs.Lines.{IsFirstWrongLine, IsWrongLine}
use Rattle.dream_check.specs.declared.dream.Dreamed.{Dreamed}
use Rattle.dream_check.specs.declared.dream.Dreamed.TheVariants.{Right, Use, Step, Last}

module _ (limits : Limits) (task : Task) (before : List Entry) (tried : List Instance) where
  -- ---- that there is a dream

  -- it is a dream with these entries, and none of its lines is wrong; or that line is the first that is
  abbrev pub IsDreamJudged : List DreamUse → List Call → Dreamed → Type 0
  IsDreamJudged uses steps (Right entries) =
      IsDreamAfter limits task before tried uses steps entries.items
      × ((offset : ℕ) → ¬ (IsWrongLine limits task before tried uses steps offset))
  IsDreamJudged uses steps (Use place) =
      IsFirstWrongLine limits task before tried uses steps (place + 1)
  IsDreamJudged uses steps (Step place) =
      IsFirstWrongLine limits task before tried uses steps (length uses + place + 1)
  IsDreamJudged uses steps Last =
      IsFirstWrongLine limits task before tried uses steps (length uses + length steps)

  -- ---- that there is none

  -- It isn't decided whether no plan rests on what is supposed: more than so many states are reached over a list that
  -- isn't too long, and the report allows more.
  pub record IsUndecidedNone (limit : ℕ) : Type 0 where
    pub list : List dreams.SupposedEntry
    pub supposed : AreSupposedAfter limits task before tried list
    pub few : length list ≤ MOST_SUPPOSED
    pub below : limit < limits.states
    pub many : MoreThan limit (IsReached task (supposing task (known_of task before) list list))

  -- it is true that no plan rests on what is supposed, or it is false; or it isn't decided
  abbrev pub IsNoneJudged : ℕ → Option Bool → Type 0
  IsNoneJudged limit (Some true) =
      HasNoDreamAfter limits task before tried × ¬ (IsUndecidedNone limit)
  IsNoneJudged limit (Some false) =
      ¬ (HasNoDreamAfter limits task before tried) × ¬ (IsUndecidedNone limit)
  IsNoneJudged limit None = IsUndecidedNone limit

-- ---- over a list

-- more than so many states are reached, and the report allows more
abbrev pub IsUndecided : Task → Known → ℕ → ℕ → Type 0
IsUndecided task known states limit = (limit < states) × MoreThan limit (IsReached task known)

abbrev pub IsNoneOver : Task → Known → ℕ → ℕ → Option Bool → Type 0
IsNoneOver task known states limit (Some true) =
    (¬ (IsSolvable task known) ⊎ MoreThan states (IsReached task known))
    × ¬ (IsUndecided task known states limit)
IsNoneOver task known states limit (Some false) =
    IsSolvable task known × ¬ (MoreThan states (IsReached task known))
    × ¬ (IsUndecided task known states limit)
IsNoneOver task known states limit None = IsUndecided task known states limit
