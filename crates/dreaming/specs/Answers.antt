-- What a dream answers.
use Rattle.std.specs.Prelude.{◌≡◌, ℕ, ◌+◌, ◌<◌, ◌≤◌, ◌⊎◌, List, [], map, length, Some, slice_get}
use Rattle.std.specs.Ordering.{nat_cmp}
use Rattle.lemmas.specs.Lists.{AreAscending}
use Rattle.optimistic_set.specs.Dreamable.{Dreamable}
use Rattle.task_model.specs.Dreams as dreams
use Rattle.task_model.specs.Dreams.{supposing, instances_of, HaveSupport, without_entry}
use Rattle.task_model.specs.Plans.{IsValid, IsSolvable, IsFar}
use Rattle.task_model.specs.declared.limits.TheConstants.{MOST_SUPPOSED}
use Rattle.task_model.specs.declared.stream.Instance.{Instance}
use Rattle.task_model.specs.declared.task.GroundAction.{GroundAction}
use Rattle.task_model.specs.declared.task.Task.{Task}
use Rattle.transcript_model.specs.Calls.{call_of_step}
use Rattle.transcript_model.specs.Dreaming.{MoreAreSupposed, AreSupposedAfter, IsDreamAfter}
use Rattle.transcript_model.specs.Names.{call_of_instance}
use Rattle.transcript_model.specs.Rounds.{Limits}
use Rattle.transcript_model.specs.Transcript.{known_of, notes_of}
use Rattle.transcript_model.specs.declared.entry.Call.{Call}
use Rattle.transcript_model.specs.declared.entry.DreamUse.{DreamUse}
use Rattle.transcript_model.specs.declared.entry.Entry.{Entry}
use Rattle.dreaming.specs.declared.answer.Dreamt.{Dreamt}
use Rattle.dreaming.specs.declared.answer.Dreamt.TheVariants.{Dream, Empty}

-- ---- after a transcript

module _ (limits : Limits) (task : Task) (before : List Entry) (tried : List Instance) where
  -- No plan rests on what is supposed: there would be too many entries, or no plan exists over the list, or more
  -- states are reached there than the limit allows, and so many also within the steps of any plan.
  abbrev pub HasSureNoDreamAfter : Type 0
  HasSureNoDreamAfter =
      MoreAreSupposed MOST_SUPPOSED task (known_of task before) (notes_of task before) tried limits.depth
      ⊎ ((list : List dreams.SupposedEntry) × AreSupposedAfter limits task before tried list
      × ((¬ (IsSolvable task (supposing task (known_of task before) list list)))
      ⊎ IsFar task (supposing task (known_of task before) list list) limits.states))

  -- where entries are used, it is a dream
  abbrev pub IsDreamed : Dreamt → Type 0
  IsDreamed (Dream uses steps entries plan cost) =
      0 < length uses → IsDreamAfter limits task before tried uses steps entries.items
  IsDreamed Empty = Unit {0}

  -- where none is answered, there is surely none
  abbrev pub IsSureNone : Dreamt → Type 0
  IsSureNone (Dream uses steps entries plan cost) = Unit {0}
  IsSureNone Empty = HasSureNoDreamAfter

-- where none is used, the plan is valid by what is known after the transcript, at this cost
abbrev pub IsKnownPlan : Task → List Entry → Dreamt → Type 0
IsKnownPlan task before (Dream uses steps entries plan cost) =
    uses ≡ [] → (entries.items ≡ []) × IsValid task (known_of task before) plan.steps cost
IsKnownPlan task before Empty = Unit {0}

-- at most so many steps
abbrev pub HasFewDreamSteps : ℕ → Dreamt → Type 0
HasFewDreamSteps most (Dream uses steps entries plan cost) = (length plan.steps ≤ most) × (length steps ≤ most)
HasFewDreamSteps most Empty = Unit {0}

-- ---- over a list

-- The entries are some of the list in its order, each with support, and the plan is valid with them at this cost, but
-- not without any one of them. So are the uses and the steps, by name.
pub record ShowsThin (task : Task) (d : Dreamable) (uses : List DreamUse) (steps : List Call)
    (entries : List dreams.SupposedEntry) (plan : List GroundAction) (cost : ℕ) : Type 0 where
  pub places : List ℕ
  pub ascend : AreAscending nat_cmp places
  pub chosen : map (slice_get d.list) places ≡ map Some entries
  pub support : HaveSupport task d.base d.list entries
  pub valid : IsValid task (supposing task d.base d.list entries) plan cost
  pub needed : (place other : ℕ) → place < length entries
      → ¬ (IsValid task (supposing task d.base d.list (without_entry task d.base d.list entries place)) plan other)
  pub numbers : map (λ (u : DreamUse). u.number) uses ≡ map (λ place. place + 1) places
  pub calls : map (λ (u : DreamUse). u.call) uses
      ≡ map (call_of_instance task d.known.names) (instances_of entries)
  pub shown : steps ≡ map (call_of_step task d.known.names) plan

-- such a plan, with these steps
abbrev pub IsThinDream : Task → Dreamable → List GroundAction → Dreamt → Type 0
IsThinDream task d all (Dream uses steps entries plan cost) =
    ShowsThin task d uses steps entries.items plan.steps cost × (plan.steps ≡ all)
IsThinDream task d all Empty = ⊥

-- Such a plan, of at most so many steps; or surely none.
abbrev pub ComesOfList : Task → Dreamable → ℕ → Dreamt → Type 0
ComesOfList task d most (Dream uses steps entries plan cost) =
    ShowsThin task d uses steps entries.items plan.steps cost × (length plan.steps ≤ most)
ComesOfList task d most Empty = (¬ (IsSolvable task d.known)) ⊎ IsFar task d.known most
