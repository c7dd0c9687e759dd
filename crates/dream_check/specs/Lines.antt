-- What is wrong with the lines of a dream that a report shows after a transcript.
use Rattle.std.specs.Prelude.{◌≡◌, ◌⊎◌, ℕ, ◌+◌, ◌<◌, ◌≤◌, List, map, length, take, slice_get, Some}
use Rattle.std.specs.Ordering.{nat_cmp}
use Rattle.lemmas.specs.Lists.{AreAscending}
use Rattle.shown_steps.specs.Plans.{CanRun}
use Rattle.task_model.specs.Dreams as dreams
use Rattle.task_model.specs.Dreams.{supposing, instances_of, HaveSupport}
use Rattle.task_model.specs.declared.limits.TheConstants.{MOST_SUPPOSED}
use Rattle.task_model.specs.declared.stream.Instance.{Instance}
use Rattle.task_model.specs.declared.task.Task.{Task}
use Rattle.transcript_model.specs.Dreaming.{AreSupposedAfter, IsDreamAfter}
use Rattle.transcript_model.specs.Names.{call_of_instance}
use Rattle.transcript_model.specs.Rounds.{Limits}
use Rattle.transcript_model.specs.Transcript.{known_of}
use Rattle.transcript_model.specs.declared.entry.Call.{Call}
use Rattle.transcript_model.specs.declared.entry.DreamUse.{DreamUse}
use Rattle.transcript_model.specs.declared.entry.Entry.{Entry}

module _ (limits : Limits) (task : Task) (before : List Entry) (tried : List Instance) where
  -- The uses name these entries of the list that is supposed after the transcript: by number and call, in its order,
  -- each with support by those before it.
  pub record IsChosen (uses : List DreamUse) (list entries : List dreams.SupposedEntry) : Type 0 where
    pub supposed : AreSupposedAfter limits task before tried list
    pub few : length list ≤ MOST_SUPPOSED
    pub places : List ℕ
    pub ascend : AreAscending nat_cmp places
    pub chosen : map (slice_get list) places ≡ map Some entries
    pub support : HaveSupport task (known_of task before) list entries
    pub numbers : map (λ (u : DreamUse). u.number) uses ≡ map (λ place. place + 1) places
    pub calls : map (λ (u : DreamUse). u.call) uses
        ≡ map (call_of_instance task (supposing task (known_of task before) list list).names) (instances_of entries)

  -- the uses name entries that may be used
  abbrev pub AreUsable : List DreamUse → Type 0
  AreUsable uses =
      (list : List dreams.SupposedEntry) × (entries : List dreams.SupposedEntry) × IsChosen uses list entries

  -- the calls are steps that can be taken, one after another, with the entries that the uses name
  abbrev pub CanDream : List DreamUse → List Call → Type 0
  CanDream uses calls =
      (list : List dreams.SupposedEntry) × (entries : List dreams.SupposedEntry) × IsChosen uses list entries
      × CanRun task (supposing task (known_of task before) list entries) calls

  -- ---- lines, by how many they are behind the dream's first

  -- up to this one the uses name no entries that may be used
  pub record BreaksUse (uses : List DreamUse) (offset : ℕ) : Type 0 where
    pub place : ℕ
    pub within : place < length uses
    pub wrong : ¬ (AreUsable (take (place + 1) uses))
    pub is : offset ≡ place + 1

  -- up to this one the steps can't be taken
  pub record BreaksDreamStep (uses : List DreamUse) (steps : List Call) (offset : ℕ) : Type 0 where
    pub place : ℕ
    pub within : place < length steps
    pub stuck : ¬ (CanDream uses (take (place + 1) steps))
    pub is : offset ≡ length uses + place + 1

  -- it is no dream, which is told of its last line
  abbrev pub BreaksDream : List DreamUse → List Call → ℕ → Type 0
  BreaksDream uses steps offset =
      (offset ≡ length uses + length steps)
      × ((entries : List dreams.SupposedEntry) → ¬ (IsDreamAfter limits task before tried uses steps entries))

  -- the line is wrong
  abbrev pub IsWrongLine : List DreamUse → List Call → ℕ → Type 0
  IsWrongLine uses steps offset =
      BreaksUse uses offset ⊎ (BreaksDreamStep uses steps offset ⊎ BreaksDream uses steps offset)

  -- the line is wrong, and none before it is
  abbrev pub IsFirstWrongLine : List DreamUse → List Call → ℕ → Type 0
  IsFirstWrongLine uses steps offset =
      IsWrongLine uses steps offset × ((other : ℕ) → IsWrongLine uses steps other → offset ≤ other)
