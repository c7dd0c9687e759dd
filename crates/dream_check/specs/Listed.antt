-- What is said of a dream over a list of supposed entries.
use Rattle.std.specs.Prelude.{◌≡◌, ℕ, ◌+◌, ◌<◌, ◌≤◌, ◌⊎◌, ◌↔◌, List, [], ◌∷◌, ◌++◌, map, length, take, All, Option, Some, None}
use Rattle.std.specs.Ordering.{nat_cmp}
use Rattle.dreaming.specs.Parts.{Portion, entries_at}
use Rattle.dreaming.specs.Thinning.{IsPartAt}
use Rattle.lemmas.specs.Lists.{AreAscending}
use Rattle.optimistic_set.specs.Dreamable.{Dreamable}
use Rattle.shown_steps.specs.Plans.{CanRun, IsPlan}
use Rattle.shown_steps.specs.Runs.{StopsAtStep}
use Rattle.task_model.specs.Dreams.{supposing, instances_of, HaveSupport, without_entry}
use Rattle.task_model.specs.Known.{Known}
use Rattle.task_model.specs.declared.task.Task.{Task}
use Rattle.transcript_model.specs.Names.{call_of_instance}
use Rattle.transcript_model.specs.declared.entry.Call.{Call}
use Rattle.transcript_model.specs.declared.entry.DreamUse.{DreamUse}
use Rattle.dream_check.specs.declared.dream.Dreamed.{Dreamed}
use Rattle.dream_check.specs.declared.dream.Dreamed.TheVariants.{Right, Use, Step, Last}
use Rattle.dream_check.specs.declared.steps.Followed.{Followed}
use Rattle.dream_check.specs.declared.steps.Followed.TheVariants.{Stops, Misses, Reaches}

-- the next place is the least with which these ascend
abbrev pub IsNext : List ℕ → ℕ → Type 0
IsNext places next = (place : ℕ) → (next ≤ place) ↔ AreAscending nat_cmp (places ++ place ∷ [])

-- ---- uses

module _ (task : Task) (d : Dreamable) where
  -- The uses name the entries at these places of the list: by number and call, in its order, each with support by those
  -- before it.
  pub record AreUsed (uses : List DreamUse) (places : List ℕ) : Type 0 where
    pub below : All (λ place. place < length d.list) places
    pub ascend : AreAscending nat_cmp places
    pub support : HaveSupport task d.base d.list (entries_at d.list places)
    pub numbers : map (λ (u : DreamUse). u.number) uses ≡ map (λ place. place + 1) places
    pub calls : map (λ (u : DreamUse). u.call) uses
        ≡ map (call_of_instance task d.known.names) (instances_of (entries_at d.list places))

  abbrev pub MayBeUsed : List DreamUse → Type 0
  MayBeUsed uses = (places : List ℕ) × AreUsed uses places

  -- one use more names the entry at this place; or it names none that may be used
  abbrev pub MayBeNext : List DreamUse → List ℕ → DreamUse → Option ℕ → Type 0
  MayBeNext uses places u (Some place) =
      (place < length d.list) × AreUsed (uses ++ u ∷ []) (places ++ place ∷ [])
  MayBeNext uses places u None = ¬ (MayBeUsed (uses ++ u ∷ []))

  -- the use here names no entry that may be used, and those before it do
  pub record StopsAtUse (uses : List DreamUse) (place : ℕ) : Type 0 where
    pub within : place < length uses
    pub front : MayBeUsed (take place uses)
    pub stuck : ¬ (MayBeUsed (take (place + 1) uses))

  -- the uses so far name the entries of the part, and what may come next stands there or behind
  pub record HasTakenUses (uses : List DreamUse) (part : Portion) (next : ℕ) : Type 0 where
    pub used : AreUsed uses part.places
    pub part_at : IsPartAt task d part.places part
    pub behind : IsNext part.places next

  -- the uses stop at a place, or all name entries, which the part has
  abbrev pub AreTaken : List DreamUse → Portion → Option ℕ → Type 0
  AreTaken uses part (Some place) = StopsAtUse uses place
  AreTaken uses part None = AreUsed uses part.places × IsPartAt task d part.places part

-- ---- steps

-- where steps lead by what is known
abbrev pub IsFollowed : Task → Known → List Call → Followed → Type 0
IsFollowed task known calls (Stops place) = StopsAtStep task known calls place
IsFollowed task known calls Misses =
    CanRun task known calls × ((cost : ℕ) → ¬ (IsPlan task known calls cost))
IsFollowed task known calls Reaches = (cost : ℕ) × IsPlan task known calls cost

-- ---- dreams

module _ (task : Task) (d : Dreamable) where
  -- what is known with the entries at these places
  abbrev pub known_at : List ℕ → Known
  known_at places = supposing task d.base d.list (entries_at d.list places)

  -- without this one of the entries, and without those that lack support then, the calls are no plan
  abbrev pub IsEntryNeeded : List ℕ → List Call → ℕ → Type 0
  IsEntryNeeded places calls place =
      let others = without_entry task d.base d.list (entries_at d.list places) place in
      (cost : ℕ) → ¬ (IsPlan task (supposing task d.base d.list others) calls cost)

  abbrev pub AreEntriesNeeded : List ℕ → List Call → Type 0
  AreEntriesNeeded places calls = (place : ℕ) → place < length places → IsEntryNeeded places calls place

  -- the calls are a plan with these entries, and with none of them left out
  abbrev pub IsThinPlan : List ℕ → List Call → Type 0
  IsThinPlan places calls = ((cost : ℕ) × IsPlan task (known_at places) calls cost) × AreEntriesNeeded places calls

  -- what is said of the steps with the entries at these places
  abbrev pub IsPartJudged : List ℕ → List Call → Dreamed → Type 0
  IsPartJudged places calls (Right entries) =
      (entries.items ≡ entries_at d.list places) × IsThinPlan places calls
  IsPartJudged places calls (Use place) = ⊥
  IsPartJudged places calls (Step place) = StopsAtStep task (known_at places) calls place
  IsPartJudged places calls Last = CanRun task (known_at places) calls × ¬ (IsThinPlan places calls)

  -- a use names no entry that may be used, or all do and that is said of the steps
  abbrev pub IsJudgedOver : List DreamUse → List Call → Dreamed → Type 0
  IsJudgedOver uses calls dreamed =
      ((place : ℕ) × (dreamed ≡ Use place) × StopsAtUse task d uses place)
      ⊎ ((places : List ℕ) × AreUsed task d uses places × IsPartJudged places calls dreamed)
