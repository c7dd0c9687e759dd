-- Leaving out entries that a plan doesn't need.
use Rattle.std.specs.Prelude.{◌≡◌, ℕ, ◌+◌, ◌<◌, ◌^◌, List, [], ◌∷◌, ◌++◌, length, take, drop, get_or, Bool, true, false, All, Contains, Option, None, Some, slice_get, if◌then◌else◌}
use Rattle.std.specs.Ordering.{nat_cmp}
use Rattle.lemmas.specs.Lists.{AreAscending}
use Rattle.optimistic_set.specs.Dreamable.{Dreamable}
use Rattle.task_model.specs.Dreams.{SupposedEntry, is_supported, supposing, HaveSupport}
use Rattle.task_model.specs.Known.{Known}
use Rattle.task_model.specs.Plans.{IsValid}
use Rattle.task_model.specs.declared.task.GroundAction.{GroundAction}
use Rattle.task_model.specs.declared.task.Task.{Task}
use Rattle.dreaming.specs.Parts.{Portion, IsListing, IsPortion, entries_at}
use Rattle.dreaming.specs.declared.trial.Kept.{Kept}
use Rattle.dreaming.specs.declared.trial.Trial.{Trial}
use Rattle.dreaming.specs.declared.wanted.Wanted.{Wanted}

-- ---- places

module _ (task : Task) (known : Known) (list : List SupposedEntry) where
  -- the entry at this place has support behind those at these places
  abbrev pub has_support : List ℕ → ℕ → Bool
  has_support places place = of (slice_get list place)
    where
      of : Option SupposedEntry → Bool
      of (Some e) = is_supported task known list (entries_at list places) e
      of None = false

  -- these places, and behind them those of the others that still have support
  abbrev pub supported_places : List ℕ → List ℕ → List ℕ
  supported_places kept [] = kept
  supported_places kept (place ∷ rest) =
      if has_support kept place then supported_places (kept ++ place ∷ []) rest else supported_places kept rest

  -- the places without those from here up to there, and without those that lack support then
  abbrev pub places_without : List ℕ → ℕ → ℕ → List ℕ
  places_without places from to = supported_places (take from places) (drop to places)

-- a part of the list that has the entries at these places
pub record IsPartAt (task : Task) (d : Dreamable) (places : List ℕ) (p : Portion) : Type 0 where
  pub part : IsPortion task p
  pub base : p.base ≡ d.base
  pub list : p.list ≡ d.list
  pub places_are : p.places ≡ places

-- the entries at the first places, and behind them those of the others that have support by then
abbrev pub IsFilled : Task → Dreamable → List ℕ → List ℕ → Portion → Type 0
IsFilled task d first others p = IsPartAt task d (supported_places task d.base d.list first others) p

-- ---- a plan

-- the plan with the entries at these places is valid at this cost
abbrev pub IsValidWith : Task → Dreamable → List GroundAction → List ℕ → ℕ → Type 0
IsValidWith task d steps places cost =
    IsValid task (supposing task d.base d.list (entries_at d.list places)) steps cost

module _ (task : Task) (d : Dreamable) (steps : List GroundAction) where
  -- Places of the list in its order, whose entries have support each by those before it, and with which the plan is
  -- valid.
  pub record IsKeptOf (k : Kept) : Type 0 where
    pub below : All (λ place. place < length d.list) k.places.items
    pub ascend : AreAscending nat_cmp k.places.items
    pub support : HaveSupport task d.base d.list (entries_at d.list k.places.items)
    pub valid : IsValidWith task d steps k.places.items k.cost

  -- without those from here up to there the plan isn't valid
  abbrev pub AreNeededOf : List ℕ → ℕ → ℕ → Type 0
  AreNeededOf places from to =
      (cost : ℕ) → ¬ (IsValidWith task d steps (places_without task d.base d.list places from to) cost)

  -- With the first places, and behind them those of the others that have support by then, the plan is valid and they
  -- are kept; or it isn't valid with them.
  abbrev pub IsTriedOf : List ℕ → List ℕ → Option Kept → Type 0
  IsTriedOf first others (Some k) =
      (k.places.items ≡ supported_places task d.base d.list first others)
      × IsValidWith task d steps k.places.items k.cost
  IsTriedOf first others None =
      (cost : ℕ) → ¬ (IsValidWith task d steps (supported_places task d.base d.list first others) cost)

  -- and none can be left out
  pub record IsThinOf (k : Kept) : Type 0 where
    pub kept : IsKeptOf k
    pub needed : (place : ℕ) → place < length k.places.items → AreNeededOf k.places.items place (place + 1)

-- ---- what can't be left out

abbrev pub IsWanted : Wanted → ℕ → Type 0
IsWanted w object = get_or w.flags.items object false ≡ true

-- an output of the entry at this place is wanted
abbrev pub HasWanted : Dreamable → Wanted → ℕ → Type 0
HasWanted d w place =
    (e : SupposedEntry) × (slice_get d.list place ≡ Some e) × (object : ℕ) × Contains e.outputs object
    × IsWanted w object

module _ (task : Task) (d : Dreamable) (steps : List GroundAction) where
  -- this place is among any places whose entries have support, and with which the plan is valid
  abbrev pub IsEssential : ℕ → Type 0
  IsEssential place =
      (places : List ℕ) (cost : ℕ) → All (λ p. p < length d.list) places
      → HaveSupport task d.base d.list (entries_at d.list places) → IsValidWith task d steps places cost
      → Contains places place

  -- so is the place of the entry that has a wanted object among its outputs
  abbrev pub AreEssential : Wanted → Type 0
  AreEssential w =
      (object : ℕ) → IsWanted w object → (place : ℕ) (e : SupposedEntry) → slice_get d.list place ≡ Some e
      → Contains e.outputs object → IsEssential place

-- ---- a trial

-- The list is one of what is supposed, the plan is short enough to be checked, and entries with a wanted output
-- can't be left out.
pub record IsTrial (t : Trial) : Type 0 where
  pub listed : IsListing t.listing
  pub few : length t.plan.now.steps < 2 ^ 26
  pub essential : AreEssential t.listing.task.now t.listing.supposed.now t.plan.now.steps t.wanted.now

abbrev pub TrialKeeps : Trial → Kept → Type 0
TrialKeeps t k = IsKeptOf t.listing.task.now t.listing.supposed.now t.plan.now.steps k

abbrev pub IsTried : Trial → List ℕ → List ℕ → Option Kept → Type 0
IsTried t first others found =
    IsTriedOf t.listing.task.now t.listing.supposed.now t.plan.now.steps first others found

abbrev pub TrialNeeds : Trial → List ℕ → ℕ → ℕ → Type 0
TrialNeeds t places from to = AreNeededOf t.listing.task.now t.listing.supposed.now t.plan.now.steps places from to

-- each of them is needed
abbrev pub AreSingleNeeded : Trial → List ℕ → Type 0
AreSingleNeeded t places = (place : ℕ) → place < length places → TrialNeeds t places place (place + 1)

abbrev pub IsThin : Trial → Kept → Type 0
IsThin t k = IsThinOf t.listing.task.now t.listing.supposed.now t.plan.now.steps k
