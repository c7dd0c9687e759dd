-- Some entries of a list of supposed ones.
use Rattle.std.specs.Prelude.{◌≡◌, ℕ, ◌<◌, List, length, take, All, Some, slice_get}
use Rattle.std.specs.List.{filter_map}
use Rattle.optimistic_set.specs.Dreamable.{Dreamable}
use Rattle.optimistic_set.specs.Entries.{ArePlainEntries}
use Rattle.task_model.specs.Dreams.{SupposedEntry, supposing, HasFreshOutputs, HaveSupport}
use Rattle.task_model.specs.Known.{Known, IsCoherent}
use Rattle.task_model.specs.declared.task.Task.{Task}
use Rattle.dreaming.specs.declared.taken.Listing.{Listing}

-- What is shown of them: what is known without any, the whole list, the places that they have there, and what is known
-- with them.
pub record Portion : Type 0 where
  pub base : Known
  pub list : List SupposedEntry
  pub places : List ℕ
  pub known : Known

-- the entries at these places of the list
abbrev pub entries_at : List SupposedEntry → List ℕ → List SupposedEntry
entries_at list places = filter_map (slice_get list) places

-- The list has plain entries, each with outputs of its own and with support by those before it, and what is known with
-- them all is what they suppose.
pub record IsListed (task : Task) (d : Dreamable) : Type 0 where
  pub plain : ArePlainEntries task d.base d.list
  pub fresh : (k : ℕ) (e : SupposedEntry) → slice_get d.list k ≡ Some e → HasFreshOutputs task d.base (take k d.list) e
  pub support : HaveSupport task d.base d.list d.list
  pub known : d.known ≡ supposing task d.base d.list d.list

abbrev pub IsListing : Listing → Type 0
IsListing l = IsListed l.task.now l.supposed.now

-- The entries are plain ones, and what is known with those at the places is what they suppose.
pub record IsPortion (task : Task) (p : Portion) : Type 0 where
  pub plain : ArePlainEntries task p.base p.list
  pub coherent : IsCoherent p.base
  pub below : All (λ place. place < length p.list) p.places
  pub known : p.known ≡ supposing task p.base p.list (entries_at p.list p.places)
