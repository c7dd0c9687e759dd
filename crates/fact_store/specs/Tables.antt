-- Tables by which facts are found: for each key the places of the facts that have it, among the first facts, which the
-- table covers.
use Rattle.std.specs.Prelude.{◌≡◌, ℕ, ◌≤◌, Bool, false, ◌&&◌, ◌==◌, List, [], ◌∷◌, map, filter, take, length, Option, None, Some, slice_get}
use Rattle.indexmap.specs.IndexMap.{IndexMap, get}
use Rattle.smallvec.specs.SmallVec.{SmallVec}
use Rattle.task_model.specs.declared.fact.Fact.{Fact}
use Rattle.task_model.specs.declared.fact.Kind.{Kind}
use Rattle.task_model.specs.declared.fact.Kind.TheVariants.{Predicate, Sort}
use Rattle.fact_store.specs.declared.table.Group.{Group}
use Rattle.fact_store.specs.declared.table.Group.TheVariants.{Objects, AtomsAt}
use Rattle.fact_store.specs.declared.table.Table.{Table}

-- a name with an object, or with 0 where the name alone counts
abbrev pub Key : Type 0
Key = ℕ × ℕ

abbrev pub same_key : Key → Key → Bool
same_key a b = (a.0 == b.0) && (a.1 == b.1)

-- the key of a fact, if it belongs to the group
abbrev pub group_key : Group → Fact → Option Key
group_key group fact = of group fact.kind fact.args
  where
    with : Option ℕ → Option Key
    with (Some object) = Some (fact.name, object)
    with None = None

    of : Group → Kind → List ℕ → Option Key
    of Objects Sort (object ∷ []) = Some (fact.name, 0)
    of (AtomsAt place) Predicate args = with (slice_get args place)
    of group kind args = None

abbrev pub is_key : Option Key → Key → Bool
is_key (Some key) q = same_key key q
is_key None q = false

abbrev pub has_key : Group → Key → Fact → Bool
has_key group q fact = is_key (group_key group fact) q

-- the facts of the group with this key
abbrev pub facts_with : Group → Key → List Fact → List Fact
facts_with group q facts = filter (has_key group q) facts

abbrev pub places_found : Option (SmallVec ℕ) → List ℕ
places_found (Some places) = places.items
places_found None = []

-- the places that were noted under a key
abbrev pub places_in : {S : Type 0} → IndexMap Key (SmallVec ℕ) S → Key → List ℕ
places_in lists q = places_found (get same_key lists q)

-- The table is right about the first `done` facts: under each key stand the places of those that have it, in turn.
pub record Covers (group : Group) (facts : List Fact) (table : Table) : Type 0 where
  pub within : table.done ≤ length facts
  pub places : (q : Key)
      → map (slice_get facts) (places_in table.lists q) ≡ map Some (facts_with group q (take table.done facts))

-- The tables of the places of arguments cover a front each.
abbrev pub CoverPlaces : List Fact → List Table → Type 0
CoverPlaces facts tables =
    (place : ℕ) (table : Table) → slice_get tables place ≡ Some table
    → Covers (AtomsAt place) facts table

-- Each table of a store covers a front of its facts.
pub record AreCovered (facts : List Fact) (by_type : Table) (by_place : List Table) : Type 0 where
  pub objects : Covers Objects facts by_type
  pub atoms_at : CoverPlaces facts by_place
