-- Which types stand under which: what `:types` lists, and its closure (PDDL 2.1). Types are their places among the
-- domain's types.
use Rattle.std.specs.Prelude.{◌≡◌, ◌<◌, ◌⊎◌, ◌↔◌, ℕ, List, map, length, Some, slice_get, Contains, codes}
use Rattle.sexpr_text.specs.Trees.{Trees, nothing, word, list}
use Rattle.form_reader.specs.declared.groups.Spot.{Spot}
use Rattle.form_reader.specs.declared.groups.Spot.TheVariants.{Start, Named, Typed}
use Rattle.name_tables.specs.Variables.{sort_of}
use Rattle.task_model.specs.declared.domain.Domain.{Domain}
use Rattle.task_model.specs.declared.domain.Sort as sort
use Rattle.table_laws.specs.Rows.{HasItem}

-- behind the `-` of a group stands this type
abbrev pub IsTypeBehind : List ℕ → Trees → Type 0
IsTypeBehind type nothing = type ≡ codes "object"
IsTypeBehind type (word text at rest) = type ≡ text
IsTypeBehind type (list items at rest) = type ≡ codes "object"

-- behind a name of a group its type is this; a group without a type has type `object`
abbrev pub EndsAs : List ℕ → Trees → Type 0
EndsAs type nothing = type ≡ codes "object"
EndsAs type (list items at rest) = type ≡ codes "object"
EndsAs type (word text at rest) =
    ((text ≡ codes "-") × IsTypeBehind type rest) ⊎ (¬ (text ≡ codes "-") × EndsAs type rest)

-- The name is one of a group in the row that has this type. The spot says what stood before: nothing of a group, a name
-- of one, or its `-`.
abbrev pub HasTyped : Spot → List ℕ → List ℕ → Trees → Type 0
HasTyped spot name type nothing = ⊥
HasTyped spot name type (list items at rest) = ⊥
HasTyped Start name type (word text at rest) = ((name ≡ text) × EndsAs type rest) ⊎ HasTyped Named name type rest
HasTyped Named name type (word text at rest) =
    ((text ≡ codes "-") × HasTyped Typed name type rest)
    ⊎ (¬ (text ≡ codes "-") × (((name ≡ text) × EndsAs type rest) ⊎ HasTyped Named name type rest))
HasTyped Typed name type (word text at rest) = HasTyped Start name type rest

-- A `:types` item lists the one under the other; that `object` is under `object` says nothing.
pub record IsListedUnder (body : Trees) (types : List (List ℕ)) (low high : ℕ) : Type 0 where
  pub row : Trees
  pub item : HasItem (codes ":types") body row
  pub name : List ℕ
  pub type : List ℕ
  pub typed : HasTyped Start name type row
  pub low_is : low ≡ sort_of types name
  pub high_is : high ≡ sort_of types type
  pub proper : ¬ ((low ≡ 0) × (high ≡ 0))

-- each type but `object`, which is the first, is under `object`, and under those that are listed so
abbrev pub IsDirectlyUnder : Trees → List (List ℕ) → ℕ → ℕ → Type 0
IsDirectlyUnder body types low high =
    ((0 < low) × (low < length types) × (high ≡ 0)) ⊎ IsListedUnder body types low high

-- directly under it, or under a type that is under it
pub data IsUnder (body : Trees) (types : List (List ℕ)) : ℕ → ℕ → Type 0 where
  directly : {low high : ℕ} → IsDirectlyUnder body types low high → IsUnder body types low high
  further : {low middle high : ℕ} → IsDirectlyUnder body types low middle → IsUnder body types middle high
      → IsUnder body types low high

-- above each type are exactly those that it is under
abbrev pub AreClosed : Trees → Domain → Type 0
AreClosed body d =
    (k : ℕ) (s : sort.Sort) → slice_get d.sorts k ≡ Some s → (b : ℕ)
    → Contains s.above b ↔ IsUnder body (map (λ (t : sort.Sort). t.name) d.sorts) k b
