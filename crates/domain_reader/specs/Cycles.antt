-- The cycles of a domain's types and of its derived predicates.
use Rattle.std.specs.Prelude.{◌≡◌, ℕ, zero, suc, ◌+◌, Bool, true, false, ◌&&◌, not, ◌==◌, if◌then◌else◌, List, [], ◌∷◌, ◌++◌, Option, Some, None}
use Rattle.sexpr_text.specs.Trees.{Trees, nothing, word, list}
use Rattle.task_model.specs.declared.domain.Sort as sort
use Rattle.form_reader.specs.declared.groups.Spot.{Spot}
use Rattle.form_reader.specs.declared.groups.Spot.TheVariants.{Start}
use Rattle.form_reader.specs.declared.items.Item.{Item}
use Rattle.form_reader.specs.declared.items.Item.TheVariants as item
use Rattle.form_reader.specs.declared.items.TextKind.TheVariants.{Domain}
use Rattle.form_reader.specs.Items.{item_of}
use Rattle.form_reader.specs.Rows.{after_word, head_of, tail_of}
use Rattle.name_tables.specs.Declarations.{number_put}
use Rattle.name_tables.specs.Graphs.{AreReached, ascending}
use Rattle.name_tables.specs.Names.{has_name, table_place}
use Rattle.name_tables.specs.Variables.{is_named, named_sorts, named_words, seen_after, seen_with, sort_of}
use Rattle.domain_reader.specs.Tables.{headed, is_derived_item}
use Rattle.name_tables.specs.declared.cycles.Candidate.{Candidate}

-- ---- types

abbrev pub is_types : Item → Bool
is_types item.Types = true
is_types _ = false

-- each type but `object`, which is the first, is under `object`
abbrev pub under_object : List (List ℕ) → List (List ℕ)
under_object [] = []
under_object (n ∷ ns) = (0 ∷ []) ∷ under_object ns

-- what the type of this number is under before `:types` is read
abbrev pub first_edge : ℕ → List ℕ
first_edge zero = []
first_edge (suc k) = 0 ∷ []

abbrev pub first_edges : List (List ℕ) → List (List ℕ)
first_edges [] = []
first_edges (n ∷ ns) = [] ∷ under_object ns

-- To list `object` under `object` says nothing.
abbrev pub edge_put : List (List ℕ) → ℕ → ℕ → List (List ℕ)
edge_put edges below above =
    if (below == 0) && (above == 0) then edges else number_put edges below above

-- each listed type with the type beside it
abbrev pub edges_each : (sorts edges : List (List ℕ)) → List (List ℕ) → List ℕ → List (List ℕ)
edges_each sorts edges [] above = edges
edges_each sorts edges (n ∷ ns) [] = edges
edges_each sorts edges (n ∷ ns) (a ∷ above) =
    edges_each sorts (edge_put edges (sort_of sorts n) a) ns above

abbrev pub edges_in : (sorts edges : List (List ℕ)) → Trees → List (List ℕ)
edges_in sorts edges nothing = edges
edges_in sorts edges (word text at rest) = edges_in sorts edges rest
edges_in sorts edges (list items at rest) =
    edges_in sorts (if is_types (item_of Domain (head_of items))
    then edges_each sorts edges (named_words Start (tail_of items)) (named_sorts sorts Start 0 (tail_of items))
    else edges) rest

-- what each type is directly under
abbrev pub type_edges : List (List ℕ) → Trees → List (List ℕ)
type_edges sorts body = edges_in sorts (first_edges sorts) body

-- the first listing of each type
abbrev pub listed_word : (sorts seen : List (List ℕ)) → Spot → List ℕ → ℕ → List Candidate
listed_word sorts seen spot text at =
    if is_named spot text
    && not (has_name text seen) then record { node = sort_of sorts text; place = at } ∷ [] else []

abbrev pub listed_row : (sorts seen : List (List ℕ)) → Spot → Trees → List Candidate
listed_row sorts seen spot nothing = []
listed_row sorts seen spot (word text at rest) =
    listed_word sorts seen spot text at
    ++ listed_row sorts (seen_with seen spot text) (after_word spot text) rest
listed_row sorts seen spot (list items at rest) = []

abbrev pub listed_in : (sorts seen : List (List ℕ)) → Trees → List Candidate
listed_in sorts seen nothing = []
listed_in sorts seen (word text at rest) = listed_in sorts seen rest
listed_in sorts seen (list items at rest) =
    (if is_types (item_of Domain (head_of items)) then listed_row sorts seen Start (tail_of items) else [])
    ++ listed_in sorts
    (if is_types (item_of Domain (head_of items)) then seen_after seen Start (tail_of items) else seen) rest

-- all proper supertypes of a type, ascending
pub record IsAbove (edges : List (List ℕ)) (k : ℕ) (above : List ℕ) : Type 0 where
  pub reached : List ℕ
  pub right : AreReached edges k reached
  pub sorted : above ≡ ascending [] reached

-- the types from the one of this number on, as the task has them
pub data AreSorts (edges : List (List ℕ)) : ℕ → List (List ℕ) → List sort.Sort → Type 0 where
  no_sorts : {k : ℕ} → AreSorts edges k [] []
  more_sorts : {k : ℕ} {name : List ℕ} {names : List (List ℕ)} {above : List ℕ} {ss : List sort.Sort}
      → IsAbove edges k above → AreSorts edges (k + 1) names ss
      → AreSorts edges k (name ∷ names) (record { name = name; above = above } ∷ ss)

-- ---- derived predicates

-- a predicate depends on one that is there
abbrev pub mention_put : List (List ℕ) → ℕ → Option ℕ → List (List ℕ)
mention_put edges from None = edges
mention_put edges from (Some pred) = number_put edges from pred

-- the predicates that head lists of these trees, however deep
abbrev pub mentions_in : (predicates edges : List (List ℕ)) → ℕ → Trees → List (List ℕ)
mentions_in predicates edges from nothing = edges
mentions_in predicates edges from (word text at rest) = mentions_in predicates edges from rest
mentions_in predicates edges from (list items at rest) =
    mentions_in predicates
    (mentions_in predicates (mention_put edges from (table_place (head_of items) predicates)) from items) from rest

abbrev pub no_edges : List (List ℕ) → List (List ℕ)
no_edges [] = []
no_edges (n ∷ ns) = [] ∷ no_edges ns

-- the predicate of a `:derived` item, if it is there
abbrev pub derived_place : List (List ℕ) → Trees → Option ℕ
derived_place predicates items =
    if is_derived_item (item_of Domain (head_of items)) then table_place (headed items) predicates else None

abbrev pub body_put : (predicates edges : List (List ℕ)) → Option ℕ → Trees → List (List ℕ)
body_put predicates edges None body = edges
body_put predicates edges (Some pred) body = mentions_in predicates edges pred body

abbrev pub bodies_in : (predicates edges : List (List ℕ)) → Trees → List (List ℕ)
bodies_in predicates edges nothing = edges
bodies_in predicates edges (word text at rest) = bodies_in predicates edges rest
bodies_in predicates edges (list items at rest) =
    bodies_in predicates (body_put predicates edges (derived_place predicates items) (tail_of (tail_of items))) rest

-- what each predicate depends on directly
abbrev pub derived_edges : List (List ℕ) → Trees → List (List ℕ)
derived_edges predicates body = bodies_in predicates (no_edges predicates) body

abbrev pub derived_item : Option ℕ → ℕ → List Candidate
derived_item None at = []
derived_item (Some pred) at = record { node = pred; place = at } ∷ []

-- each `:derived` item
abbrev pub derived_in : List (List ℕ) → Trees → List Candidate
derived_in predicates nothing = []
derived_in predicates (word text at rest) = derived_in predicates rest
derived_in predicates (list items at rest) =
    derived_item (derived_place predicates items) at ++ derived_in predicates rest
