-- Names and their places in tables.
use Rattle.std.proofs.Common.{◌≡◌, ℕ, suc, ◌+◌, ◌<◌, ◌≤◌, Bool, true, false, not, cond, ◌||◌, nat_lt, List, [], ◌∷◌, ◌++◌, length, get_or, refl, sym, ap, ◌∙◌, arith, Option, Some, None, slice_get, lt-ltb}
use Rattle.std.specs.List.{list_any, position_or_len}
use Rattle.std.specs.Str.{bytes_eq}
use Rattle.std.proofs.lemmas.Bool.{cond-true, false≢true, or_left}
use Rattle.std.proofs.lemmas.List.Quantifiers.{position-Some}
use Rattle.std.proofs.lemmas.Option.{slice_get-get_or}
use Rattle.std.proofs.lemmas.Slice.Eq.{bytes_eq-Decides}
use Rattle.std.proofs.lemmas.Map.Keys.{any_passes_from_place}
use Rattle.lemmas.proofs.ListTests.{any_found, any_append_right}
use Rattle.lemmas.proofs.Positions.{any_within}
use Rattle.lemmas.specs.Lists.{AreDistinct}
use Rattle.name_tables.specs.Names.{has_name, last_place, table_place, with_table_name}

pub same_name : (n m : List ℕ) → bytes_eq n m ≡ true → n ≡ m
same_name n m e = (bytes_eq-Decides n m).0 e

pub name_itself : (n m : List ℕ) → n ≡ m → bytes_eq n m ≡ true
name_itself n m e = (bytes_eq-Decides n m).1 e

-- ---- the place of a name

first_within : {A : Type 0} (p : A → Bool) (xs : List A) → list_any p xs ≡ true
    → position_or_len p xs < length xs
first_within p [] e = absurd (cc)
first_within p (x ∷ xs) e =
    elim (p x) as (λ b. (b || list_any p xs) ≡ true → cond (not b) (1 + position_or_len p xs) 0 < suc (length xs)) [
      | true ↦ λ _. omega arith
      | false ↦ λ rest. omega (arith, first_within p xs rest)
    ] e

pub place_there : (name : List ℕ) (names : List (List ℕ)) → has_name name names ≡ true
    → (i : ℕ) × (table_place name names ≡ Some i)
place_there name names e = (
  position_or_len (bytes_eq name) names,
  cond-true (nat_lt (position_or_len (bytes_eq name) names) (length names))
      (Some (position_or_len (bytes_eq name) names)) None (lt-ltb _ _ (first_within (bytes_eq name) names e)),
)

turned : (b : Bool) (n : ℕ) → cond b (Some n) None ≡ cond (not b) None (Some n)
turned true n = refl
turned false n = refl

-- what a table answers where a name is put in: whether it is new, and its place
pub place_put : (name : List ℕ) (names : List (List ℕ)) (place : ℕ) (fresh : Bool)
    → fresh ≡ not (has_name name names) → place ≡ position_or_len (bytes_eq name) names
    → table_place name names ≡ cond fresh None (Some place)
place_put name names place fresh is at =
    ap (λ b. cond b (Some (position_or_len (bytes_eq name) names)) None) (sym (any_within (bytes_eq name) names))
    ∙ turned (has_name name names) (position_or_len (bytes_eq name) names)
    ∙ (λ i. cond (sym is i) None (Some (sym at i)))

pub place_within : (name : List ℕ) (names : List (List ℕ)) (i : ℕ) → table_place name names ≡ Some i
    → i < length names
place_within name names i e = (position-Some (bytes_eq name) names i [] e).0

pub place_named : (name : List ℕ) (names : List (List ℕ)) (i : ℕ) → table_place name names ≡ Some i
    → slice_get names i ≡ Some name
place_named name names i e =
    let found = position-Some (bytes_eq name) names i [] e in
    slice_get-get_or names i [] found.0 ∙ ap Some (sym (same_name name (get_or names i []) found.1))

pub name_there : (name : List ℕ) (names : List (List ℕ)) (i : ℕ) → slice_get names i ≡ Some name
    → has_name name names ≡ true
name_there name names i e =
    any_passes_from_place (bytes_eq name) names i name e (name_itself name name refl)

pub name_found : (name : List ℕ) (names : List (List ℕ)) → has_name name names ≡ true
    → (i : ℕ) × (slice_get names i ≡ Some name)
name_found name names e =
    let found = any_found (bytes_eq name) names e in (found.0, found.2 ∙ ap Some (sym (same_name name found.1 found.3)))

pub place_is : (name : List ℕ) (names : List (List ℕ)) (i : ℕ) → AreDistinct names
    → slice_get names i ≡ Some name → table_place name names ≡ Some i
place_is name names i distinct at =
    let found = place_there name names (name_there name names i at) in
    found.1 ∙ ap Some (distinct found.0 i name (place_named name names found.0 found.1) at)

-- ---- the last place of a name

pub last_within : (at : ℕ) (so_far : Option ℕ) (name : List ℕ) (names : List (List ℕ)) (size : ℕ)
    → ((k : ℕ) → so_far ≡ Some k → k < size) → at + length names ≤ size → (k : ℕ)
    → last_place at so_far name names ≡ Some k → k < size
last_within at so_far name [] size low fits k e = low k e
last_within at so_far name (n ∷ ns) size low fits k e =
    last_within (at + 1) (cond (bytes_eq n name) (Some at) so_far) name ns size (here (bytes_eq n name)) (omega arith) k e
  where
    here : (b : Bool) (m : ℕ) → cond b (Some at) so_far ≡ Some m → m < size
    here true m f = let same : at ≡ m = cc in omega arith
    here false m f = low m f

-- no place only where the name isn't there
pub last_none : (at : ℕ) (so_far : Option ℕ) (name : List ℕ) (names : List (List ℕ))
    → last_place at so_far name names ≡ None → (so_far ≡ None) × (has_name name names ≡ false)
last_none at so_far name [] e = (e, refl)
last_none at so_far name (n ∷ ns) e =
    let rest = last_none (at + 1) (cond (bytes_eq n name) (Some at) so_far) name ns e in
    elim (bytes_eq n name) as
    (λ b. bytes_eq n name ≡ b → cond b (Some at) so_far ≡ None → (so_far ≡ None) × ((bytes_eq name n || has_name name ns) ≡ false)) [
      | true ↦ λ _ f. absurd (cc)
      | false ↦ λ other f. (f, other_name other rest.1)
    ] refl rest.0
  where
    other_name : bytes_eq n name ≡ false → has_name name ns ≡ false
        → (bytes_eq name n || has_name name ns) ≡ false
    other_name other none =
        elim (bytes_eq name n) as (λ b. bytes_eq name n ≡ b → (b || has_name name ns) ≡ false) [
          | true ↦ λ t. absurd (false≢true (sym other ∙ name_itself n name (sym (same_name name n t))))
          | false ↦ λ _. none
        ] refl

-- a name stands in a table that it was put into
pub has_with : (names : List (List ℕ)) (name : List ℕ) → has_name name (with_table_name names name) ≡ true
has_with names name =
    elim (has_name name names) as (λ b. has_name name names ≡ b → has_name name (cond b names (names ++ name ∷ [])) ≡ true) [
      | true ↦ λ t. t
      | false ↦ λ _. any_append_right (bytes_eq name) names (name ∷ []) (or_left (bytes_eq name name) false (name_itself name name refl))
    ] refl
