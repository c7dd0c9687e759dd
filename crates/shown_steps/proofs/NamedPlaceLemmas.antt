-- The objects with given names, one by one.
use Rattle.std.proofs.Common.{◌≡◌, ℕ, zero, suc, ◌+◌, ◌<◌, List, [], ◌∷◌, ◌++◌, map, take, length, refl, sym, ap, ◌∙◌, Option, Some, None, slice_get, Contains, option_map, option_and_then, get_or}
use Rattle.std.proofs.lemmas.List.{map-append, take_more}
use Rattle.lemmas.proofs.Members.{member_at}
use Rattle.transcript_model.proofs.NamesLemmas.{place_at}
use Rattle.transcript_model.specs.Names.{place_of, places_of}

nothing : (o : Option ℕ)
    → option_and_then (λ object. option_map (λ (objects : List ℕ). object ∷ objects) None) o ≡ None
nothing None = refl
nothing (Some a) = refl

no_place : (names : List (List ℕ)) (name : List ℕ) → ¬ (Contains names name)
    → place_of names name ≡ None
no_place names name absent = by (place_of names name) refl
  where
    by : (o : Option ℕ) → place_of names name ≡ o → place_of names name ≡ None
    by None e = e
    by (Some k) e = absurd (absent (member_at names k name (place_at names name k e)))

-- where one of the names is unknown, they have no places
pub no_places : (names more : List (List ℕ)) (k : ℕ) (name : List ℕ) → slice_get more k ≡ Some name
    → ¬ (Contains names name)
    → places_of names more ≡ None
no_places names [] k name at absent = absurd (cc)
no_places names (first ∷ more) zero name at absent =
    let same : first ≡ name = cc in
    ap (option_and_then (λ object. option_map (λ objects. object ∷ objects) (places_of names more)))
    (ap (place_of names) same ∙ no_place names name absent)
no_places names (first ∷ more) (suc k) name at absent =
    ap (λ os. option_and_then (λ object. option_map (λ objects. object ∷ objects) os) (place_of names first))
    (no_places names more k name at absent)
    ∙ nothing (place_of names first)

-- one object more
pub places_push : (names more : List (List ℕ)) (objects : List ℕ) (k o : ℕ) (name : List ℕ)
    → k < length more → name ≡ get_or more k name
    → map (slice_get names) objects ≡ map Some (take k more) → slice_get names o ≡ Some name
    → map (slice_get names) (objects ++ o ∷ []) ≡ map Some (take (k + 1) more)
places_push names more objects k o name lt is so_far here =
    map-append (slice_get names) objects (o ∷ [])
    ∙ (λ i. so_far i ++ here i ∷ [])
    ∙ sym (map-append Some (take k more) (name ∷ []))
    ∙ ap (map Some) (ap (λ n. take k more ++ n ∷ []) is ∙ sym (take_more more k name lt))
