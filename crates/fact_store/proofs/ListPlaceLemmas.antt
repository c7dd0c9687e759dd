-- Where the list of a key stands among the lists of a table.
use Rattle.std.proofs.Common.{◌≡◌, ℕ, zero, suc, true, false, cond, ◌==◌, List, [], ◌∷◌, ◌++◌, slice_get, refl, sym, ap, subst, ◌∙◌, None, Some, is_some, option_map, true≢false}
use Rattle.std.proofs.lemmas.Bool.{and_from}
use Rattle.std.proofs.lemmas.Map.Entries.{lookup_from_place}
use Rattle.std.proofs.lemmas.Option.{same_Some, slice_get-map}
use Rattle.std.specs.Bool.{Decides}
use Rattle.std.specs.Cmp.{IsEquivalence, decided, unsigned_Decides}
use Rattle.std.specs.Map.{keys_of, lookup_key, values_of}
use Rattle.indexmap.proofs.CallerLemmas.{updates-with_value_at}
use Rattle.indexmap.specs.IndexMap.{IndexMap, IsUnique, get, with_value_at}
use Rattle.smallvec.specs.SmallVec.{SmallVec}
use Rattle.fact_store.proofs.TablesLemmas.{keys_same, places_put}
use Rattle.fact_store.specs.Tables.{Key, places_found, places_in, same_key}

keys_decided : (a b : Key) → Decides (same_key a b) (a ≡ b)
keys_decided a b = (
  keys_same a b,
  λ e. subst (λ k. same_key a k ≡ true) e
      (and_from (a.0 == a.0) (a.1 == a.1) ((unsigned_Decides a.0 a.0).1 refl) ((unsigned_Decides a.1 a.1).1 refl)),
)

keys_equal : IsEquivalence same_key
keys_equal = decided same_key keys_decided

module _ {X : Type 0} where
  -- the key of what stands at a place
  pub key_there : (es : List (Key × X)) (i : ℕ) (k : Key) (v : X) → slice_get es i ≡ Some (k, v)
      → slice_get (keys_of es) i ≡ Some k
  key_there es i k v at =
      slice_get-map (λ (e : Key × X). e.0) es i ∙ ap (option_map (λ (e : Key × X). e.0)) at

  -- it is the key that stands there
  pub same_there : (es : List (Key × X)) (i : ℕ) (key k : Key) (v : X) → slice_get (keys_of es) i ≡ Some key
      → slice_get es i ≡ Some (k, v) → k ≡ key
  same_there es i key k v named at = same_Some k key (sym (key_there es i k v at) ∙ named)

  -- the key that a look-up finds is the one that is sought
  pub sought_key : (es : List (Key × X)) (key k : Key) → lookup_key (same_key key) es ≡ Some k → key ≡ k
  sought_key [] key k found = absurd (true≢false (sym (ap is_some found)))
  sought_key (e ∷ es) key k found =
      elim (same_key key e.0) as
      (λ b. same_key key e.0 ≡ b → cond b (Some e.0) (lookup_key (same_key key) es) ≡ Some k → key ≡ k) [
        | true ↦ λ same f. keys_same key e.0 same ∙ same_Some e.0 k f
        | false ↦ λ _ f. sought_key es key k f
      ] refl found

  -- where a key stands there is a value
  pub no_value : (es : List (Key × X)) (i : ℕ) (k : Key) → slice_get (keys_of es) i ≡ Some k
      → ¬ (slice_get (values_of es) i ≡ None)
  no_value [] i k key none = true≢false (sym (ap is_some key))
  no_value (e ∷ es) zero k key none = true≢false (ap is_some none)
  no_value (e ∷ es) (suc i) k key none = no_value es i k key none

  both_there : (es : List (Key × X)) (i : ℕ) (k : Key) (v : X) → slice_get (keys_of es) i ≡ Some k
      → slice_get (values_of es) i ≡ Some v → slice_get es i ≡ Some (k, v)
  both_there [] i k v key value = absurd (true≢false (sym (ap is_some key)))
  both_there (e ∷ es) zero k v key value =
      λ j. Some (same_Some e.0 k key j, same_Some e.1 v value j)
  both_there (e ∷ es) (suc i) k v key value = both_there es i k v key value

module _ {S : Type 0} (lists : IndexMap Key (SmallVec ℕ) S) (i : ℕ) (key : Key) (was places : SmallVec ℕ)
    (unique : IsUnique same_key lists) (named : slice_get (keys_of lists.entries) i ≡ Some key)
    (listed : slice_get (values_of lists.entries) i ≡ Some was) where
  found_there : get same_key lists key ≡ Some was
  found_there =
      lookup_from_place keys_equal lists.entries i key was unique (both_there lists.entries i key was named listed)

  -- a list that is written back with one place more
  pub places_more : (place : ℕ) → places.items ≡ was.items ++ place ∷ [] → (q : Key)
      → places_in (with_value_at lists i places) q
      ≡ cond (same_key key q) (places_in lists q ++ place ∷ []) (places_in lists q)
  places_more place more =
      places_put lists (with_value_at lists i places) key places place
      (more ∙ ap (λ o. places_found o ++ place ∷ []) (sym found_there))
      (updates-with_value_at lists i places keys_equal unique key was (both_there lists.entries i key was named listed)).0

  -- and as it was
  pub places_same : places ≡ was → (q : Key) → places_in (with_value_at lists i places) q ≡ places_in lists q
  places_same same q =
      ap places_found ((updates-with_value_at lists i places keys_equal unique key was
      (both_there lists.entries i key was named listed)).0 q)
      ∙ elim (same_key key q) as (λ b.
      same_key key q ≡ b → places_found (cond b (Some places) (get same_key lists q)) ≡ places_in lists q) [
        | true ↦ λ e. ap (λ p. places_found (Some p)) same ∙ ap places_found (sym found_there) ∙ ap (places_in lists) (keys_same key q e)
        | false ↦ λ _. refl
      ] refl
