-- Sets of names in order.
use Rattle.std.proofs.Common.{◌≡◌, ℕ, zero, suc, arith, Bool, true, false, ◌||◌, ◌&&◌, List, [], ◌∷◌, map, refl, subst, ap, ◌∙◌, Some, slice_get, sym}
use Rattle.std.proofs.lemmas.Map.Keys.{sorted_head, sorted_tail}
use Rattle.std.proofs.lemmas.Map.Lookups.{exact_bytes}
use Rattle.std.proofs.lemmas.Option.{same_Some}
use Rattle.std.specs.BTreeSet.{insert_key}
use Rattle.std.specs.Cmp.Lexicographic.{slice_cmp}
use Rattle.std.specs.List.{AllByRecursion}
use Rattle.std.specs.List.Sorted.{IsStrictlySortedBy}
use Rattle.std.specs.Ordering.{nat_cmp, match_ordering}
use Rattle.std.specs.declared.cmp.Ordering.{Ordering}
use Rattle.std.specs.declared.cmp.Ordering.TheVariants.{Less, Equal, Greater}
use Rattle.lemmas.proofs.Bools.{or_swap, or_true}
use Rattle.task_model.proofs.KnownLemmas.{numbers_decided}
use Rattle.task_model.specs.Known.{same_numbers}
use Rattle.lemmas.specs.Lists.{AreAscending}
use Rattle.shown_plan.specs.Sources.{is_generated, is_among}

module _ {K : Type 0} (shows : K → List ℕ) where
  abbrev by_name : K → K → Ordering
  by_name a b = slice_cmp nat_cmp (shows a) (shows b)

  -- ---- one name more

  put : (q : List ℕ) (k x : K) (rest more : List K) (o : Ordering) → by_name k x ≡ o
      → is_among (map shows more) q ≡ (same_numbers q (shows k) || is_among (map shows rest) q)
      → is_among (map shows (match_ordering o (k ∷ x ∷ rest) (x ∷ rest) (x ∷ more))) q
      ≡ (same_numbers q (shows k) || is_among (map shows (x ∷ rest)) q)
  put q k x rest more Less e h = refl
  put q k x rest more Equal e h =
      let same : shows k ≡ shows x = exact_bytes (shows k) (shows x) e in
      rw same (twice (same_numbers q (shows x)) (is_among (map shows rest) q))
    where
      twice : (a b : Bool) → (a || b) ≡ (a || (a || b))
      twice true b = refl
      twice false b = refl
  put q k x rest more Greater e h =
      ap (λ b. same_numbers q (shows x) || b) h
      ∙ or_swap (same_numbers q (shows x)) (same_numbers q (shows k)) (is_among (map shows rest) q)

  pub insert_adds : (keys : List K) (k : K) (q : List ℕ)
      → is_among (map shows (insert_key by_name keys k)) q ≡ (same_numbers q (shows k) || is_among (map shows keys) q)
  insert_adds [] k q = refl
  insert_adds (x ∷ xs) k q =
      put q k x xs (insert_key by_name xs k) (by_name k x) refl (insert_adds xs k q)

  -- ---- ascending names

  after_first : (x : K) (xs : List K) (j : ℕ) (b : List ℕ)
      → AllByRecursion (λ y. by_name x y ≡ Less) xs
      → slice_get (map shows xs) j ≡ Some b → slice_cmp nat_cmp (shows x) b ≡ Less
  after_first x [] j b all e = absurd (cc)
  after_first x (y ∷ ys) zero b all e =
      subst (λ n. slice_cmp nat_cmp (shows x) n ≡ Less) (same_Some (shows y) b e) all.0
  after_first x (y ∷ ys) (suc j) b all e = after_first x ys j b all.1 e

  pub ascending : (keys : List K) → IsStrictlySortedBy by_name keys
      → AreAscending (slice_cmp nat_cmp) (map shows keys)
  ascending [] s i j a b lt at_i at_j = absurd (cc)
  ascending (x ∷ xs) s i zero a b lt at_i at_j = absurd (omega (arith, lt))
  ascending (x ∷ xs) s zero (suc j) a b lt at_i at_j =
      subst (λ n. slice_cmp nat_cmp n b ≡ Less) (same_Some (shows x) a at_i) (after_first x xs j b (sorted_head by_name x xs s) at_j)
  ascending (x ∷ xs) s (suc i) (suc j) a b lt at_i at_j =
      ascending xs (sorted_tail by_name x xs s) i j a b (omega (arith, lt)) at_i at_j

-- ---- generated names

-- the one name that is put in belongs to a generated object
pub added : (old : Bool) (name other : List ℕ) → is_generated name ≡ true
    → (same_numbers other name || old) ≡ (old || (is_generated other && same_numbers other name))
added old name other g =
    elim (same_numbers other name) as (λ b. same_numbers other name ≡ b → (b || old) ≡ (old || (is_generated other && b))) [
      | true ↦ λ same. let too : is_generated other ≡ true = ap is_generated ((numbers_decided other name).0 same) ∙ g in
          rw too (sym (or_true old))
      | false ↦ λ _. neither old (is_generated other)
    ] refl
  where
    neither : (o g : Bool) → o ≡ (o || (g && false))
    neither true g = refl
    neither false true = refl
    neither false false = refl
