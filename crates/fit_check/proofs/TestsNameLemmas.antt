-- Names that stand once each.
use Rattle.std.proofs.Common.{◌≡◌, ℕ, zero, suc, ◌+◌, add-one, true, false, not, ◌&&◌, List, [], ◌∷◌, map, drop, refl, sym, ap, ◌∙◌, arith, Some, slice_get}
use Rattle.std.specs.Cmp.{first_so, second_so}
use Rattle.std.specs.List.{list_any}
use Rattle.std.proofs.lemmas.Bool.{and_from, not-true}
use Rattle.std.proofs.lemmas.Map.Keys.{any_passes_from_place}
use Rattle.task_model.proofs.KnownLemmas.{numbers_decided}
use Rattle.task_model.specs.Known.{same_numbers}
use Rattle.lemmas.specs.Lists.{AreDistinct}
use Rattle.lemmas.proofs.ListTests.{any_found, any_mapped}
use Rattle.fit_check.specs.Tests.{are_different}

absent : (name : List ℕ) (names : List (List ℕ)) (j : ℕ) (x : List ℕ)
    → not (list_any (same_numbers name) names) ≡ true → Some name ≡ Some x
    → slice_get names j ≡ Some x → ⊥
absent name names j x none here e =
    let same : name ≡ x = cc in
    let there : list_any (same_numbers name) names ≡ true =
    any_passes_from_place (same_numbers name) names j x e ((numbers_decided name x).1 same) in
    let nowhere : list_any (same_numbers name) names ≡ false = not-true (list_any (same_numbers name) names) none in
    absurd (cc)

pub distinct_if : (names : List (List ℕ)) → are_different names ≡ true → AreDistinct names
distinct_if [] d i j x e f = absurd (cc)
distinct_if (n ∷ ns) d zero zero x e f = refl
distinct_if (n ∷ ns) d zero (suc j) x e f =
    absurd (absent n ns j x (first_so (not (list_any (same_numbers n) ns)) (are_different ns) d) e f)
distinct_if (n ∷ ns) d (suc i) zero x e f =
    absurd (absent n ns i x (first_so (not (list_any (same_numbers n) ns)) (are_different ns) d) f e)
distinct_if (n ∷ ns) d (suc i) (suc j) x e f =
    ap suc (distinct_if ns (second_so (not (list_any (same_numbers n) ns)) (are_different ns) d) i j x e f)

pub different_if : (names : List (List ℕ)) → AreDistinct names → are_different names ≡ true
different_if [] d = refl
different_if (n ∷ ns) d =
    and_from (not (list_any (same_numbers n) ns)) (are_different ns)
    (elim (list_any (same_numbers n) ns) as (λ b. list_any (same_numbers n) ns ≡ b → not b ≡ true) [
      | true ↦ λ t.
          let found = any_found (same_numbers n) ns t in
          let same : n ≡ found.1 = (numbers_decided n found.1).0 found.3 in
          let clash : 0 ≡ suc found.0 = d 0 (suc found.0) n refl (found.2 ∙ ap Some (sym same)) in
          absurd (omega arith)
      | false ↦ λ _. refl
    ] refl)
    (different_if ns (λ i j x e f. let clash : suc i ≡ suc j = d (suc i) (suc j) x e f in omega arith))

-- a name, and those behind it
pub different_from : {A : Type 0} (f : A → List ℕ) (xs : List A) (i : ℕ) (x : A)
    → slice_get xs i ≡ Some x
    → are_different (map f (drop i xs))
    ≡ (not (list_any (λ y. same_numbers (f x) (f y)) (drop (i + 1) xs)) && are_different (map f (drop (i + 1) xs)))
different_from f xs i x e =
    from xs i e
    ∙ ap (λ n. not (list_any (λ y. same_numbers (f x) (f y)) (drop n xs)) && are_different (map f (drop n xs))) (sym (add-one i))
  where
    from : (xs : List _) (i : ℕ) → slice_get xs i ≡ Some x
        → are_different (map f (drop i xs))
        ≡ (not (list_any (λ y. same_numbers (f x) (f y)) (drop (suc i) xs)) && are_different (map f (drop (suc i) xs)))
    from [] i e = absurd (cc)
    from (y ∷ ys) zero e =
        let same : x ≡ y = cc in
        ap (λ b. not b && are_different (map f ys))
        (any_mapped f (same_numbers (f y)) ys ∙ ap (λ z. list_any (λ w. same_numbers (f z) (f w)) ys) (sym same))
    from (y ∷ ys) (suc i) e = from ys i e
