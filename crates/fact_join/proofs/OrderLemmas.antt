-- Distinct members, sorted, ascend.
use Rattle.std.proofs.Common.{◌≡◌, suc, false, List, [], ◌∷◌, refl, sym, ap, ◌∙◌, Some, arith}
use Rattle.std.proofs.lemmas.List.Sorted.{ranks_by, sorted_far}
use Rattle.std.proofs.lemmas.Option.{slice_get_within, get_or_from_slice_get}
use Rattle.std.specs.Cmp.{IsTotalOrder, IsStrictWeakOrder}
use Rattle.std.specs.List.Sorted.{IsSorted, IsStrictlySortedBy}
use Rattle.std.specs.Ordering.{is_lt, ordering_reverse}
use Rattle.std.specs.declared.cmp.Ordering.{Ordering}
use Rattle.std.specs.declared.cmp.Ordering.TheVariants.{Less, Equal, Greater}
use Rattle.lemmas.proofs.Ascending.{all_from}
use Rattle.lemmas.proofs.Bools.{not_both}
use Rattle.lemmas.proofs.Members.{place_of}
use Rattle.lemmas.specs.Lists.{AreDistinct, AreAscending}

-- ---- sorted

module _ {A : Type 0} (cmp : A → A → Ordering) (total : IsTotalOrder cmp) (ties : (x y : A) → cmp x y ≡ Equal → x ≡ y) where
  pub sorted_ascends : (ys : List A) → AreDistinct ys → IsSorted cmp ys → AreAscending cmp ys
  sorted_ascends ys d up i j a b below at_i at_j =
      let ranked : IsStrictWeakOrder (λ x y. is_lt (cmp x y)) = ranks_by total (λ (x : A). x) in
      let far = sorted_far (λ x y. is_lt (cmp x y)) ranked ys up i j a (omega (arith, below)) (slice_get_within ys j b at_j) in
      let not_back : is_lt (cmp b a) ≡ false =
      (λ k. is_lt (cmp (sym (get_or_from_slice_get ys j b a at_j) k) (sym (get_or_from_slice_get ys i a a at_i) k))) ∙ far in
      by (cmp a b) refl not_back
    where
      by : (o : Ordering) → cmp a b ≡ o → is_lt (cmp b a) ≡ false → cmp a b ≡ Less
      by Less e not_back = e
      by Equal e not_back =
          let same : a ≡ b = ties a b e in
          let place : i ≡ j = d i j b (at_i ∙ ap Some same) at_j in
          absurd (omega (arith, below, place))
      by Greater e not_back =
          let back : cmp b a ≡ Less = total.antisymm b a ∙ ap ordering_reverse e in
          absurd (not_both (is_lt (cmp b a)) (ap is_lt back) not_back)

pub strictly_sorted : {A : Type 0} (cmp : A → A → Ordering) (xs : List A) → AreAscending cmp xs
    → IsStrictlySortedBy cmp xs
unfolding IsStrictlySortedBy
strictly_sorted cmp [] up = tt
strictly_sorted cmp (x ∷ xs) up = (
  all_from (λ y. cmp x y ≡ Less) xs (λ y m. let p = place_of xs y m in up 0 (suc p.0) x y (omega arith) refl p.1),
  strictly_sorted cmp xs (λ i j a b lt at_i at_j. up (suc i) (suc j) a b (omega (arith, lt)) at_i at_j),
)
