-- Skeletons: which is picked.
use Rattle.std.proofs.Common.{◌≡◌, ◌⊎◌, inl, inr, ℕ, ◌+◌, ◌<◌, ◌≤◌, arith, true, false, ◌&&◌, List, [], ◌∷◌, ◌++◌, length, take, drop, get_or, slice_set, slice_get, refl, sym, subst, ap, ◌∙◌, Option, Some, None}
use Rattle.std.proofs.lemmas.List.{length-map, length-take-le, map-set, take-append-drop}
use Rattle.std.proofs.lemmas.Option.{slice_get-get_or, slice_get-map, slice_get_within}
use Rattle.std.specs.Option.{option_map}
use Rattle.skeletons.specs.Skeletons.{IsNextPick, skeleton_of, skeletons_in}
use Rattle.skeletons.specs.declared.skeletons.Skeleton as stored
use Rattle.lemmas.proofs.Bools.{not_both}
use Rattle.lemmas.proofs.ListTests.{all_append, all_at}
use Rattle.lemmas.proofs.Members.{get_append, get_at_length, next_taken, push_cases}
use Rattle.transcript_model.specs.Turns.{IsPicked, Skeleton}

-- ---- where they stand

pub item_within : (items : List stored.Skeleton) (k : ℕ) (s : Skeleton) → slice_get (skeletons_in items) k ≡ Some s
    → k < length items
item_within items k s at = omega (arith, slice_get_within (skeletons_in items) k s at, length-map items skeleton_of)

pub item_is : (items : List stored.Skeleton) (k : ℕ) (x : stored.Skeleton) (s : Skeleton)
    → slice_get (skeletons_in items) k ≡ Some s → x ≡ get_or items k x → skeleton_of x ≡ s
item_is items k x s at is =
    let there : slice_get items k ≡ Some x =
    slice_get-get_or items k x (item_within items k s at) ∙ ap Some (sym is) in
    let both : Some (skeleton_of x) ≡ Some s =
    sym (slice_get-map skeleton_of items k ∙ ap (option_map skeleton_of) there) ∙ at in
    cc

pub item_there : (items : List stored.Skeleton) (place : ℕ) (x : stored.Skeleton) → place < length items
    → x ≡ get_or items place x → slice_get (skeletons_in items) place ≡ Some (skeleton_of x)
item_there items place x lt is =
    slice_get-map skeleton_of items place ∙ ap (option_map skeleton_of) (slice_get-get_or items place x lt ∙ ap Some (sym is))

pub same_item : (xs : List Skeleton) (k : ℕ) (s r : Skeleton) → slice_get xs k ≡ Some s → slice_get xs k ≡ Some r → s ≡ r
same_item xs k s r at again = let both : Some s ≡ Some r = sym at ∙ again in cc

-- ---- which is picked

-- the one that was picked is picked still
pub still_picked : (xs : List Skeleton) (x : Skeleton) (place : ℕ) (s : Skeleton) → IsPicked xs place s
    → (x.retired ≡ true) ⊎ (s.picks ≤ x.picks) → IsPicked (xs ++ x ∷ []) place s
still_picked xs x place s is passed = record {
  there = get_append xs (x ∷ []) place s is.there;
  kept = is.kept;
  fewest = λ k other at kept. few k other kept (push_cases xs x k other at) passed;
  earliest = λ k other lt at kept. early k other lt kept (push_cases xs x k other at);
}
  where
    few : (k : ℕ) (other : Skeleton) → other.retired ≡ false → (slice_get xs k ≡ Some other) ⊎ ((k ≡ length xs) × (other ≡ x))
        → (x.retired ≡ true) ⊎ (s.picks ≤ x.picks) → s.picks ≤ other.picks
    few k other kept (inl at) p = is.fewest k other at kept
    few k other kept (inr (end, same)) (inl retired) =
        absurd (not_both x.retired retired (ap (λ (y : Skeleton). y.retired) (sym same) ∙ kept))
    few k other kept (inr (end, same)) (inr low) = omega (arith, low, ap (λ (y : Skeleton). y.picks) same)

    early : (k : ℕ) (other : Skeleton) → k < place → other.retired ≡ false
        → (slice_get xs k ≡ Some other) ⊎ ((k ≡ length xs) × (other ≡ x)) → s.picks < other.picks
    early k other lt kept (inl at) = is.earliest k other lt at kept
    early k other lt kept (inr (end, same)) = absurd (omega (arith, lt, end, slice_get_within xs place s is.there))

-- the last has fewer picks than each other
pub last_picked : (xs : List Skeleton) (x : Skeleton) → x.retired ≡ false
    → ((k : ℕ) (other : Skeleton) → slice_get xs k ≡ Some other → other.retired ≡ false → x.picks < other.picks)
    → IsPicked (xs ++ x ∷ []) (length xs) x
last_picked xs x kept fewer = record {
  there = get_at_length xs x;
  kept = kept;
  fewest = λ k other at is. few k other is (push_cases xs x k other at);
  earliest = λ k other lt at is. early k other lt is (push_cases xs x k other at);
}
  where
    few : (k : ℕ) (other : Skeleton) → other.retired ≡ false → (slice_get xs k ≡ Some other) ⊎ ((k ≡ length xs) × (other ≡ x))
        → x.picks ≤ other.picks
    few k other is (inl at) = omega (arith, fewer k other at is)
    few k other is (inr (end, same)) = omega (arith, ap (λ (y : Skeleton). y.picks) same)

    early : (k : ℕ) (other : Skeleton) → k < length xs → other.retired ≡ false
        → (slice_get xs k ≡ Some other) ⊎ ((k ≡ length xs) × (other ≡ x)) → x.picks < other.picks
    early k other lt is (inl at) = fewer k other at is
    early k other lt is (inr (end, same)) = absurd (omega (arith, lt, end))

none_best : IsNextPick [] None
none_best = record { some = tt; none = refl }

pub best_nothing : (xs : List Skeleton) → xs ≡ [] → IsNextPick xs None
best_nothing xs none = subst (λ ys. IsNextPick ys None) (sym none) none_best

module _ (xs : List Skeleton) (x : Skeleton) where
  -- a skeleton that is given up
  pub best_passed : (best : Option ℕ) → x.retired ≡ true → IsNextPick xs best → IsNextPick (xs ++ x ∷ []) best
  best_passed None retired b = record {
    some = tt;
    none = all_append (λ (s : Skeleton). s.retired) xs (x ∷ []) b.none (ap (λ r. r && true) retired);
  }
  best_passed (Some place) retired b =
      record { some = (b.some.0, still_picked xs x place b.some.0 b.some.1 (inl retired)); none = tt }

  -- one that was picked as often
  pub best_kept : (place : ℕ) (s : Skeleton) → slice_get xs place ≡ Some s → s.picks ≤ x.picks → IsNextPick xs (Some place)
      → IsNextPick (xs ++ x ∷ []) (Some place)
  best_kept place s at low b =
      let both : Some b.some.0 ≡ Some s = sym b.some.1.there ∙ at in
      let same : b.some.0 ≡ s = cc in
      record {
        some = (
          b.some.0,
          still_picked xs x place b.some.0 b.some.1 (inr (omega (arith, low, ap (λ (y : Skeleton). y.picks) same))),
        );
        none = tt;
      }

  -- one that was picked less often, or the first
  pub best_first : x.retired ≡ false → IsNextPick xs None → IsNextPick (xs ++ x ∷ []) (Some (length xs))
  best_first kept b = record {
    some = (
      x,
      last_picked xs x kept (λ k other at is.
          absurd (not_both other.retired (all_at (λ (s : Skeleton). s.retired) xs k other b.none at) is)),
    );
    none = tt;
  }

  pub best_better : x.retired ≡ false → (place : ℕ) (s : Skeleton) → slice_get xs place ≡ Some s → x.picks < s.picks
      → IsNextPick xs (Some place) → IsNextPick (xs ++ x ∷ []) (Some (length xs))
  best_better kept place s at less b =
      let both : Some b.some.0 ≡ Some s = sym b.some.1.there ∙ at in
      let same : b.some.0 ≡ s = cc in
      record {
        some = (
          x,
          last_picked xs x kept (λ k other there is. omega (
            arith,
            b.some.1.fewest k other there is,
            less,
            ap (λ (y : Skeleton). y.picks) same,
          )),
        );
        none = tt;
      }

-- ---- of the first ones

from_first : (xs : List Skeleton) (n k : ℕ) (s : Skeleton) → slice_get (take n xs) k ≡ Some s → slice_get xs k ≡ Some s
from_first xs n k s at =
    subst (λ ys. slice_get ys k ≡ Some s) (take-append-drop n xs) (get_append (take n xs) (drop n xs) k s at)

-- the one that is there so far
pub item_best : (items : List stored.Skeleton) (place other : ℕ) → IsNextPick (take place (skeletons_in items)) (Some other)
    → other < length items
item_best items place other b =
    item_within items other b.some.0 (from_first (skeletons_in items) place other b.some.0 b.some.1.there)

module _ (items : List stored.Skeleton) (place : ℕ) (lt : place < length items) (x : stored.Skeleton)
    (is : x ≡ get_or items place x) where
  abbrev firsts : List Skeleton
  firsts = take place (skeletons_in items)

  next_is : take (place + 1) (skeletons_in items) ≡ take place (skeletons_in items) ++ skeleton_of x ∷ []
  next_is =
      next_taken (skeletons_in items) place (skeleton_of x) (item_there items place x lt is)

  firsts_long : length firsts ≡ place
  firsts_long = length-take-le place (skeletons_in items) (omega (arith, lt, length-map items skeleton_of))

  pub next_passed : (best : Option ℕ) → x.retired ≡ true → IsNextPick (take place (skeletons_in items)) best
      → IsNextPick (take (place + 1) (skeletons_in items)) best
  next_passed best retired b =
      subst (λ ys. IsNextPick ys best) (sym next_is) (best_passed firsts (skeleton_of x) best retired b)

  pub next_first : x.retired ≡ false → IsNextPick (take place (skeletons_in items)) None
      → IsNextPick (take (place + 1) (skeletons_in items)) (Some place)
  next_first kept b =
      subst (λ ys. IsNextPick ys (Some place)) (sym next_is)
      (subst (λ n. IsNextPick (firsts ++ skeleton_of x ∷ []) (Some n)) firsts_long (best_first firsts (skeleton_of x) kept b))

  module _ (other : ℕ) (y : stored.Skeleton) (there : y ≡ get_or items other y)
      (b : IsNextPick (take place (skeletons_in items)) (Some other)) where
    other_is : skeleton_of y ≡ b.some.0
    other_is = item_is items other y b.some.0 (from_first (skeletons_in items) place other b.some.0 b.some.1.there) there

    pub next_kept : y.picks ≤ x.picks → IsNextPick (take (place + 1) (skeletons_in items)) (Some other)
    next_kept low =
        subst (λ ys. IsNextPick ys (Some other)) (sym next_is)
        (best_kept firsts (skeleton_of x) other b.some.0 b.some.1.there
        (omega (arith, low, ap (λ (s : Skeleton). s.picks) other_is)) b)

    pub next_better : x.retired ≡ false → x.picks < y.picks → IsNextPick (take (place + 1) (skeletons_in items)) (Some place)
    next_better kept less =
        subst (λ ys. IsNextPick ys (Some place)) (sym next_is)
        (subst (λ n. IsNextPick (firsts ++ skeleton_of x ∷ []) (Some n)) firsts_long
        (best_better firsts (skeleton_of x) kept other b.some.0 b.some.1.there
        (omega (arith, less, ap (λ (s : Skeleton). s.picks) other_is)) b))

-- a pick is counted
pub counted_pick : (items : List stored.Skeleton) (place : ℕ) (x y : stored.Skeleton) (s : Skeleton)
    → slice_get (skeletons_in items) place ≡ Some s → x ≡ get_or items place x → y.entries.items ≡ x.entries.items → y.real ≡ x.real
    → y.picks ≡ x.picks + 1
    → skeletons_in (slice_set items place y) ≡ slice_set (skeletons_in items) place
    (record { entries = s.entries; real = s.real; picks = s.picks + 1; retired = y.retired })
counted_pick items place x y s at is entries real picks =
    let same = item_is items place x s at is in
    let there : skeleton_of y ≡ record { entries = s.entries; real = s.real; picks = s.picks + 1; retired = y.retired } =
    (λ i. record {
      entries = (entries ∙ ap (λ (k : Skeleton). k.entries) same) i;
      real = (real ∙ ap (λ (k : Skeleton). k.real) same) i;
      picks = (picks ∙ ap (λ (k : Skeleton). k.picks + 1) same) i;
      retired = y.retired;
    }) in
    map-set skeleton_of items place y ∙ ap (slice_set (skeletons_in items) place) there
