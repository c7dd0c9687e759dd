-- Children of their own.
use Rattle.std.proofs.Common.{◌≡◌, ◌⊎◌, inl, inr, ℕ, zero, suc, ◌+◌, ◌≤◌, arith, Bool, true, false, cond, List, [], ◌∷◌, ◌++◌, append_assoc, sum_by, count_by, refl, sym, ap, ◌∙◌, subst, Some, slice_get}
use Rattle.std.proofs.lemmas.List.Sums.{sum_by-cons}
use Rattle.std.proofs.lemmas.Option.{same_Some}
use Rattle.std.specs.List.{list_any}
use Rattle.stream_map.specs.Children.{PlainPool, numbered_pools}
use Rattle.stream_map.specs.Faults.{has_wrong_number, is_grid, own_workers, stream_places}
use Rattle.stream_map.specs.Laws.{PoolHasChild}
use Rattle.stream_map.specs.Spelled.{Spelled}
use Rattle.lemmas.proofs.Bools.{left_false, right_false}

-- a number of workers that may stand
pub record IsRight (pool : Spelled) : Type 0 where
  pub some : 1 ≤ pool.workers
  pub few : pool.workers ≤ 16
  pub one : is_grid pool ≡ true → pool.workers ≡ 1

pub is_right : (pool : Spelled) → has_wrong_number pool ≡ false → IsRight pool
is_right pool e = record {
  some = grind (arith, e);
  few = grind (arith, e);
  one = λ grid. grind (arith, e, grid);
}

-- the child of the grid, or numbers from the first one on, up to 15
abbrev pub IsPlaced : ℕ → List Spelled → PlainPool → Type 0
IsPlaced next pools p =
    ((p.first ≡ 16) × (p.workers ≡ 1) × (1 ≤ count_by is_grid pools))
    ⊎ ((next ≤ p.first) × (p.first + p.workers ≤ 16) × (1 ≤ p.workers))

-- no wrong numbers, and children below 16
pub record AreRight (next : ℕ) (pools : List Spelled) : Type 0 where
  pub numbers : list_any has_wrong_number pools ≡ false
  pub grids : count_by is_grid pools ≤ 1
  pub workers : next + sum_by own_workers pools ≤ 16

count-cons : (pool : Spelled) (pools : List Spelled)
    → count_by is_grid (pool ∷ pools) ≡ cond (is_grid pool) 1 0 + count_by is_grid pools
count-cons pool pools = sum_by-cons (λ (s : Spelled). cond (is_grid s) 1 0) pool pools

rest_right : (next : ℕ) (pool : Spelled) (pools : List Spelled) → AreRight next (pool ∷ pools)
    → AreRight (next + own_workers pool) pools
rest_right next pool pools right = record {
  numbers = right_false (has_wrong_number pool) _ right.numbers;
  grids = omega (arith, right.grids, count-cons pool pools);
  workers = omega (arith, right.workers, sum_by-cons own_workers pool pools);
}

module _ (names : List (List ℕ)) where
  abbrev made : Bool → ℕ → Spelled → PlainPool
  made grid next pool = record { first = cond grid 16 next; workers = pool.workers; streams = stream_places names pool; words = pool.run }

  head_placed : (next : ℕ) (pool : Spelled) (pools : List Spelled) → AreRight next (pool ∷ pools)
      → (b : Bool) → is_grid pool ≡ b → IsPlaced next (pool ∷ pools) (made b next pool)
  head_placed next pool pools right true is =
      let well = is_right pool (left_false (has_wrong_number pool) _ right.numbers) in
      let counted : count_by is_grid (pool ∷ pools) ≡ 1 + count_by is_grid pools =
      count-cons pool pools ∙ ap (λ b. cond b 1 0 + count_by is_grid pools) is in
      inl (refl, well.one is, omega (arith, counted))
  head_placed next pool pools right false is =
      let well = is_right pool (left_false (has_wrong_number pool) _ right.numbers) in
      let own : own_workers pool ≡ pool.workers = ap (λ b. cond b 0 pool.workers) is in
      inr (omega arith, omega (arith, right.workers, sum_by-cons own_workers pool pools, own), well.some)

  pub placed : (next : ℕ) (pools : List Spelled) → AreRight next pools → (k : ℕ) (p : PlainPool)
      → slice_get (numbered_pools names next pools) k ≡ Some p → IsPlaced next pools p
  placed next [] right k p at = absurd (cc)
  placed next (pool ∷ pools) right zero p at =
      let is : made (is_grid pool) next pool ≡ p = same_Some (made (is_grid pool) next pool) p at in
      let P : PlainPool → Type 0 = IsPlaced next (pool ∷ pools) in
      subst P is (head_placed next pool pools right (is_grid pool) refl)
  placed next (pool ∷ pools) right (suc k) p at =
      elim (placed (next + own_workers pool) pools (rest_right next pool pools right) k p at) [
        | inl h ↦ inl (h.0, h.1, omega (arith, h.2, count-cons pool pools))
        | inr h ↦ inr (omega (arith, h.0), h.1, h.2)
      ]

  -- the first pool and a later one have no child in common
  later_apart : (next : ℕ) (pool : Spelled) (pools : List Spelled) → AreRight next (pool ∷ pools)
      → (b : Bool) → is_grid pool ≡ b → (k child : ℕ) (q : PlainPool)
      → slice_get (numbered_pools names (next + own_workers pool) pools) k ≡ Some q → PoolHasChild (made b next pool) child → PoolHasChild q child
      → ⊥
  later_apart next pool pools right true is k child q at in_p in_q =
      let well = is_right pool (left_false (has_wrong_number pool) _ right.numbers) in
      let counted : count_by is_grid (pool ∷ pools) ≡ 1 + count_by is_grid pools =
      count-cons pool pools ∙ ap (λ b. cond b 1 0 + count_by is_grid pools) is in
      elim (placed (next + own_workers pool) pools (rest_right next pool pools right) k q at) [
        | inl h ↦ omega (arith, h.2, counted, right.grids)
        | inr h ↦ omega (arith, h.1, in_p.from, in_q.to)
      ]
  later_apart next pool pools right false is k child q at in_p in_q =
      let own : own_workers pool ≡ pool.workers = ap (λ b. cond b 0 pool.workers) is in
      elim (placed (next + own_workers pool) pools (rest_right next pool pools right) k q at) [
        | inl h ↦ omega (arith, h.0, in_p.to, in_q.from, right.workers, sum_by-cons own_workers pool pools, own)
        | inr h ↦ omega (arith, h.0, in_p.to, in_q.from, own)
      ]

  pub children_apart : (next : ℕ) (pools : List Spelled) → AreRight next pools
      → (j k child : ℕ) (p q : PlainPool) → slice_get (numbered_pools names next pools) j ≡ Some p
      → slice_get (numbered_pools names next pools) k ≡ Some q
      → PoolHasChild p child → PoolHasChild q child → j ≡ k
  children_apart next [] right j k child p q at_j at_k in_p in_q = absurd (cc)
  children_apart next (pool ∷ pools) right zero zero child p q at_j at_k in_p in_q = refl
  children_apart next (pool ∷ pools) right zero (suc k) child p q at_j at_k in_p in_q =
      let is = same_Some (made (is_grid pool) next pool) p at_j in
      let P : PlainPool → Type 0 = λ x. PoolHasChild x child in
      absurd (later_apart next pool pools right (is_grid pool) refl k child q at_k (subst P (sym is) in_p) in_q)
  children_apart next (pool ∷ pools) right (suc j) zero child p q at_j at_k in_p in_q =
      let is = same_Some (made (is_grid pool) next pool) q at_k in
      let P : PlainPool → Type 0 = λ x. PoolHasChild x child in
      absurd (later_apart next pool pools right (is_grid pool) refl j child p at_j (subst P (sym is) in_q) in_p)
  children_apart next (pool ∷ pools) right (suc j) (suc k) child p q at_j at_k in_p in_q =
      ap suc (children_apart (next + own_workers pool) pools (rest_right next pool pools right) j k child p q at_j at_k in_p in_q)

-- ---- one pool more

pub placed_more : (names : List (List ℕ)) (done all : List PlainPool) (next after : ℕ) (text : Spelled)
    (rest : List Spelled) (p : PlainPool)
    → done ++ numbered_pools names next (text ∷ rest) ≡ all
    → p ≡ record { first = cond (is_grid text) 16 next; workers = text.workers; streams = stream_places names text; words = text.run }
    → after ≡ next + own_workers text → done ++ p ∷ [] ++ numbered_pools names after rest ≡ all
placed_more names done all next after text rest p so_far is then =
    append_assoc done (p ∷ []) (numbered_pools names after rest) ∙ (λ i. done ++ (is i ∷ numbered_pools names (then i) rest)) ∙ so_far

pub numbers_left : (text : Spelled) (rest : List Spelled)
    → list_any has_wrong_number (text ∷ rest) ≡ false
    → (has_wrong_number text ≡ false) × (list_any has_wrong_number rest ≡ false)
numbers_left text rest e =
    (left_false (has_wrong_number text) _ e, right_false (has_wrong_number text) _ e)

pub workers_left : (next after : ℕ) (text : Spelled) (rest : List Spelled)
    → next + sum_by own_workers (text ∷ rest) ≤ 16 → after ≡ next + own_workers text
    → after + sum_by own_workers rest ≤ 16
workers_left next after text rest few is = omega (arith, few, is, sum_by-cons own_workers text rest)
