-- Two lists of numbers that are compared place by place.
use Rattle.std.proofs.Common.{◌≡◌, ℕ, suc, ◌+◌, ◌<◌, min, List, [], ◌∷◌, length, drop, arith, nat_cmp}
use Rattle.std.proofs.lemmas.List.{length-drop}
use Rattle.std.specs.Cmp.{nat_cmp_is}
use Rattle.std.specs.Cmp.Lexicographic.{slice_cmp}
use Rattle.std.specs.Ordering.{MatchOrdering}

-- what is left of two lists, of which one has ended, is in the order of their lengths
left_ranked : (us vs : List ℕ) (a b i : ℕ) → length us + i ≡ a → length vs + i ≡ b → i ≡ min a b
    → MatchOrdering (slice_cmp nat_cmp us vs) (a < b) (a ≡ b) (b < a)
left_ranked [] [] a b i p q m =
    let e : 0 + i ≡ a = p in
    let d : 0 + i ≡ b = q in omega arith
left_ranked [] (v ∷ vs) a b i p q m =
    let e : 0 + i ≡ a = p in
    let d : suc (length vs) + i ≡ b = q in omega arith
left_ranked (u ∷ us) [] a b i p q m =
    let e : suc (length us) + i ≡ a = p in
    let d : 0 + i ≡ b = q in omega arith
left_ranked (u ∷ us) (v ∷ vs) a b i p q m =
    let e : suc (length us) + i ≡ a = p in
    let d : suc (length vs) + i ≡ b = q in absurd (omega arith)

pub left_cmp : (xs ys : List ℕ) (i : ℕ) → i ≡ min (length xs) (length ys)
    → slice_cmp nat_cmp (drop i xs) (drop i ys) ≡ nat_cmp (length xs) (length ys)
left_cmp xs ys i m =
    nat_cmp_is (length xs) (length ys) _
    (left_ranked (drop i xs) (drop i ys) (length xs) (length ys) i
    (omega (arith, length-drop i xs, m)) (omega (arith, length-drop i ys, m)) m)
