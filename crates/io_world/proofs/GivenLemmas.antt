-- Bytes that are given in pieces.
use Rattle.std.proofs.Common.{◌≡◌, ℕ, ◌+◌, ◌-◌, List, [], subst, ◌++◌, length, take, drop, sym, ◌∙◌, ap, arith, length-drop}
use Rattle.std.proofs.lemmas.List.{take-append-drop, drop-drop, take_all}

-- what lies behind an index
pub behind : (i : ℕ) (xs : List ℕ) → take (length xs - i) (drop i xs) ≡ drop i xs
behind i xs = take_all _ _ (omega (arith, length-drop i xs))

-- a piece that was given, and what is left after it
pub piece_and_rest : (n i : ℕ) (xs room : List ℕ)
    → take n room ≡ take n (take (length xs - i) (drop i xs))
    → drop i xs ≡ take n room ++ drop (i + n) xs
piece_and_rest n i xs room given =
    let piece : take n room ≡ take n (drop i xs) = given ∙ ap (take n) (behind i xs) in
    rw piece (rw (← drop-drop n i xs) (sym (take-append-drop n (drop i xs))))

-- the same, where the bytes come from a slice of them
pub left_after : (n i : ℕ) (slice xs room : List ℕ) → slice ≡ xs
    → take n room ≡ take n (take (length slice - i) (drop i slice))
    → drop i xs ≡ take n room ++ drop (i + n) xs
left_after n i slice xs room same given =
    let P : List ℕ → Type 0 = λ zs. take n room ≡ take n (take (length zs - i) (drop i zs)) in
    piece_and_rest n i xs room (subst P same given)

-- nothing is left where nothing was
pub none_left : (n i : ℕ) (slice xs : List ℕ) → slice ≡ xs → n ≡ 0
    → take (length slice - i) (drop i slice) ≡ [] → drop (i + n) xs ≡ []
none_left n i slice xs same none empty =
    let P : List ℕ → Type 0 = λ zs. take (length zs - i) (drop i zs) ≡ [] in
    let e : i + n ≡ i = omega arith in
    rw e (sym (behind i xs) ∙ subst P same empty)
