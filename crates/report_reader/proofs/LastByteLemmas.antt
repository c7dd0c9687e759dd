-- Where the last byte is a line feed, nothing stands behind the last one.
use Rattle.std.proofs.Common.{◌≡◌, ◌↔◌, ℕ, suc, ◌-◌, ◌<◌, true, false, cond, ◌==◌, List, [], ◌∷◌, length, get_or, refl, sym, subst, ap, ◌∙◌, arith}
use Rattle.std.specs.List.{slice_split, onto_first}
use Rattle.gen_lines.specs.Lines.{is_feed, open_part, unfinished}
use Rattle.report_reader.proofs.SplitsCutLemmas.{never_empty}

last_of : ℕ → List ℕ → ℕ
last_of x [] = x
last_of x (y ∷ ys) = last_of y ys

-- the only part of bytes isn't empty
sole : (x : ℕ) (xs p : List ℕ) → slice_split is_feed (x ∷ xs) ≡ p ∷ [] → ¬ (p ≡ [])
sole x xs p =
    elim (is_feed x) as (λ b. cond b ([] ∷ slice_split is_feed xs) (onto_first x (slice_split is_feed xs)) ≡ p ∷ [] → ¬ (p ≡ [])) [
      | true ↦ λ e none. never_empty is_feed xs (cc)
      | false ↦ λ e none. by_parts (slice_split is_feed xs) e none
    ]
  where
    by_parts : (parts : List (List ℕ)) → onto_first x parts ≡ p ∷ [] → p ≡ [] → ⊥
    by_parts [] e none = absurd (cc)
    by_parts (q ∷ parts) e none = absurd (cc)

by_last : (x : ℕ) (xs : List ℕ) → (is_feed (last_of x xs) ≡ true) ↔ (unfinished (x ∷ xs) ≡ [])
unfolding last_of
by_last x [] =
    elim (is_feed x) as (λ b. (b ≡ true) ↔ (open_part (cond b ([] ∷ [] ∷ []) ((x ∷ []) ∷ [])) ≡ [])) [
      | true ↦ (λ e. refl, λ e. refl)
      | false ↦ (λ e. absurd (cc), λ e. absurd (cc))
    ]
by_last x (y ∷ ys) =
    elim (is_feed x) as (λ b.
    (is_feed (last_of y ys) ≡ true)
    ↔ (open_part (cond b ([] ∷ slice_split is_feed (y ∷ ys)) (onto_first x (slice_split is_feed (y ∷ ys)))) ≡ [])) [
      | true ↦ behind_feed (slice_split is_feed (y ∷ ys)) (never_empty is_feed (y ∷ ys)) (by_last y ys)
      | false ↦ behind_other (slice_split is_feed (y ∷ ys)) (never_empty is_feed (y ∷ ys)) (sole y ys) (by_last y ys)
    ]
  where
    behind_feed : (parts : List (List ℕ)) → ¬ (parts ≡ [])
        → (is_feed (last_of y ys) ≡ true) ↔ (open_part parts ≡ [])
        → (is_feed (last_of y ys) ≡ true) ↔ (open_part ([] ∷ parts) ≡ [])
    behind_feed [] some here = absurd (some refl)
    behind_feed (p ∷ parts) some here = here

    behind_other : (parts : List (List ℕ)) → ¬ (parts ≡ [])
        → ((p : List ℕ) → parts ≡ p ∷ [] → ¬ (p ≡ []))
        → (is_feed (last_of y ys) ≡ true) ↔ (open_part parts ≡ []) → (is_feed (last_of y ys) ≡ true) ↔ (open_part (onto_first x parts) ≡ [])
    behind_other [] some one here = absurd (some refl)
    behind_other (p ∷ []) some one here = (λ e. absurd (one p refl (here.0 e)), λ e. absurd (cc))
    behind_other (p ∷ q ∷ parts) some one here = here

last_read : (x : ℕ) (xs : List ℕ) (d : ℕ) → get_or (x ∷ xs) (length xs) d ≡ last_of x xs
unfolding last_of
last_read x [] d = refl
last_read x (y ∷ ys) d = last_read y ys d

pub feed_ends : (bytes : List ℕ) (b : ℕ) → 0 < length bytes → b ≡ get_or bytes (length bytes - 1) b
    → ((b == 10) ≡ true) ↔ (unfinished bytes ≡ [])
feed_ends [] b some is = absurd (omega arith)
feed_ends (x ∷ xs) b some is =
    let place : suc (length xs) - 1 ≡ length xs = omega arith in
    let last : b ≡ last_of x xs = is ∙ ap (λ n. get_or (x ∷ xs) n b) place ∙ last_read x xs b in
    subst (λ c. ((c == 10) ≡ true) ↔ (unfinished (x ∷ xs) ≡ [])) (sym last) (by_last x xs)
