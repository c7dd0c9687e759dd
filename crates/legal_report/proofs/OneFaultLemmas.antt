-- A text that is no report has one first fault.
use Rattle.std.proofs.Common.{◌≡◌, ℕ, zero, suc, ◌-◌, ◌<◌, ◌≤◌, ◌⊎◌, inl, inr, List, [], ◌∷◌, ◌++◌, take, drop, refl, sym, ap, subst, ◌∙◌, arith, append_assoc}
use Rattle.std.proofs.lemmas.Bool.{cases_lt}
use Rattle.std.proofs.lemmas.List.{take-append-drop}
use Rattle.std.proofs.lemmas.List.Concat.{flat_map-append}
use Rattle.lemmas.specs.Lists.{lines_with_feeds}
use Rattle.report_text.specs.Faults.{BeginsReport, IsFirstFault, IsReport, whole_lines}

-- the lines in front of some with which a report begins begin one
begins_front : (lines : List (List ℕ)) (n m : ℕ) → n ≤ m → BeginsReport (take m lines)
    → BeginsReport (take n lines)
begins_front lines n m le begins =
    let front = take n (take m lines) in
    let back = drop n (take m lines) in
    let parts : take m lines ≡ front ++ back = sym (take-append-drop n (take m lines)) in
    let text : lines_with_feeds (take m lines) ++ begins.0 ≡ lines_with_feeds front ++ (lines_with_feeds back ++ begins.0) =
    ap (λ ls. lines_with_feeds ls ++ begins.0) parts ∙ ap (λ t. t ++ begins.0) (flat_map-append (λ line. line ++ 10 ∷ []) front back)
    ∙ append_assoc (lines_with_feeds front) (lines_with_feeds back) begins.0 in
    let there : IsReport (lines_with_feeds front ++ (lines_with_feeds back ++ begins.0)) = subst IsReport text begins.1 in
    subst (λ ls. BeginsReport ls) (twice lines n m le) (lines_with_feeds back ++ begins.0, there)
  where
    twice : (xs : List (List ℕ)) (j k : ℕ) → j ≤ k → take j (take k xs) ≡ take j xs
    twice xs zero k le = refl
    twice xs (suc j) zero le = absurd (omega (arith, le))
    twice [] (suc j) (suc k) le = refl
    twice (x ∷ xs) (suc j) (suc k) le =
        let below : j ≤ k = omega (arith, le) in ap (λ ys. x ∷ ys) (twice xs j k below)

not_earlier : (bytes : List ℕ) (n m : ℕ) → IsFirstFault bytes n → IsFirstFault bytes m → n < m → ⊥
not_earlier bytes n m first second lt =
    first.here (omega (arith, lt, second.upto)) (begins_front (whole_lines bytes) n (m - 1) (omega (arith, lt)) second.before)

pub fault_once : (bytes : List ℕ) (n m : ℕ) → IsFirstFault bytes n → IsFirstFault bytes m → n ≡ m
fault_once bytes n m first second = by (cases_lt n m) (cases_lt m n)
  where
    by : (n < m) ⊎ (m ≤ n) → (m < n) ⊎ (n ≤ m) → n ≡ m
    by (inl lt) q = absurd (not_earlier bytes n m first second lt)
    by (inr ge) (inl lt) = absurd (not_earlier bytes m n second first lt)
    by (inr ge) (inr le) = omega (arith, ge, le)
