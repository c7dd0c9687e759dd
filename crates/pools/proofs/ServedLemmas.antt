-- Marks of streams, one more and none.
use Rattle.std.proofs.Common.{◌≡◌, ℕ, ◌<◌, ◌≤◌, ◌==◌, ◌||◌, Bool, true, false, List, [], ◌∷◌, ◌++◌, length, get_or, set, refl, sym, ap, ◌∙◌, arith, eqb-true}
use Rattle.std.proofs.lemmas.Bool.{eqb-false}
use Rattle.std.proofs.lemmas.List.{get_or-set_other, get_or-set_same, length-set}
use Rattle.std.proofs.lemmas.List.Folds.{list_any-append}
use Rattle.std.specs.List.{list_any}
use Rattle.lemmas.proofs.Bools.{or_false, or_true}
use Rattle.pools.specs.Served.{AreStreamsMarked}

-- one stream more is among them
pushed : (before : List ℕ) (k stream : ℕ)
    → list_any (λ s. s == stream) (before ++ k ∷ []) ≡ (list_any (λ s. s == stream) before || (k == stream))
pushed before k stream =
    list_any-append (λ s. s == stream) before (k ∷ []) ∙ ap (λ b. list_any (λ s. s == stream) before || b) (or_false (k == stream))

pub one_marked : (before : List ℕ) (marks : List Bool) (k : ℕ) → k < length marks → AreStreamsMarked before marks
    → AreStreamsMarked (before ++ k ∷ []) (set marks k true)
one_marked before marks k within are stream d lt = by (k == stream) refl
  where
    by : (b : Bool) → (k == stream) ≡ b
        → get_or (set marks k true) stream d ≡ list_any (λ s. s == stream) (before ++ k ∷ [])
    by true e =
        ap (λ n. get_or (set marks k true) n d) (sym (eqb-true k stream e)) ∙ get_or-set_same marks k true d within
        ∙ sym (pushed before k stream ∙ ap (λ b. list_any (λ s. s == stream) before || b) e ∙ or_true (list_any (λ s. s == stream) before))
    by false e =
        get_or-set_other marks k stream true d (λ same. eqb-false k stream e (sym same))
        ∙ are stream d (omega (arith, lt, length-set marks k true))
        ∙ sym (pushed before k stream ∙ ap (λ b. list_any (λ s. s == stream) before || b) e ∙ or_false (list_any (λ s. s == stream) before))

-- a stream without a mark changes none
pub none_marked : (before : List ℕ) (marks : List Bool) (k : ℕ) → length marks ≤ k → AreStreamsMarked before marks
    → AreStreamsMarked (before ++ k ∷ []) marks
none_marked before marks k past are stream d lt = by (k == stream) refl
  where
    by : (b : Bool) → (k == stream) ≡ b → get_or marks stream d ≡ list_any (λ s. s == stream) (before ++ k ∷ [])
    by true e = absurd (omega (arith, eqb-true k stream e, past, lt))
    by false e =
        are stream d lt
        ∙ sym (pushed before k stream ∙ ap (λ b. list_any (λ s. s == stream) before || b) e ∙ or_false (list_any (λ s. s == stream) before))
