-- Rows of trees.
use Rattle.std.proofs.Common.{◌≡◌, ℕ, zero, suc, ◌-◌, ◌≤◌, min, List, [], ◌∷◌, ◌++◌, length, take, drop, refl, sym, ◌∙◌, ap, arith}
use Rattle.std.proofs.Math.Seq.{drop-append_seam, take-append_seam}
use Rattle.std.proofs.lemmas.List.{append-nil, drop_min, length-drop, length-take, take_min, take_rest}
use Rattle.sexpr_text.specs.Nodes.{Node}
use Rattle.sexpr_text.specs.Trees.{Trees, nothing, word, list, spelled, trees, trees_then}

-- two rows of a list alike
list_alike : (items items' : Trees) (place : ℕ) (rest rest' : Trees) → items ≡ items' → rest ≡ rest'
    → list items place rest ≡ list items' place rest'
list_alike items items' place rest rest' e f = cc

take_short : (n : ℕ) (ts : List Node) → length (take n ts) ≤ length ts
take_short n ts = let e = length-take n ts in omega arith

drop_short : (n : ℕ) (ts : List Node) → length (drop n ts) ≤ length ts
drop_short n ts = let e = length-drop n ts in omega arith

-- A number past the row's length changes nothing.
pub spelled_alike : (n m : ℕ) (ts : List Node) (rest : Trees) → length ts ≤ n → length ts ≤ m
    → spelled n ts rest ≡ spelled m ts rest
spelled_alike n m [] rest p q = refl
spelled_alike zero m (t ∷ ts) rest p q = absurd (omega arith)
spelled_alike (suc n) zero (t ∷ ts) rest p q = absurd (omega arith)
spelled_alike (suc n) (suc m) (Node.word text place ∷ ts) rest p q =
    ap (word text place) (spelled_alike n m ts rest (omega arith) (omega arith))
spelled_alike (suc n) (suc m) (Node.list count place ∷ ts) rest p q =
    let a = take_short count ts in
    let b = drop_short count ts in
    list_alike (spelled n (take count ts) nothing) (spelled m (take count ts) nothing) place
    (spelled n (drop count ts) rest) (spelled m (drop count ts) rest)
    (spelled_alike n m (take count ts) nothing (omega arith) (omega arith))
    (spelled_alike n m (drop count ts) rest (omega arith) (omega arith))

-- a list first in a row
pub list_first : (count place : ℕ) (ts : List Node) (rest : Trees)
    → trees_then (Node.list count place ∷ ts) rest
    ≡ list (trees (take count ts)) place (trees_then (drop count ts) rest)
list_first count place ts rest =
    list_alike (spelled (length ts) (take count ts) nothing) (trees (take count ts)) place
    (spelled (length ts) (drop count ts) rest) (trees_then (drop count ts) rest)
    (spelled_alike (length ts) (length (take count ts)) (take count ts) nothing (take_short count ts) (omega arith))
    (spelled_alike (length ts) (length (drop count ts)) (drop count ts) rest (drop_short count ts) (omega arith))

-- a list, with all that stands in it, first in a row
pub list_then : (place : ℕ) (row more : List Node) (rest : Trees)
    → trees_then (Node.list (length row) place ∷ (row ++ more)) rest ≡ list (trees row) place (trees_then more rest)
list_then place row more rest =
    list_first (length row) place (row ++ more) rest
    ∙ list_alike (trees (take (length row) (row ++ more))) (trees row) place
    (trees_then (drop (length row) (row ++ more)) rest) (trees_then more rest)
    (ap trees (take-append_seam row more)) (ap (λ ts. trees_then ts rest) (drop-append_seam row more))

pub list_alone : (place : ℕ) (row : List Node) (rest : Trees)
    → trees_then (Node.list (length row) place ∷ row) rest ≡ list (trees row) place rest
list_alone place row rest =
    ap (λ ts. trees_then (Node.list (length row) place ∷ ts) rest) (sym (append-nil row)) ∙ list_then place row [] rest

-- the list that is shown of one first in a row
pub list_shown : (count place inside : ℕ) (ts : List Node) → inside ≡ min count (length ts)
    → trees (Node.list count place ∷ ts)
    ≡ list (trees (take inside ts)) place (trees (take (length ts - inside) (drop inside ts)))
list_shown count place inside ts e =
    list_first count place ts nothing
    ∙ list_alike (trees (take count ts)) (trees (take inside ts)) place (trees (drop count ts))
    (trees (take (length ts - inside) (drop inside ts)))
    (ap trees (sym (ap (λ i. take i ts) e ∙ take_min count ts)))
    (ap trees (sym (take_rest ts inside ∙ ap (λ i. drop i ts) e ∙ drop_min count ts)))
