-- Types and what they are under, gone through from the front.
use Rattle.std.proofs.Common.{◌≡◌, ℕ, zero, suc, ◌+◌, ◌<◌, ◌≤◌, List, [], ◌∷◌, ◌++◌, length, drop, refl, sym, ap, subst, ◌∙◌, append_assoc, arith}
use Rattle.std.proofs.lemmas.List.{drop_all, append-nil}
use Rattle.task_model.specs.declared.domain.Sort as sort
use Rattle.name_tables.proofs.DeclarationsLemmas.{name_step}
use Rattle.task_model.specs.Streams.{name_at}
use Rattle.name_tables.specs.Graphs.{ascending}
use Rattle.domain_reader.specs.Cycles.{AreSorts, no_sorts, more_sorts, IsAbove, first_edge, first_edges, no_edges, under_object}

-- what types are under, from the type of a number on
abbrev pub edges_from : ℕ → List (List ℕ) → List (List ℕ)
edges_from zero ns = first_edges ns
edges_from (suc k) ns = under_object ns

from_next : (k : ℕ) (ns : List (List ℕ)) → edges_from (k + 1) ns ≡ under_object ns
from_next k ns = let one : k + 1 ≡ suc k = omega arith in ap (λ m. edges_from m ns) one

from_step : (k : ℕ) (n : List ℕ) (ns : List (List ℕ))
    → edges_from k (n ∷ ns) ≡ first_edge k ∷ edges_from (k + 1) ns
from_step zero n ns = refl
from_step (suc k) n ns = ap (λ es. (0 ∷ []) ∷ es) (sym (from_next (suc k) ns))

-- one number, or none, is in order
pub first_ordered : (k : ℕ) → ascending [] (first_edge k) ≡ first_edge k
first_ordered zero = refl
first_ordered (suc k) = refl

pub edges_more : (ns edges new : List (List ℕ)) (k : ℕ) (own : List ℕ)
    → first_edges ns ≡ edges ++ edges_from k (drop k ns) → k < length ns → own ≡ first_edge k
    → new ≡ edges ++ own ∷ [] → first_edges ns ≡ new ++ edges_from (k + 1) (drop (k + 1) ns)
edges_more ns edges new k own so_far lt is pushed =
    so_far ∙ ap (λ ms. edges ++ edges_from k ms) (name_step ns k lt) ∙ ap (λ es. edges ++ es) (from_step k (name_at ns k) (drop (k + 1) ns))
    ∙ ap (λ o. edges ++ o ∷ edges_from (k + 1) (drop (k + 1) ns)) (sym is)
    ∙ sym (append_assoc edges (own ∷ []) (edges_from (k + 1) (drop (k + 1) ns)))
    ∙ ap (λ es. es ++ edges_from (k + 1) (drop (k + 1) ns)) (sym pushed)

pub none_more : (ns edges new : List (List ℕ)) (k : ℕ) (own : List ℕ)
    → no_edges ns ≡ edges ++ no_edges (drop k ns) → k < length ns → own ≡ []
    → new ≡ edges ++ own ∷ [] → no_edges ns ≡ new ++ no_edges (drop (k + 1) ns)
none_more ns edges new k own so_far lt is pushed =
    so_far ∙ ap (λ ms. edges ++ no_edges ms) (name_step ns k lt)
    ∙ ap (λ o. edges ++ o ∷ no_edges (drop (k + 1) ns)) (sym is) ∙ sym (append_assoc edges (own ∷ []) (no_edges (drop (k + 1) ns)))
    ∙ ap (λ es. es ++ no_edges (drop (k + 1) ns)) (sym pushed)

-- the types so far, before those that come
abbrev pub Before : List (List ℕ) → List (List ℕ) → ℕ → List sort.Sort → Type 0
Before edges names k list =
    (rest : List sort.Sort) → AreSorts edges k (drop k names) rest
    → AreSorts edges 0 names (list ++ rest)

pub sorts_more : (edges names : List (List ℕ)) (list new : List sort.Sort) (k : ℕ) (name above : List ℕ)
    → Before edges names k list → k < length names → name ≡ name_at names k → IsAbove edges k above
    → new ≡ list ++ record { name = name; above = above } ∷ [] → Before edges names (k + 1) new
sorts_more edges names list new k name above so_far lt is up pushed =
    λ rest r.
    let front : drop k names ≡ name ∷ drop (k + 1) names = name_step names k lt ∙ ap (λ n. n ∷ drop (k + 1) names) (sym is) in
    let whole : list ++ record { name = name; above = above } ∷ rest ≡ new ++ rest =
    sym (append_assoc list (record { name = name; above = above } ∷ []) rest) ∙ ap (λ xs. xs ++ rest) (sym pushed) in
    subst (AreSorts edges 0 names) whole (so_far (record { name = name; above = above } ∷ rest)
    (subst (λ ns. AreSorts edges k ns (record { name = name; above = above } ∷ rest)) (sym front) (more_sorts up r)))

pub sorts_all : (edges names : List (List ℕ)) (list : List sort.Sort) (k : ℕ)
    → Before edges names k list → length names ≤ k → AreSorts edges 0 names list
sorts_all edges names list k so_far le =
    subst (AreSorts edges 0 names) (append-nil list) (so_far [] (subst (λ ns. AreSorts edges k ns []) (sym (drop_all k names le)) no_sorts))
