-- The lists that are open.
use Rattle.std.proofs.Common.{◌≡◌, ℕ, ◌+◌, ◌-◌, ◌<◌, true, List, [], ◌∷◌, ◌++◌, length, set, refl, sym, ◌∙◌, ap, arith}
use Rattle.std.proofs.Math.Seq.{set-append_seam}
use Rattle.std.proofs.lemmas.List.{append_assoc, length-append}
use Rattle.sexpr_text.specs.Nodes.{Node}
use Rattle.sexpr_text.specs.declared.nest.Begun.{Begun}
use Rattle.sexpr_text.specs.declared.nest.Nest.{Nest}
use Rattle.sexpr_text.specs.Trees.{trees_then}
use Rattle.sexpr_text.specs.Reading.{Levels, opened}
use Rattle.sexpr_text.specs.Nesting.{Opens, one, within, open_count, outermost, row_of, begun_in, added, nested}
use Rattle.sexpr_text.specs.Nesting.{IsClosed, AreClosed, Holds, Closes}
use Rattle.sexpr_text.proofs.TreesLemmas.{list_alone, list_then}

-- as many are open as are kept, and the outermost
pub begun_count : (os : Opens) → length (begun_in os) + 1 ≡ open_count os
begun_count (one place row) = refl
begun_count (within os place row) =
    let h = begun_count os in
    let e = length-append (begun_in os) (record { at = length (row_of os); place = place } ∷ []) in
    omega arith

-- More in the innermost list is more at the row's end, and opens and closes none.
row_of-added : (os : Opens) (more : List Node) → row_of (added os more) ≡ row_of os ++ more
row_of-added (one place row) more = refl
row_of-added (within os place row) more = sym (append_assoc (row_of os) (Node.list 0 place ∷ row) more)

begun_in-added : (os : Opens) (more : List Node) → begun_in (added os more) ≡ begun_in os
begun_in-added (one place row) more = refl
begun_in-added (within os place row) more = refl

outermost-added : (os : Opens) (more : List Node) → outermost (added os more) ≡ outermost os
outermost-added (one place row) more = refl
outermost-added (within os place row) more = refl

pub open_count-added : (os : Opens) (more : List Node) → open_count (added os more) ≡ open_count os
open_count-added (one place row) more = refl
open_count-added (within os place row) more = refl

closed_both : (row more : List Node) → IsClosed row → IsClosed more → IsClosed (row ++ more)
closed_both row more h k = λ others rest.
    ap (λ ts. trees_then ts rest) (append_assoc row more others)
    ∙ h (more ++ others) rest
    ∙ ap (trees_then row) (k others rest)
    ∙ sym (h more (trees_then others rest))

closed_list : (place : ℕ) (row : List Node) → IsClosed (Node.list (length row) place ∷ row)
closed_list place row = λ more rest. list_then place row more rest ∙ sym (list_alone place row (trees_then more rest))

closed-added : (os : Opens) (more : List Node) → AreClosed os → IsClosed more → AreClosed (added os more)
closed-added (one place row) more h k = closed_both row more h k
closed-added (within os place row) more h k = (h.0, closed_both row more h.1 k)

pub nested-added : (os : Opens) (more : List Node) (l : Levels) → AreClosed os
    → nested (added os more) l ≡ nested os (record l { inner = trees_then more l.inner })
nested-added (one place row) more l h = ap (λ ts. opened place ts l.outer) (h more l.inner)
nested-added (within os place row) more l h = ap (λ ts. nested os (opened place ts l.outer)) (h.1 more l.inner)

-- one list more at the end
ends_alike : (xs ys : List Begun) (x y : Begun) → xs ++ x ∷ [] ≡ ys ++ y ∷ [] → (xs ≡ ys) × (x ≡ y)
ends_alike [] [] x y e = (refl, cc)
ends_alike [] (z ∷ []) x y e = absurd (cc)
ends_alike [] (z ∷ w ∷ ys) x y e = absurd (cc)
ends_alike (z ∷ []) [] x y e = absurd (cc)
ends_alike (z ∷ w ∷ xs) [] x y e = absurd (cc)
ends_alike (z ∷ xs) (w ∷ ys) x y e = let k = ends_alike xs ys x y cc in let a = k.0 in let b : z ≡ w = cc in (cc, k.1)

no_end : (xs : List Begun) (x : Begun) → [] ≡ xs ++ x ∷ [] → ⊥
no_end [] x e = absurd (cc)
no_end (y ∷ xs) x e = absurd (cc)

-- The innermost list's node is there.
pub begins_below : (n : Nest) (os : Opens) (rest : List Begun) (b : Begun) → Holds n os
    → n.begun.items ≡ rest ++ b ∷ [] → b.at < length n.items.items
begins_below n (one place row) rest b h e = absurd (no_end rest b (sym h.begun ∙ e))
begins_below n (within os place row) rest b h e =
    let k = (ends_alike (begun_in os) rest (record { at = length (row_of os); place = place }) b (sym h.begun ∙ e)).1 in
    let at : length (row_of os) ≡ b.at = ap (λ (x : Begun). x.at) k in
    let all = ap length h.items in
    let long = length-append (row_of os) (Node.list 0 place ∷ row) in
    omega arith

-- The innermost list is closed, with all that stands in it.
pub closes_inner : (n m : Nest) (os : Opens) (b : Begun) → Holds n os → n.begun.items ≡ m.begun.items ++ b ∷ []
    → m.items.items ≡ set n.items.items b.at (Node.list (length n.items.items - b.at - 1) b.place) → m.place ≡ n.place
    → Closes os true m
closes_inner n m (one place row) b h e f g = absurd (no_end m.begun.items b (sym h.begun ∙ e))
closes_inner n m (within os place row) b h e f g =
    let k = ends_alike (begun_in os) m.begun.items (record { at = length (row_of os); place = place }) b
    (sym h.begun ∙ e) in
    let at : length (row_of os) ≡ b.at = ap (λ (x : Begun). x.at) k.1 in
    let spot : place ≡ b.place = ap (λ (x : Begun). x.place) k.1 in
    let all = ap length h.items in
    let long = length-append (row_of os) (Node.list 0 place ∷ row) in
    let size : length n.items.items - b.at - 1 ≡ length row = omega arith in (
      refl,
      record {
        items = f
            ∙ ap (λ ts. set ts b.at (Node.list (length n.items.items - b.at - 1) b.place)) h.items
            ∙ ap (λ i. set (row_of os ++ Node.list 0 place ∷ row) i
            (Node.list (length n.items.items - b.at - 1) b.place))
            (sym at)
            ∙ set-append_seam (row_of os) (Node.list 0 place) row (Node.list (length n.items.items - b.at - 1) b.place)
            ∙ ap (λ i. row_of os ++ Node.list i b.place ∷ row) size
            ∙ ap (λ p. row_of os ++ Node.list (length row) p ∷ row) (sym spot)
            ∙ sym (row_of-added os (Node.list (length row) place ∷ row));
        place = g ∙ h.place ∙ sym (outermost-added os (Node.list (length row) place ∷ row));
        begun = sym k.0 ∙ sym (begun_in-added os (Node.list (length row) place ∷ row));
        closed = closed-added os (Node.list (length row) place ∷ row) h.closed.0 (closed_list place row);
      },
    )
