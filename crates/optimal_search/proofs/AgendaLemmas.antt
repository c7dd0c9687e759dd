-- The queue of the open states.
use Rattle.std.proofs.Common.{◌≡◌, ℕ, zero, suc, ◌+◌, ◌<◌, ◌≤◌, ◌⊎◌, inl, inr, false, List, [], ◌∷◌, ◌++◌, length, length-append, get_or, refl, sym, ap, subst, ◌∙◌, arith, Option, None, Some, slice_get, slice_set, Contains}
use Rattle.std.specs.BinaryHeap.{IsHeap, IsUpperBound}
use Rattle.std.specs.List.Sorted.{IsPermutation}
use Rattle.std.specs.Ordering.{is_lt, nat_cmp, ordering_then}
use Rattle.std.specs.declared.cmp.Ordering.{Ordering}
use Rattle.std.specs.declared.cmp.Ordering.TheVariants.{Less, Equal, Greater}
use Rattle.std.specs.declared.cmp.Reverse.{Reverse}
use Rattle.std.proofs.lemmas.List.{length-set, set-get_or}
use Rattle.std.proofs.lemmas.List.Sorted.{Contains-permutation, IsPermutation-sym}
use Rattle.std.proofs.lemmas.Map.Keys.{ge_from_not_lt}
use Rattle.std.proofs.lemmas.Option.{same_Some, slice_get_within}
use Rattle.lemmas.proofs.Ascending.{all_at, contains_cases, contains_here, contains_later}
use Rattle.lemmas.proofs.ListTests.{one_there}
use Rattle.lemmas.proofs.Members.{push_cases}
use Rattle.optimal_search.specs.Agenda.{AreQueued, IsOpenNodeAt, closed, entry_cmp, lowered}
use Rattle.optimal_search.specs.declared.agenda.Node.{Node}
use Rattle.optimal_search.specs.declared.agenda.Open.{Open}
use Rattle.best_first.specs.declared.tree.Link.{Link}

-- ---- a list of which one member is written anew

pub set_cases : {A : Type 0} (xs : List A) (i : ℕ) (v : A) (k : ℕ) (x : A) → slice_get (slice_set xs i v) k ≡ Some x
    → ((k ≡ i) × (x ≡ v)) ⊎ (¬ (k ≡ i) × (slice_get xs k ≡ Some x))
set_cases [] i v k x at = absurd (cc)
set_cases (y ∷ ys) zero v zero x at = inl (refl, sym (same_Some v x at))
set_cases (y ∷ ys) zero v (suc k) x at = inr (λ same. absurd (omega (arith, same)), at)
set_cases (y ∷ ys) (suc i) v zero x at = inr (λ same. absurd (omega (arith, same)), at)
set_cases (y ∷ ys) (suc i) v (suc k) x at =
    elim (set_cases ys i v k x at) [ inl h ↦ inl (ap suc h.0, h.1) | inr h ↦ inr (λ same. h.0 (omega (arith, same)), h.1) ]

pub get_set : {A : Type 0} (xs : List A) (i : ℕ) (a b : A) → slice_get xs i ≡ Some a
    → slice_get (slice_set xs i b) i ≡ Some b
get_set [] i a b e = absurd (cc)
get_set (x ∷ xs) zero a b e = refl
get_set (x ∷ xs) (suc i) a b e = get_set xs i a b e

pub get_set_other : {A : Type 0} (xs : List A) (i k : ℕ) (b : A) → ¬ (k ≡ i)
    → slice_get (slice_set xs i b) k ≡ slice_get xs k
get_set_other [] i k b other = refl
get_set_other (x ∷ xs) zero zero b other = absurd (other refl)
get_set_other (x ∷ xs) zero (suc k) b other = refl
get_set_other (x ∷ xs) (suc i) zero b other = refl
get_set_other (x ∷ xs) (suc i) (suc k) b other = get_set_other xs i k b (λ e. other (ap suc e))

pub length_set : {A : Type 0} (xs : List A) (i : ℕ) (v : A) → length (slice_set xs i v) ≡ length xs
length_set xs i v = length-set xs i v

-- what is written where it stands changes nothing
pub set_same : {A : Type 0} (xs : List A) (i : ℕ) (x : A) → x ≡ get_or xs i x → slice_set xs i x ≡ xs
set_same xs i x e = ap (slice_set xs i) e ∙ set-get_or xs i x

-- what isn't something is nothing
pub none_from : {A : Type 0} (o : Option A) → ((x : A) → o ≡ Some x → ⊥) → o ≡ None
none_from None not = refl
none_from (Some x) not = absurd (not x refl)

-- ---- open nodes

pub open_once : (nodes : List Node) (place : ℕ) (v w : Node) (l m : Link) → IsOpenNodeAt nodes place v l
    → IsOpenNodeAt nodes place w m → v ≡ w
open_once nodes place v w l m a b = one_there nodes place v w a.0 b.0

-- a node that is closed isn't open
pub closed_not_open : (nodes : List Node) (place : ℕ) (v w : Node) (l : Link) → slice_get nodes place ≡ Some v
    → v.last ≡ None → IsOpenNodeAt nodes place w l → ⊥
closed_not_open nodes place v w l at none is =
    let same = one_there nodes place v w at is.0 in
    let both : None ≡ Some l = sym none ∙ ap (λ (u : Node). u.last) same ∙ is.1 in
    absurd (cc)

-- ---- the order of the queue

not_lt_first : (a b : Ordering) → is_lt (ordering_then a b) ≡ false → is_lt a ≡ false
not_lt_first Less b e = e
not_lt_first Equal b e = refl
not_lt_first Greater b e = e

-- the entry that is taken has the least rank
pub least_rank : (queue : List (Reverse Open)) (first entry : Reverse Open) → IsUpperBound entry_cmp first queue
    → Contains queue entry → first.0.rank ≤ entry.0.rank
least_rank queue first entry bound there =
    ge_from_not_lt entry.0.rank first.0.rank
    (not_lt_first (nat_cmp entry.0.rank first.0.rank) _ (all_at (λ y. is_lt (entry_cmp first y) ≡ false) queue bound entry there))

-- ---- how the queue changes

-- a queue of more entries serves as well, where each of them does
module _ (nodes : List Node) (queue now : List (Reverse Open)) (entry : Reverse Open)
    (moved : IsPermutation (entry ∷ queue) now) where
  pub in_now : (other : Reverse Open) → Contains (entry ∷ queue) other → Contains now other
  in_now other c = Contains-permutation (entry ∷ queue) now other moved c

  pub now_cases : (other : Reverse Open) → Contains now other → (entry ≡ other) ⊎ Contains queue other
  now_cases other c =
      contains_cases entry queue other (Contains-permutation now (entry ∷ queue) other (IsPermutation-sym (entry ∷ queue) now moved) c)

pub queued_added : (nodes : List Node) (queue now : List (Reverse Open)) (node : Node) (entry : Reverse Open)
    → AreQueued nodes queue → IsPermutation (entry ∷ queue) now → IsHeap entry_cmp now
    → entry.0.place ≡ length nodes → entry.0.rank ≡ node.cost + node.left → AreQueued (nodes ++ node ∷ []) now
queued_added nodes queue now node entry q moved heap place rank =
    let longer = length-append nodes (node ∷ []) in
    record {
      heap = heap;
      places = λ other c.
          elim (now_cases nodes queue now entry moved other c) [
            | inl same ↦ subst (λ (o : Reverse Open). o.0.place < length (nodes ++ node ∷ [])) same (omega (arith, place, longer))
            | inr k ↦ omega (arith, q.places other k, longer)
          ];
      ranks = λ other v link c at.
          elim (push_cases nodes node other.0.place v at.0) [
            | inl old ↦
                elim (now_cases nodes queue now entry moved other c) [
                  | inl same ↦
                      absurd (omega (arith, slice_get_within nodes other.0.place v old, place, ap (λ (o : Reverse Open). o.0.place) same))
                  | inr k ↦ q.ranks other v link k (old, at.1)
                ]
            | inr new ↦
                elim (now_cases nodes queue now entry moved other c) [
                  | inl same ↦
                      subst (λ (o : Reverse Open). v.cost + v.left ≤ o.0.rank) same
                      (subst (λ (u : Node). u.cost + u.left ≤ entry.0.rank) (sym new.1) (omega (arith, rank)))
                  | inr k ↦ absurd (omega (arith, q.places other k, new.0))
                ]
          ];
      entries = λ at v link is.
          elim (push_cases nodes node at v is.0) [
            | inl old ↦
                let e = q.entries at v link (old, is.1) in
                (e.0, in_now nodes queue now entry moved e.0 (contains_later entry queue e.0 e.1), e.2, e.3)
            | inr new ↦ (
              entry,
              in_now nodes queue now entry moved entry (contains_here entry queue),
              place ∙ sym new.0,
              rank ∙ ap (λ (u : Node). u.cost + u.left) (sym new.1),
            )
          ];
    }

-- the entries of a node whose way gets cheaper stay, besides the new one
pub queued_lowered : (nodes : List Node) (queue now : List (Reverse Open)) (at cost : ℕ) (link : Link) (was : Node)
    (before : Link) (entry : Reverse Open) → AreQueued nodes queue → IsPermutation (entry ∷ queue) now
    → IsHeap entry_cmp now → IsOpenNodeAt nodes at was before → cost ≤ was.cost → entry.0.place ≡ at
    → entry.0.rank ≡ cost + was.left → AreQueued (slice_set nodes at (lowered was cost link)) now
queued_lowered nodes queue now at cost link was before entry q moved heap held dearer place rank =
    let node = lowered was cost link in
    let long = length_set nodes at node in
    record {
      heap = heap;
      places = λ other c.
          elim (now_cases nodes queue now entry moved other c) [
            | inl same ↦
                subst (λ (o : Reverse Open). o.0.place < length (slice_set nodes at node)) same
                (omega (arith, place, long, slice_get_within nodes at was held.0))
            | inr k ↦ omega (arith, q.places other k, long)
          ];
      ranks = λ other v l c is.
          elim (set_cases nodes at node other.0.place v is.0) [
            | inl here ↦
                elim (now_cases nodes queue now entry moved other c) [
                  | inl same ↦
                      subst (λ (o : Reverse Open). v.cost + v.left ≤ o.0.rank) same
                      (subst (λ (u : Node). u.cost + u.left ≤ entry.0.rank) (sym here.1) (omega (arith, rank)))
                  | inr k ↦
                      let old = q.ranks other was before k (subst (λ n. slice_get nodes n ≡ Some was) (sym here.0) held.0, held.1) in
                      subst (λ (u : Node). u.cost + u.left ≤ other.0.rank) (sym here.1) (omega (arith, old, dearer))
                ]
            | inr else ↦
                elim (now_cases nodes queue now entry moved other c) [
                  | inl same ↦ absurd (else.0 (sym (ap (λ (o : Reverse Open). o.0.place) same) ∙ place))
                  | inr k ↦ q.ranks other v l k (else.1, is.1)
                ]
          ];
      entries = λ k v l is.
          elim (set_cases nodes at node k v is.0) [
            | inl here ↦ (
              entry,
              in_now nodes queue now entry moved entry (contains_here entry queue),
              place ∙ sym here.0,
              rank ∙ ap (λ (u : Node). u.cost + u.left) (sym here.1),
            )
            | inr else ↦
                let e = q.entries k v l (else.1, is.1) in
                (e.0, in_now nodes queue now entry moved e.0 (contains_later entry queue e.0 e.1), e.2, e.3)
          ];
    }

-- the entry that is taken is of a closed node, and isn't needed
pub queued_passed : (nodes : List Node) (queue now : List (Reverse Open)) (entry : Reverse Open) (node : Node)
    → AreQueued nodes queue → IsPermutation queue (entry ∷ now) → IsHeap entry_cmp now
    → slice_get nodes entry.0.place ≡ Some node → node.last ≡ None → AreQueued nodes now
queued_passed nodes queue now entry node q moved heap at none =
    let back = λ (other : Reverse Open) (c : Contains now other).
    Contains-permutation (entry ∷ now) queue other (IsPermutation-sym queue (entry ∷ now) moved) (contains_later entry now other c) in
    record {
      heap = heap;
      places = λ other c. q.places other (back other c);
      ranks = λ other v l c is. q.ranks other v l (back other c) is;
      entries = λ k v l is.
          let e = q.entries k v l is in
          elim (contains_cases entry now e.0 (Contains-permutation queue (entry ∷ now) e.0 moved e.1)) [
            | inl same ↦
                absurd (closed_not_open nodes k node v l
                (subst (λ n. slice_get nodes n ≡ Some node) (ap (λ (o : Reverse Open). o.0.place) same ∙ e.2) at) none is)
            | inr c ↦ (e.0, c, e.2, e.3)
          ];
    }

-- the entry that is taken is of an open node, which is closed
pub queued_closed : (nodes : List Node) (queue now : List (Reverse Open)) (entry : Reverse Open) (node : Node)
    → AreQueued nodes queue → IsPermutation queue (entry ∷ now) → IsHeap entry_cmp now
    → slice_get nodes entry.0.place ≡ Some node → AreQueued (slice_set nodes entry.0.place (closed node)) now
queued_closed nodes queue now entry node q moved heap at =
    let long = length_set nodes entry.0.place (closed node) in
    let back = λ (other : Reverse Open) (c : Contains now other).
    Contains-permutation (entry ∷ now) queue other (IsPermutation-sym queue (entry ∷ now) moved) (contains_later entry now other c) in
    record {
      heap = heap;
      places = λ other c. omega (arith, q.places other (back other c), long);
      ranks = λ other v l c is.
          elim (set_cases nodes entry.0.place (closed node) other.0.place v is.0) [
            | inl here ↦ absurd (let none : v.last ≡ None = ap (λ (u : Node). u.last) here.1 in cc)
            | inr else ↦ q.ranks other v l (back other c) (else.1, is.1)
          ];
      entries = λ k v l is.
          elim (set_cases nodes entry.0.place (closed node) k v is.0) [
            | inl here ↦ absurd (let none : v.last ≡ None = ap (λ (u : Node). u.last) here.1 in cc)
            | inr else ↦
                let e = q.entries k v l (else.1, is.1) in
                elim (contains_cases entry now e.0 (Contains-permutation queue (entry ∷ now) e.0 moved e.1)) [
                  | inl same ↦ absurd (else.0 (sym e.2 ∙ sym (ap (λ (o : Reverse Open). o.0.place) same)))
                  | inr c ↦ (e.0, c, e.2, e.3)
                ]
          ];
    }

-- of no open node is the sum less than that of the one that is taken
pub queued_least : (nodes : List Node) (queue : List (Reverse Open)) (entry : Reverse Open) (node : Node) (link : Link)
    → AreQueued nodes queue → IsUpperBound entry_cmp entry queue → Contains queue entry
    → IsOpenNodeAt nodes entry.0.place node link → (other : ℕ) (v : Node) (l : Link) → IsOpenNodeAt nodes other v l
    → node.cost + node.left ≤ v.cost + v.left
queued_least nodes queue entry node link q first there here other v l is =
    let e = q.entries other v l is in
    omega (arith, q.ranks entry node link there here, least_rank queue entry e.0 first e.1, e.3)

pub queued_none : (nodes : List Node) (queue : List (Reverse Open)) → AreQueued nodes queue → length queue ≡ 0
    → (place : ℕ) (node : Node) (link : Link) → ¬ (IsOpenNodeAt nodes place node link)
queued_none nodes queue q none place node link is =
    let e = q.entries place node link is in absurd (omega (arith, e.1.1, none))
