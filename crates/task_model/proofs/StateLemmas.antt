-- Sets of atoms: what a set of a list contains, and its members in order.
use Rattle.std.proofs.Common.{◌≡◌, Bool, true, false, cond, not, ◌&&◌, ◌||◌, List, [], ◌∷◌, map, length, refl, sym, ap, ◌∙◌, is_some, Option, Some, None, suc}
use Rattle.std.specs.List.{list_any, AllByRecursion}
use Rattle.std.specs.List.Sorted.{IsStrictlySortedBy}
use Rattle.std.specs.Ordering.{eq_by_cmp}
use Rattle.std.specs.Cmp.{IsTotalOrder, then_total, on_total, nat_cmp_total, eq_by_cmp_equiv}
use Rattle.std.specs.Cmp.Lexicographic.{nat_list_cmp_total}
use Rattle.std.specs.FinMap as finite
use Rattle.std.specs.FinMap.{IsAntisymmetric, nat_cmp-IsAntisymmetric, slice_cmp-IsAntisymmetric}
use Rattle.std.specs.declared.cmp.Ordering.TheVariants.{Less}
use Rattle.std.proofs.lemmas.List.{nil_from_length}
use Rattle.lemmas.proofs.Bools.{or_false, or_swap, or_assoc}
use Rattle.lemmas.proofs.Ascending.{then_equal}
use Rattle.task_model.specs.AtomOrder.{atom_cmp}
use Rattle.task_model.specs.State.{Atoms, empty, contains, insert, remove, len, items, from_list, with_atoms, without_atoms}
use Rattle.task_model.specs.declared.fact.Atom.{Atom}

pub atoms_total : IsTotalOrder atom_cmp
atoms_total = then_total (on_total (λ (a : Atom). a.pred) nat_cmp_total) (on_total (λ (a : Atom). a.args) nat_list_cmp_total)

pub atoms_tied : IsAntisymmetric atom_cmp
atoms_tied a b e =
    let parts = then_equal _ _ e in
    λ i. record {
      pred = nat_cmp-IsAntisymmetric a.pred b.pred parts.0 i;
      args = slice_cmp-IsAntisymmetric nat_cmp-IsAntisymmetric a.args b.args parts.1 i;
    }

-- ---- members

pub contains-empty : (q : Atom) → contains empty q ≡ false
contains-empty q = ap is_some (finite.get-empty atom_cmp q)

or_else : (b : Bool) (x : Option (Unit {0})) → is_some (cond b (Some tt) x) ≡ (b || is_some x)
or_else true x = refl
or_else false x = refl

unless : (b : Bool) (x : Option (Unit {0})) → is_some (cond b None x) ≡ (not b && is_some x)
unless true x = refl
unless false x = refl

abbrev mark : Bool → Option (Unit {0})
mark true = Some tt
mark false = None

marked : (x : Option (Unit {0})) → x ≡ mark (is_some x)
marked None = refl
marked (Some u) = refl

pub contains-insert : (s : Atoms) (k q : Atom)
    → contains (insert s k) q ≡ (eq_by_cmp atom_cmp q k || contains s q)
contains-insert s k q = ap is_some (finite.get-insert atoms_total s k tt q) ∙ or_else _ _

pub contains-remove : (s : Atoms) (k q : Atom)
    → contains (remove s k) q ≡ (not (eq_by_cmp atom_cmp q k) && contains s q)
contains-remove s k q = ap is_some (finite.get-remove atoms_total s k q) ∙ unless _ _

pub contains-from_list : (ks : List Atom) (q : Atom)
    → contains (from_list ks) q ≡ list_any (eq_by_cmp atom_cmp q) ks
contains-from_list [] q = contains-empty q
contains-from_list (k ∷ ks) q =
    contains-insert (from_list ks) k q
    ∙ ap (λ b. eq_by_cmp atom_cmp q k || b) (contains-from_list ks q)

-- two sets with the same members are equal
pub same_atoms : (s t : Atoms) → ((q : Atom) → contains s q ≡ contains t q) → s ≡ t
same_atoms s t same =
    finite.same_map atoms_total atoms_tied s t (λ q. marked _ ∙ ap mark (same q) ∙ sym (marked _))

pub turn : (k q : Atom) → eq_by_cmp atom_cmp k q ≡ eq_by_cmp atom_cmp q k
turn k q = (eq_by_cmp_equiv atoms_total).symm k q

-- ---- members in order

abbrev pair : Atom → Atom × Unit {0}
pair a = (a, tt)

put_first : (k : Atom) (es : List Atom) → AllByRecursion (λ q. atom_cmp k q ≡ Less) es
    → finite.put atom_cmp k tt (map pair es) ≡ map pair (k ∷ es)
put_first k [] below = refl
put_first k (e ∷ es) below = rw below.0

pub entries-from_list : (ks : List Atom) → IsStrictlySortedBy atom_cmp ks
    → finite.entries (from_list ks) ≡ map pair ks
unfolding IsStrictlySortedBy
entries-from_list [] sorted = empty_entries
  where
    empty_entries : finite.entries empty ≡ []
    empty_entries =
        nil_from_length _ (sym (finite.len-entries empty) ∙ finite.len-empty atom_cmp (Unit {0}))
entries-from_list (k ∷ ks) sorted =
    finite.entries-insert atoms_total (from_list ks) k tt ∙ ap (finite.put atom_cmp k tt) (entries-from_list ks sorted.1)
    ∙ put_first k ks sorted.0

firsts : (ks : List Atom) → map (λ (e : Atom × Unit {0}). e.0) (map pair ks) ≡ ks
firsts [] = refl
firsts (k ∷ ks) = ap (λ xs. k ∷ xs) (firsts ks)

pairs_length : (ks : List Atom) → length (map pair ks) ≡ length ks
pairs_length [] = refl
pairs_length (k ∷ ks) = ap suc (pairs_length ks)

pub items-from_list : (ks : List Atom) → IsStrictlySortedBy atom_cmp ks → items (from_list ks) ≡ ks
items-from_list ks sorted = ap (map (λ e. e.0)) (entries-from_list ks sorted) ∙ firsts ks

pub len-from_list : (ks : List Atom) → IsStrictlySortedBy atom_cmp ks
    → len (from_list ks) ≡ length ks
len-from_list ks sorted =
    finite.len-entries (from_list ks) ∙ ap length (entries-from_list ks sorted) ∙ pairs_length ks

-- ---- one atom after another

pub contains-with_atoms : (s : Atoms) (ks : List Atom) (q : Atom)
    → contains (with_atoms s ks) q ≡ (list_any (eq_by_cmp atom_cmp q) ks || contains s q)
contains-with_atoms s [] q = refl
contains-with_atoms s (k ∷ ks) q =
    contains-with_atoms (insert s k) ks q ∙ ap (λ b. list_any (eq_by_cmp atom_cmp q) ks || b) (contains-insert s k q)
    ∙ or_swap (list_any (eq_by_cmp atom_cmp q) ks) (eq_by_cmp atom_cmp q k) (contains s q)
    ∙ or_assoc (eq_by_cmp atom_cmp q k) (list_any (eq_by_cmp atom_cmp q) ks) (contains s q)

-- the set of a list, put together from its front
pub with_atoms-empty : (ks : List Atom) → with_atoms empty ks ≡ from_list ks
with_atoms-empty ks =
    same_atoms (with_atoms empty ks) (from_list ks) (λ q.
    contains-with_atoms empty ks q ∙ ap (λ b. list_any (eq_by_cmp atom_cmp q) ks || b) (contains-empty q) ∙ or_false _
    ∙ sym (contains-from_list ks q))

not_or : (a b c : Bool) → (not b && (not a && c)) ≡ (not (a || b) && c)
not_or true true c = refl
not_or true false c = refl
not_or false b c = refl

pub contains-without_atoms : (s : Atoms) (ks : List Atom) (q : Atom)
    → contains (without_atoms s ks) q ≡ (not (list_any (eq_by_cmp atom_cmp q) ks) && contains s q)
contains-without_atoms s [] q = refl
contains-without_atoms s (k ∷ ks) q =
    contains-without_atoms (remove s k) ks q ∙ ap (λ b. not (list_any (eq_by_cmp atom_cmp q) ks) && b) (contains-remove s k q)
    ∙ not_or (eq_by_cmp atom_cmp q k) (list_any (eq_by_cmp atom_cmp q) ks) (contains s q)

-- an atom is there afterwards where it is put in, or was there and isn't taken out
pub contains-changed : (s : Atoms) (outs ins : List Atom) (q : Atom)
    → contains (with_atoms (without_atoms s outs) ins) q
    ≡ (list_any (eq_by_cmp atom_cmp q) ins || (not (list_any (eq_by_cmp atom_cmp q) outs) && contains s q))
contains-changed s outs ins q =
    contains-with_atoms (without_atoms s outs) ins q ∙ ap (λ b. list_any (eq_by_cmp atom_cmp q) ins || b) (contains-without_atoms s outs q)
