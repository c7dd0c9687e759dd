-- Atoms in cells, and the set that they make.
use Rattle.std.proofs.Common.{◌≡◌, ◌≢◌, ◌⊎◌, ◌==◌, ◌*◌, ◌%◌, inl, inr, ℕ, eqb-true, eq-eqb, fold, zero, suc, ◌+◌, ◌-◌, ◌<◌, Bool, true, false, ◌||◌, ◌&&◌, not, List, [], ◌∷◌, ◌++◌, length, get_or, replicate, refl, sym, ap, ◌∙◌, subst, arith, slice_set}
use Rattle.std.proofs.lemmas.Bool.{false≢true}
use Rattle.std.specs.Cmp.{second_so}
use Rattle.std.proofs.lemmas.List.{get_or-set_other, get_or-set_same, length-replicate, length-set}
use Rattle.std.specs.FinMap as finite
use Rattle.std.specs.List.{flat_map, list_any}
use Rattle.std.specs.Ordering.{eq_by_cmp}
use Rattle.lemmas.proofs.Bools.{or_assoc, or_false}
use Rattle.spread_state.specs.Cells.{IsSpread, cell_atoms, cell_in, cell_of}
use Rattle.spread_state.specs.declared.cells.TheConstants.{CELLS}
use Rattle.task_model.proofs.StateLemmas.{contains-empty, contains-from_list, contains-insert, contains-remove, contains-with_atoms, same_atoms}
use Rattle.task_model.proofs.StateOrderLemmas.{same_is, ties}
use Rattle.task_model.specs.AtomOrder.{atom_cmp}
use Rattle.task_model.specs.State.{Atoms, contains, empty, insert, items, remove, with_atoms}
use Rattle.task_model.specs.declared.fact.Atom.{Atom}

abbrev same : Atom → Atom → Bool
same = eq_by_cmp atom_cmp

same_atom_is : (q a : Atom) → same q a ≡ true → q ≡ a
same_atom_is q a e = same_is q a (ties q a ∙ e)

-- ---- cells

-- each atom has a cell
fold_within : (objects : List ℕ) (start : ℕ) → start < CELLS
    → fold (λ cell object. (cell * 1021 + object) % CELLS) start objects < CELLS
fold_within [] start lt = lt
fold_within (o ∷ os) start lt = fold_within os ((start * 1021 + o) % CELLS) (omega arith)

pub cell_within : (q : Atom) → cell_of q < CELLS
cell_within q = fold_within q.args (q.pred % CELLS) (omega arith)

-- ---- what cells hold

any_joined : (p : Atom → Bool) (xs ys : List Atom) → list_any p (xs ++ ys) ≡ (list_any p xs || list_any p ys)
any_joined p [] ys = refl
any_joined p (x ∷ xs) ys = ap (λ b. p x || b) (any_joined p xs ys) ∙ or_assoc (p x) (list_any p xs) (list_any p ys)

-- an atom stands among the cells' atoms where one of them has it
among : (cells : List Atoms) (q : Atom)
    → list_any (same q) (flat_map items cells) ≡ list_any (λ (c : Atoms). contains c q) cells
among [] q = refl
among (c ∷ cells) q =
    any_joined (same q) (items c) (flat_map items cells)
    ∙ (λ i. sym (finite.contains_key-keys c q) i || among cells q i)

-- where no cell has it, none does
none_has : (cells : List Atoms) (q : Atom) → ((k : ℕ) → contains (cell_in cells k) q ≡ true → ⊥)
    → list_any (λ (c : Atoms). contains c q) cells ≡ false
none_has [] q none = refl
none_has (c ∷ cells) q none = by (contains c q) refl (none_has cells q (λ k. none (suc k)))
  where
    by : (b : Bool) → contains c q ≡ b → list_any (λ (d : Atoms). contains d q) cells ≡ false
        → (b || list_any (λ (d : Atoms). contains d q) cells) ≡ false
    by true is rest = absurd (none zero is)
    by false is rest = rest

-- where only this one may have it, that one decides
one_has : (cells : List Atoms) (q : Atom) (m : ℕ) → m < length cells
    → ((k : ℕ) → contains (cell_in cells k) q ≡ true → m ≡ k)
    → list_any (λ (c : Atoms). contains c q) cells ≡ contains (cell_in cells m) q
one_has [] q m lt own = absurd (omega (arith, lt))
one_has (c ∷ cells) q zero lt own =
    ap (λ b. contains c q || b) (none_has cells q (λ k has. let e = own (suc k) has in omega (arith, e)))
    ∙ or_false (contains c q)
one_has (c ∷ cells) q (suc m) lt own =
    by (contains c q) refl
    (one_has cells q m (omega (arith, lt)) (λ k has. let e : suc m ≡ suc k = own (suc k) has in omega (arith, e)))
  where
    by : (b : Bool) → contains c q ≡ b → list_any (λ (d : Atoms). contains d q) cells ≡ contains (cell_in cells m) q
        → (b || list_any (λ (d : Atoms). contains d q) cells) ≡ contains (cell_in cells m) q
    by true is rest = absurd (let e = own zero is in omega (arith, e))
    by false is rest = rest

-- an atom is there where its cell has it
pub contains_in : (cells : List Atoms) → IsSpread cells → (q : Atom)
    → contains (cell_atoms cells) q ≡ contains (cell_in cells (cell_of q)) q
contains_in cells spread q =
    let lt = cell_within q in
    contains-from_list (flat_map items cells) q ∙ among cells q
    ∙ one_has cells q (cell_of q) (let many = spread.many in omega (arith, many, lt)) (λ k. spread.own k q)

-- ---- a cell that is changed

decided : (j k : ℕ) → (j ≡ k) ⊎ (j ≢ k)
decided j k = by (j == k) refl
  where
    by : (b : Bool) → (j == k) ≡ b → (j ≡ k) ⊎ (j ≢ k)
    by true e = inl (eqb-true j k e)
    by false e = inr (λ is. false≢true (sym e ∙ eq-eqb j k is))

module _ (cells : List Atoms) (spread : IsSpread cells) (k : ℕ) (lt : k < CELLS) (changed target : Atoms)
    (test : Atom → Bool → Bool) (here : (q : Atom) → contains changed q ≡ test q (contains (cell_in cells k) q))
    (there : (q : Atom) → contains target q ≡ test q (contains (cell_atoms cells) q))
    (others : (q : Atom) (b : Bool) → cell_of q ≢ k → test q b ≡ b)
    (owned : (q : Atom) → contains changed q ≡ true → cell_of q ≡ k) where
  abbrev after : List Atoms
  after = slice_set cells k changed

  inside : k < length cells
  inside = let many = spread.many in omega (arith, many, lt)

  own_after : (j : ℕ) (q : Atom) → contains (cell_in after j) q ≡ true → cell_of q ≡ j
  own_after j q has = by (decided j k)
    where
      by : (j ≡ k) ⊎ (j ≢ k) → cell_of q ≡ j
      by (inl e) =
          owned q (ap (λ c. contains c q) (sym (ap (cell_in after) e ∙ get_or-set_same cells k changed empty inside))
          ∙ has) ∙ sym e
      by (inr n) = spread.own j q (ap (λ c. contains c q) (sym (get_or-set_other cells k j changed empty n)) ∙ has)

  pub spread_after : IsSpread after
  spread_after = record { many = length-set cells k changed ∙ spread.many; own = own_after }

  pub changed_is : cell_atoms after ≡ target
  changed_is = same_atoms (cell_atoms after) target (λ q. by q (decided (cell_of q) k))
    where
      by : (q : Atom) → (cell_of q ≡ k) ⊎ (cell_of q ≢ k) → contains (cell_atoms after) q ≡ contains target q
      by q (inl e) =
          contains_in after spread_after q
          ∙ ap (λ c. contains c q) (ap (cell_in after) e ∙ get_or-set_same cells k changed empty inside)
          ∙ here q
          ∙ ap (test q) (ap (λ m. contains (cell_in cells m) q) (sym e) ∙ sym (contains_in cells spread q))
          ∙ sym (there q)
      by q (inr n) =
          contains_in after spread_after q
          ∙ ap (λ c. contains c q) (get_or-set_other cells k (cell_of q) changed empty n)
          ∙ sym (contains_in cells spread q)
          ∙ sym (others q (contains (cell_atoms cells) q) n)
          ∙ sym (there q)

-- ---- an atom more, and one less

module _ (cells : List Atoms) (spread : IsSpread cells) (a : Atom) where
  abbrev k : ℕ
  k = cell_of a

  -- an atom of another cell is another atom
  apart : (q : Atom) → cell_of q ≢ k → same q a ≡ false
  apart q other = by (same q a) refl
    where
      by : (b : Bool) → same q a ≡ b → b ≡ false
      by true e = absurd (other (ap cell_of (same_atom_is q a e)))
      by false e = refl

  abbrev with_atom : Atom → Bool → Bool
  with_atom q b = same q a || b

  abbrev without_atom : Atom → Bool → Bool
  without_atom q b = not (same q a) && b

  add_others : (q : Atom) (b : Bool) → cell_of q ≢ k → with_atom q b ≡ b
  add_others q b other = ap (λ c. c || b) (apart q other)

  remove_others : (q : Atom) (b : Bool) → cell_of q ≢ k → without_atom q b ≡ b
  remove_others q b other = ap (λ c. not c && b) (apart q other)

  add_owned : (q : Atom) → contains (insert (cell_in cells k) a) q ≡ true → cell_of q ≡ k
  add_owned q has = by (same q a) refl
    where
      by : (b : Bool) → same q a ≡ b → cell_of q ≡ k
      by true e = ap cell_of (same_atom_is q a e)
      by false e =
          spread.own k q (ap (λ b. b || contains (cell_in cells k) q) (sym e)
          ∙ sym (contains-insert (cell_in cells k) a q) ∙ has)

  remove_owned : (q : Atom) → contains (remove (cell_in cells k) a) q ≡ true → cell_of q ≡ k
  remove_owned q has =
      spread.own k q (second_so (not (same q a)) (contains (cell_in cells k) q)
      (sym (contains-remove (cell_in cells k) a q) ∙ has))

  pub added : IsSpread (slice_set cells k (insert (cell_in cells k) a))
      × (cell_atoms (slice_set cells k (insert (cell_in cells k) a)) ≡ insert (cell_atoms cells) a)
  added = (
    spread_after cells spread k (cell_within a) (insert (cell_in cells k) a) (insert (cell_atoms cells) a) with_atom
        (contains-insert (cell_in cells k) a) (contains-insert (cell_atoms cells) a) add_others add_owned,
    changed_is cells spread k (cell_within a) (insert (cell_in cells k) a) (insert (cell_atoms cells) a) with_atom
        (contains-insert (cell_in cells k) a) (contains-insert (cell_atoms cells) a) add_others add_owned,
  )

  pub removed : IsSpread (slice_set cells k (remove (cell_in cells k) a))
      × (cell_atoms (slice_set cells k (remove (cell_in cells k) a)) ≡ remove (cell_atoms cells) a)
  removed = (
    spread_after cells spread k (cell_within a) (remove (cell_in cells k) a) (remove (cell_atoms cells) a) without_atom
        (contains-remove (cell_in cells k) a) (contains-remove (cell_atoms cells) a) remove_others remove_owned,
    changed_is cells spread k (cell_within a) (remove (cell_in cells k) a) (remove (cell_atoms cells) a) without_atom
        (contains-remove (cell_in cells k) a) (contains-remove (cell_atoms cells) a) remove_others remove_owned,
  )

-- what stands in a list stands there whatever is said of places behind it
pub get_or_any : (cells : List Atoms) (k : ℕ) (d e : Atoms) → k < length cells → get_or cells k d ≡ get_or cells k e
get_or_any [] k d e lt = absurd (omega (arith, lt))
get_or_any (c ∷ cells) zero d e lt = refl
get_or_any (c ∷ cells) (suc k) d e lt = get_or_any cells k d e (omega (arith, lt))

module _ (cells : List Atoms) (spread : IsSpread cells) (a : Atom) (k : ℕ) (is : k ≡ cell_of a) (old : Atoms)
    (was : old ≡ get_or cells k old) (new : Atoms) where
  old_is : old ≡ cell_in cells (cell_of a)
  old_is =
      let many = spread.many in
      let lt = cell_within a in
      was ∙ get_or_any cells k old empty (omega (arith, many, lt, is)) ∙ ap (cell_in cells) is

  pub added_at : new ≡ insert old a
      → IsSpread (slice_set cells k new) × (cell_atoms (slice_set cells k new) ≡ insert (cell_atoms cells) a)
  added_at so =
      let there : new ≡ insert (cell_in cells (cell_of a)) a = so ∙ ap (λ s. insert s a) old_is in
      subst (λ c. IsSpread c × (cell_atoms c ≡ insert (cell_atoms cells) a))
      (λ i. slice_set cells (sym is i) (sym there i)) (added cells spread a)

  pub removed_at : new ≡ remove old a
      → IsSpread (slice_set cells k new) × (cell_atoms (slice_set cells k new) ≡ remove (cell_atoms cells) a)
  removed_at so =
      let there : new ≡ remove (cell_in cells (cell_of a)) a = so ∙ ap (λ s. remove s a) old_is in
      subst (λ c. IsSpread c × (cell_atoms c ≡ remove (cell_atoms cells) a))
      (λ i. slice_set cells (sym is i) (sym there i)) (removed cells spread a)

-- ---- no atoms

no_cell : (n k : ℕ) → cell_in (replicate n empty) k ≡ empty
no_cell zero k = refl
no_cell (suc n) zero = refl
no_cell (suc n) (suc k) = no_cell n k

pub empty_spread : IsSpread (replicate CELLS empty)
empty_spread = record {
  many = length-replicate CELLS empty;
  own = λ k q has.
      absurd (false≢true (sym (contains-empty q) ∙ ap (λ c. contains c q) (sym (no_cell CELLS k)) ∙ has));
}

pub empty_is : cell_atoms (replicate CELLS empty) ≡ empty
empty_is = same_atoms (cell_atoms (replicate CELLS empty)) empty (λ q.
    contains_in (replicate CELLS empty) empty_spread q ∙ ap (λ c. contains c q) (no_cell CELLS (cell_of q)))

-- ---- all atoms of a state

pub put_together : (state : Atoms) → with_atoms empty (items state) ≡ state
put_together state = same_atoms (with_atoms empty (items state)) state (λ q.
    contains-with_atoms empty (items state) q ∙ ap (λ b. list_any (same q) (items state) || b) (contains-empty q)
    ∙ or_false (list_any (same q) (items state)) ∙ sym (finite.contains_key-keys state q))
