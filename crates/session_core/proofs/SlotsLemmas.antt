-- Slots and their children.
use Rattle.std.proofs.Common.{◌≡◌, ℕ, zero, suc, Bool, true, false, cond, ◌==◌, not, List, [], ◌∷◌, map, refl, sym, ap, ◌∙◌, Some, slice_get, option_map, is_none, drop, eqb-true, eq-eqb, arith}
use Rattle.std.proofs.Math.ListN.{set}
use Rattle.std.proofs.lemmas.Option.{slice_get-map}
use Rattle.std.proofs.lemmas.Bool.{and_parts}
use Rattle.std.proofs.lemmas.Simd.{map-map}
use Rattle.lemmas.proofs.Distinct.{distinct_tail}
use Rattle.lemmas.specs.Lists.{AreDistinct}
use Rattle.session_core.specs.Slots.{Slot, at_child, is_slot_of, slot_of, all_answered}

pub map_same : (slots : List Slot) → map (λ s. s) slots ≡ slots
map_same [] = refl
map_same (s ∷ slots) = ap (λ ts. s ∷ ts) (map_same slots)

abbrev pub children_of : List Slot → List ℕ
children_of = map (λ (s : Slot). s.child)

pub map_at : {A B : Type 0} (f g : A → B) (xs : List A)
    → ((k : ℕ) (x : A) → slice_get xs k ≡ Some x → f x ≡ g x) → map f xs ≡ map g xs
map_at f g [] same = refl
map_at f g (x ∷ xs) same = λ i. same 0 x refl i ∷ map_at f g xs (λ k y at. same (suc k) y at) i

-- ---- a change of one slot

pub at_own : (child : ℕ) (f : Slot → Slot) (s : Slot) → is_slot_of child s ≡ true
    → at_child child f s ≡ f s
at_own child f s e = ap (λ b. cond b (f s) s) e

pub at_other : (child : ℕ) (f : Slot → Slot) (s : Slot) → is_slot_of child s ≡ false
    → at_child child f s ≡ s
at_other child f s e = ap (λ b. cond b (f s) s) e

pub child_kept : (child : ℕ) (f : Slot → Slot) → ((s : Slot) → (f s).child ≡ s.child) → (s : Slot)
    → (at_child child f s).child ≡ s.child
child_kept child f keeps s = elim (is_slot_of child s) as (λ b. (cond b (f s) s).child ≡ s.child) [ true ↦ keeps s | false ↦ refl ]

pub children_kept : (g : Slot → Slot) → ((s : Slot) → (g s).child ≡ s.child) → (slots : List Slot)
    → children_of (map g slots) ≡ children_of slots
children_kept g keeps slots =
    map-map (λ (s : Slot). s.child) g slots ∙ map_at (λ (s : Slot). (g s).child) (λ (s : Slot). s.child) slots (λ k s at. keeps s)

pub slot_of-map : (g : Slot → Slot) → ((s : Slot) → (g s).child ≡ s.child)
    → (slots : List Slot) (child : ℕ)
    → slot_of (map g slots) child ≡ option_map g (slot_of slots child)
slot_of-map g keeps [] child = refl
slot_of-map g keeps (s ∷ ss) child =
    ap (λ c. cond (c == child) (Some (g s)) (slot_of (map g ss) child)) (keeps s)
    ∙ elim (is_slot_of child s) as
    (λ b. cond b (Some (g s)) (slot_of (map g ss) child) ≡ option_map g (cond b (Some s) (slot_of ss child))) [
      | true ↦ refl
      | false ↦ slot_of-map g keeps ss child
    ]

pub slot_child : (slots : List Slot) (child : ℕ) (s : Slot) → slot_of slots child ≡ Some s
    → s.child ≡ child
slot_child [] child s e = absurd (cc)
slot_child (t ∷ ts) child s e =
    elim (is_slot_of child t) as (λ b. is_slot_of child t ≡ b → cond b (Some t) (slot_of ts child) ≡ Some s → s.child ≡ child) [
      | true ↦ λ own f. let same : t ≡ s = cc in ap (λ (u : Slot). u.child) (sym same) ∙ eqb-true t.child child own
      | false ↦ λ _ f. slot_child ts child s f
    ] refl e

-- where children are distinct, each slot is the one of its child
pub own_slot : (slots : List Slot) (k : ℕ) (s : Slot) → AreDistinct (children_of slots)
    → slice_get slots k ≡ Some s
    → slot_of slots s.child ≡ Some s
own_slot [] k s d at = absurd (cc)
own_slot (t ∷ ts) zero s d at =
    let same : t ≡ s = cc in
    ap (λ b. cond b (Some t) (slot_of ts s.child)) (eq-eqb t.child s.child (ap (λ (u : Slot). u.child) same)) ∙ ap Some same
own_slot (t ∷ ts) (suc k) s d at =
    elim (is_slot_of s.child t) as (λ b. is_slot_of s.child t ≡ b → cond b (Some t) (slot_of ts s.child) ≡ Some s) [
      | true ↦ λ own.
          let later : slice_get (children_of (t ∷ ts)) (suc k) ≡ Some s.child =
          slice_get-map (λ (u : Slot). u.child) ts k ∙ ap (option_map (λ (u : Slot). u.child)) at in
          let e : 0 ≡ suc k = d 0 (suc k) s.child (ap Some (eqb-true t.child s.child own)) later in absurd (omega arith)
      | false ↦ λ _. own_slot ts k s (distinct_tail t.child (children_of ts) d) at
    ] refl

-- each slot of an answered round has an answer
pub answered_at : (slots : List Slot) (k : ℕ) (s : Slot) → all_answered slots ≡ true
    → slice_get slots k ≡ Some s → is_none s.answer ≡ false
answered_at [] k s all at = absurd (cc)
answered_at (t ∷ ts) zero s all at =
    let same : t ≡ s = cc in
    let here = (and_parts (not (is_none t.answer)) (all_answered ts) all).0 in
    elim (is_none s.answer) as (λ b. not b ≡ true → b ≡ false) [ true ↦ λ e. absurd (cc) | false ↦ λ e. refl ]
    (ap (λ (u : Slot). not (is_none u.answer)) (sym same) ∙ here)
answered_at (t ∷ ts) (suc k) s all at =
    answered_at ts k s (and_parts (not (is_none t.answer)) (all_answered ts) all).1 at

-- the place of a child's slot
pub slot_place : (slots : List Slot) (child : ℕ) (s : Slot) → slot_of slots child ≡ Some s
    → (k : ℕ) × (slice_get slots k ≡ Some s)
slot_place [] child s e = absurd (cc)
slot_place (t ∷ ts) child s e =
    elim (is_slot_of child t) as (λ b. cond b (Some t) (slot_of ts child) ≡ Some s → (k : ℕ) × (slice_get (t ∷ ts) k ≡ Some s)) [
      | true ↦ λ f. (0, f)
      | false ↦ λ f. let r = slot_place ts child s f in (suc r.0, r.1)
    ] e

-- a write at the place of a child's slot changes the slot of the child alone
pub set_at_child : (slots : List Slot) (child k : ℕ) (s : Slot) (f : Slot → Slot)
    → AreDistinct (children_of slots)
    → slice_get slots k ≡ Some s → s.child ≡ child → set slots k (f s) ≡ map (at_child child f) slots
set_at_child [] child k s f d at own = refl
set_at_child (t ∷ ts) child zero s f d at own =
    let same : t ≡ s = cc in
    let here : at_child child f t ≡ f s = ap (at_child child f) same ∙ at_own child f s (eq-eqb s.child child own) in
    λ i. sym here i ∷ untouched i
  where
    untouched : ts ≡ map (at_child child f) ts
    untouched = sym (map_at (at_child child f) (λ u. u) ts (λ j u at_j. at_other child f u (apart j u at_j)) ∙ map_same ts)
      where
        apart : (j : ℕ) (u : Slot) → slice_get ts j ≡ Some u → is_slot_of child u ≡ false
        apart j u at_j =
            elim (is_slot_of child u) as (λ b. is_slot_of child u ≡ b → b ≡ false) [
              | true ↦ λ e.
                  let same : t ≡ s = cc in
                  let later : slice_get (children_of (t ∷ ts)) (suc j) ≡ Some child =
                  slice_get-map (λ (v : Slot). v.child) ts j ∙ ap (option_map (λ (v : Slot). v.child)) at_j
                  ∙ ap Some (eqb-true u.child child e) in
                  let first : slice_get (children_of (t ∷ ts)) 0 ≡ Some child = ap Some (ap (λ (v : Slot). v.child) same ∙ own) in
                  let no : 0 ≡ suc j = d 0 (suc j) child first later in absurd (omega arith)
              | false ↦ λ _. refl
            ] refl
set_at_child (t ∷ ts) child (suc k) s f d at own =
    let later : slice_get (children_of (t ∷ ts)) (suc k) ≡ Some child =
    slice_get-map (λ (v : Slot). v.child) ts k ∙ ap (option_map (λ (v : Slot). v.child)) at ∙ ap Some own in
    let here : is_slot_of child t ≡ false = first_apart (is_slot_of child t) refl later in
    λ i. sym (at_other child f t here) i ∷ set_at_child ts child k s f (distinct_tail t.child (children_of ts) d) at own i
  where
    first_apart : (b : Bool) → is_slot_of child t ≡ b
        → slice_get (children_of (t ∷ ts)) (suc k) ≡ Some child → is_slot_of child t ≡ false
    first_apart true e later = let no : 0 ≡ suc k = d 0 (suc k) child (ap Some (eqb-true t.child child e)) later in absurd (omega arith)
    first_apart false e later = e

-- the slot of the child, where that stands first among those that are left
pub found_first : (slots : List Slot) (place child : ℕ) (s : Slot) → slice_get slots place ≡ Some s
    → s.child ≡ child
    → slot_of (drop place slots) child ≡ Some s
found_first [] place child s at own = absurd (cc)
found_first (t ∷ ts) zero child s at own =
    let same : t ≡ s = cc in
    ap (λ b. cond b (Some t) (slot_of ts child)) (eq-eqb t.child child (ap (λ (u : Slot). u.child) same ∙ own)) ∙ ap Some same
found_first (t ∷ ts) (suc k) child s at own = found_first ts k child s at own
