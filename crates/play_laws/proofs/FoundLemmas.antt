-- What is found in lists, rectangles that meet, and states from lists.
use Rattle.std.proofs.Common.{◌≡◌, ℕ, zero, suc, ◌+◌, Bool, true, false, ◌&&◌, ◌||◌, cond, nat_lt, List, [], ◌∷◌, length, refl, sym, ap, ◌∙◌, Option, Some, None, is_some, position, slice_get}
use Rattle.std.proofs.lemmas.Bool.{lt-ltb, or_left, or_right}
use Rattle.std.proofs.lemmas.Cmp.{tied_itself}
use Rattle.std.proofs.lemmas.List.Folds.{find_at}
use Rattle.std.proofs.lemmas.Option.{slice_get_within}
use Rattle.std.specs.List.{cons_option, filter_map, find, list_any, position_or_len}
use Rattle.std.specs.Ordering.{eq_by_cmp, is_eq}
use Rattle.std.specs.declared.cmp.Ordering.{Ordering}
use Rattle.std.specs.declared.cmp.Ordering.TheVariants.{Less, Equal, Greater}
use Rattle.grid_text.specs.Rects.{meets}
use Rattle.grid_text.specs.declared.rect.Rect.{Rect}
use Rattle.task_model.proofs.StateLemmas.{atoms_tied, atoms_total}
use Rattle.task_model.specs.AtomOrder.{atom_cmp}
use Rattle.task_model.specs.declared.fact.Atom.{Atom}

-- ---- places of the first that passes

where_some : (b : Bool) (m n : ℕ) → cond b (Some m) None ≡ Some n → m ≡ n
where_some true m n e = cc
where_some false m n e = absurd (cc)

pub place_is : {A : Type 0} (p : A → Bool) (xs : List A) (i : ℕ) → position p xs ≡ Some i
    → position_or_len p xs ≡ i
place_is p xs i e = where_some (nat_lt (position_or_len p xs) (length xs)) (position_or_len p xs) i e

-- what is found stands at the place of the first
pub found_is : {A : Type 0} (p : A → Bool) (xs : List A) (i : ℕ) (x : A) → position p xs ≡ Some i
    → slice_get xs i ≡ Some x → find p xs ≡ Some x
found_is p xs i x e at = find_at p xs ∙ ap (slice_get xs) (place_is p xs i e) ∙ at

pub found_place : {A : Type 0} (p : A → Bool) (xs : List A) (x : A) → find p xs ≡ Some x
    → (i : ℕ) × (position p xs ≡ Some i) × (slice_get xs i ≡ Some x)
found_place p xs x e =
    let at : slice_get xs (position_or_len p xs) ≡ Some x = sym (find_at p xs) ∙ e in
    let within = lt-ltb (position_or_len p xs) (length xs) (slice_get_within xs (position_or_len p xs) x at) in
    (position_or_len p xs, ap (λ b. cond b (Some (position_or_len p xs)) None) within, at)

pub is_there : {A : Type 0} (o : Option A) → is_some o ≡ true → (x : A) × (o ≡ Some x)
is_there None e = absurd (cc)
is_there (Some x) e = (x, refl)

-- ---- rectangles

swap_four : (p q r s : Bool) → (p && q && r && s) ≡ (q && p && s && r)
swap_four true true true true = refl
swap_four true true true false = refl
swap_four true true false true = refl
swap_four true true false false = refl
swap_four true false r s = refl
swap_four false true r s = refl
swap_four false false r s = refl

pub meets_swap : (a b : Rect) → meets a b ≡ meets b a
unfolding meets
meets_swap a b =
    swap_four (nat_lt a.x (b.x + b.w)) (nat_lt b.x (a.x + a.w)) (nat_lt a.y (b.y + b.h)) (nat_lt b.y (a.y + a.h))

-- ---- states from lists

equal_so : (o : Ordering) → is_eq o ≡ true → o ≡ Equal
equal_so Less e = absurd (cc)
equal_so Equal e = refl
equal_so Greater e = absurd (cc)

pub atom_is : (a b : Atom) → eq_by_cmp atom_cmp a b ≡ true → a ≡ b
atom_is a b e = atoms_tied a b (equal_so (atom_cmp a b) e)

pub atom_itself : (a : Atom) → eq_by_cmp atom_cmp a a ≡ true
atom_itself a = ap is_eq (tied_itself atoms_total a)

pub any_mapped : {A B : Type 0} (h : A → Option B) (p : B → Bool) (xs : List A) (i : ℕ) (x : A) (y : B)
    → slice_get xs i ≡ Some x → h x ≡ Some y → p y ≡ true → list_any p (filter_map h xs) ≡ true
any_mapped h p [] i x y at e t = absurd (cc)
any_mapped h p (z ∷ zs) zero x y at e t =
    let same : z ≡ x = cc in
    let here : h z ≡ Some y = ap h same ∙ e in
    ap (λ o. list_any p (cons_option o (filter_map h zs))) here ∙ or_left (p y) (list_any p (filter_map h zs)) t
any_mapped h p (z ∷ zs) (suc i) x y at e t =
    let rest = any_mapped h p zs i x y at e t in
    elim (h z) as (λ o. list_any p (cons_option o (filter_map h zs)) ≡ true) [
      | None ↦ rest
      | Some w ↦ or_right (p w) (list_any p (filter_map h zs)) rest
    ]

pub any_from : {A B : Type 0} (h : A → Option B) (p : B → Bool) (xs : List A) → list_any p (filter_map h xs) ≡ true
    → (i : ℕ) × (x : A) × (y : B) × (slice_get xs i ≡ Some x) × (h x ≡ Some y) × (p y ≡ true)
any_from h p [] e = absurd (cc)
any_from {A} {B} h p (z ∷ zs) e =
    elim (h z) as (λ o. h z ≡ o → list_any p (cons_option o (filter_map h zs)) ≡ true
    → (i : ℕ) × (x : A) × (y : B) × (slice_get (z ∷ zs) i ≡ Some x) × (h x ≡ Some y) × (p y ≡ true)) [
      | None ↦ λ none any. let r = any_from h p zs any in (suc r.0, r.1, r.2, r.3, r.4, r.5)
      | Some w ↦ λ some any.
          elim (p w) as (λ b. p w ≡ b → (b || list_any p (filter_map h zs)) ≡ true
          → (i : ℕ) × (x : A) × (y : B) × (slice_get (z ∷ zs) i ≡ Some x) × (h x ≡ Some y) × (p y ≡ true)) [
            | true ↦ λ t _. (0, z, w, refl, some, t)
            | false ↦ λ _ more. let r = any_from h p zs more in (suc r.0, r.1, r.2, r.3, r.4, r.5)
          ] refl any
    ] refl e
