-- Parts of a condition, seen from the front, and slots that are put back.
use Rattle.std.proofs.Common.{◌≡◌, ℕ, zero, suc, ◌<◌, Bool, true, ◌&&◌, ◌||◌, List, [], ◌∷◌, length, drop, get_or, refl, sym, ap, subst, arith, slice_index, slice_set}
use Rattle.std.specs.Cmp.{first_so, second_so}
use Rattle.task_model.specs.Condition.{Condition, parts_of}
use Rattle.task_model.specs.Truth.{truth, all_true, any_true}
use Rattle.task_model.specs.declared.domain.Domain.{Domain}
use Rattle.formula_eval.specs.Readable.{is_readable, are_readable}

module _ (atom : ℕ → List ℕ → Bool) (objects : ℕ → List ℕ) (slots : List ℕ) where
  pub all_true-drop : (cs : List Condition) (i : ℕ) (c : Condition) → i < length cs
      → c ≡ get_or cs i c
      → all_true atom objects (parts_of (drop i cs)) slots
      ≡ (truth atom objects c slots && all_true atom objects (parts_of (drop (suc i) cs)) slots)
  all_true-drop [] i c h e = absurd (omega arith)
  all_true-drop (x ∷ xs) zero c h e =
      ap (λ y. truth atom objects y slots && all_true atom objects (parts_of xs) slots) (sym e)
  all_true-drop (x ∷ xs) (suc i) c h e = all_true-drop xs i c (omega arith) e

  pub any_true-drop : (cs : List Condition) (i : ℕ) (c : Condition) → i < length cs
      → c ≡ get_or cs i c
      → any_true atom objects (parts_of (drop i cs)) slots
      ≡ (truth atom objects c slots || any_true atom objects (parts_of (drop (suc i) cs)) slots)
  any_true-drop [] i c h e = absurd (omega arith)
  any_true-drop (x ∷ xs) zero c h e =
      ap (λ y. truth atom objects y slots || any_true atom objects (parts_of xs) slots) (sym e)
  any_true-drop (x ∷ xs) (suc i) c h e = any_true-drop xs i c (omega arith) e

pub readable_part : (domain : Domain) (cs : List Condition) (i : ℕ) (c : Condition)
    → are_readable domain (parts_of cs) ≡ true
    → i < length cs → c ≡ get_or cs i c → is_readable domain c ≡ true
readable_part domain [] i c all h e = absurd (omega arith)
readable_part domain (x ∷ xs) zero c all h e =
    subst (λ y. is_readable domain y ≡ true) (sym e) (first_so (is_readable domain x) (are_readable domain (parts_of xs)) all)
readable_part domain (x ∷ xs) (suc i) c all h e =
    readable_part domain xs i c (second_so (is_readable domain x) (are_readable domain (parts_of xs)) all) (omega arith) e

-- ---- slots

pub set_back : (slots : List ℕ) (i : ℕ) → slice_set slots i (slice_index slots i) ≡ slots
set_back [] i = refl
set_back (x ∷ xs) zero = refl
set_back (x ∷ xs) (suc i) = ap (λ ys. x ∷ ys) (set_back xs i)

pub set_twice : (slots : List ℕ) (i a b : ℕ)
    → slice_set (slice_set slots i a) i b ≡ slice_set slots i b
set_twice [] i a b = refl
set_twice (x ∷ xs) zero a b = refl
set_twice (x ∷ xs) (suc i) a b = ap (λ ys. x ∷ ys) (set_twice xs i a b)
