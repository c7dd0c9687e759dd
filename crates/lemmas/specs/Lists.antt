-- Lists in which a member's place counts, and lists of numbers and of lines.
use Rattle.std.specs.Prelude.{◌≡◌, ℕ, zero, suc, ◌+◌, ◌<◌, ◌==◌, List, [], ◌∷◌, ◌++◌, Bool, true, Some, slice_get}
use Rattle.std.specs.List.{flat_map, list_any}
use Rattle.std.specs.declared.cmp.Ordering.{Ordering}
use Rattle.std.specs.declared.cmp.Ordering.TheVariants.{Less}

-- no member stands at two places
abbrev pub AreDistinct : {A : Type 0} → List A → Type 0
AreDistinct {A} xs = (i j : ℕ) (x : A) → slice_get xs i ≡ Some x → slice_get xs j ≡ Some x → i ≡ j

-- each member is less than all behind it
abbrev pub AreAscending : {A : Type 0} → (A → A → Ordering) → List A → Type 0
AreAscending {A} cmp xs =
    (i j : ℕ) (a b : A) → i < j → slice_get xs i ≡ Some a → slice_get xs j ≡ Some b → cmp a b ≡ Less

-- so many numbers from this one on
abbrev pub numbers_from : ℕ → ℕ → List ℕ
numbers_from first zero = []
numbers_from first (suc n) = first ∷ numbers_from (first + 1) n

-- the test leads from one to the next, from the first over these to the last
abbrev pub LeadsAlong : {A : Type 0} → (A → A → Bool) → A → List A → A → Type 0
LeadsAlong leads from [] to = leads from to ≡ true
LeadsAlong leads from (next ∷ more) to = (leads from next ≡ true) × LeadsAlong leads next more to

-- the number is one of these
abbrev pub has_number : List ℕ → ℕ → Bool
has_number numbers n = list_any (λ m. n == m) numbers

-- the lines, each with its line feed
abbrev pub lines_with_feeds : List (List ℕ) → List ℕ
lines_with_feeds lines = flat_map (λ line. line ++ 10 ∷ []) lines
