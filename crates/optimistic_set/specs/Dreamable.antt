-- What is shown of a list of supposed entries.
use Rattle.std.specs.Prelude.{◌≡◌, ℕ, List, All, Some, slice_get}
use Rattle.task_model.specs.Dreams.{SupposedEntry}
use Rattle.task_model.specs.Known.{Known, IsCoherent}

-- what is known without them, the entries, and what is known with them, which is coherent
pub record Dreamable : Type 0 where
  pub base : Known
  pub list : List SupposedEntry
  pub known : Known
  pub coherent : IsCoherent known

-- none of the names begins with `@`
abbrev pub AreReal : List (List ℕ) → Type 0
AreReal names = All (λ name. ¬ (slice_get name 0 ≡ Some 64)) names
