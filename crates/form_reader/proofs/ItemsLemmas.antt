-- Declarations of functions, one after the other.
use Rattle.std.proofs.Common.{◌≡◌, ℕ, refl, Option}
use Rattle.sexpr_text.specs.Trees.{Trees, list}
use Rattle.form_reader.specs.declared.fault.Fault.{Fault}
use Rattle.form_reader.specs.declared.groups.Spot.{Spot}
use Rattle.form_reader.specs.declared.groups.Spot.TheVariants.{Start, Named, Typed}
use Rattle.form_reader.specs.declared.words.WordSort.TheVariants.{Name}
use Rattle.form_reader.specs.Faults.{first}
use Rattle.form_reader.specs.Items.{functions_faults}
use Rattle.form_reader.specs.Rows.{declaration_faults}
use Rattle.form_reader.proofs.FaultsFirstLemmas.{first_append}

-- A list that isn't a type is a declaration, and the others are behind it.
pub functions_behind : (spot : Spot) (place at : ℕ) (items rest : Trees) (so_far : Option Fault) → (spot ≡ Typed → ⊥)
    → first so_far (functions_faults place spot (list items at rest))
    ≡ first (first so_far (declaration_faults Name at items)) (functions_faults place Named rest)
functions_behind Start place at items rest so_far other =
    first_append so_far (declaration_faults Name at items) (functions_faults place Named rest)
functions_behind Named place at items rest so_far other =
    first_append so_far (declaration_faults Name at items) (functions_faults place Named rest)
functions_behind Typed place at items rest so_far other = absurd (other refl)
