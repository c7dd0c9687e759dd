-- The objects that may stand in a call.
use Rattle.std.specs.Prelude.{◌≡◌, ℕ, ◌<◌, ◌==◌, Bool, List, ◌∷◌, ◌++◌}
use Rattle.std.specs.Fmt.{decimal}
use Rattle.report_text.specs.Forms.{IsNumber, IsObject, IsTerm}
use Rattle.report_reader.specs.declared.objects.Objects.{Objects}
use Rattle.report_reader.specs.declared.objects.Objects.TheVariants.{Real, Supposed}

abbrev pub IsArgument : Objects → List ℕ → Type 0
IsArgument Real = IsObject
IsArgument Supposed = IsTerm

-- a number from 1
abbrev pub IsPlaceNumber : List ℕ → Type 0
IsPlaceNumber field = (n : ℕ) × (0 < n) × IsNumber n × (decimal n ≡ field)

abbrev pub is_dot : ℕ → Bool
is_dot b = b == 46

-- two numbers from 1 with a dot between them
pub record AreTwoPlaces (field : List ℕ) : Type 0 where
  pub j : ℕ
  pub i : ℕ
  pub is : decimal j ++ 46 ∷ decimal i ≡ field
  pub from : (0 < j) × (0 < i)
  pub upto : IsNumber j × IsNumber i
