-- Words that write numbers.
use Rattle.std.specs.Prelude.{ℕ, Bool, false, ◌&&◌, nat_le, List, [], ◌∷◌}
use Rattle.std.specs.List.{list_all}
use Rattle.std.specs.Char.{is_ascii_digit}
use Rattle.std.specs.Str.Parse.{digits_value}
use Rattle.task_model.specs.declared.limits.TheConstants.{LARGEST_NUMBER}

-- digits alone, whose value is at most a million; leading zeros may stand
unfoldable pub is_number : List ℕ → Bool
is_number [] = false
is_number (b ∷ bs) = list_all is_ascii_digit (b ∷ bs) && nat_le (digits_value 10 (b ∷ bs)) LARGEST_NUMBER
