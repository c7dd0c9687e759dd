-- The lines of a grid file.
use Rattle.std.specs.Prelude.{ℕ, Bool, true, ◌&&◌, ◌==◌, nat_le, List, [], ◌∷◌, ◌++◌}
use Rattle.std.specs.List.{list_all}
use Rattle.gen_lines.specs.Lines.{lines_of, unfinished}

-- The lines that end with a line feed, without it and without one carriage return before it; and then what stands
-- behind the last line feed, as it is. Where nothing stands there, that is an empty line more, which is passed over.
abbrev pub lines_in : List ℕ → List (List ℕ)
lines_in bytes = lines_of bytes ++ unfinished bytes ∷ []

-- a space, or a byte from ! to ~
abbrev pub may_stand : ℕ → Bool
may_stand b = nat_le 32 b && nat_le b 126

abbrev pub may_stand_in_line : List ℕ → Bool
may_stand_in_line line = list_all may_stand line

-- empty, or beginning with ;
abbrev pub is_passed_over : List ℕ → Bool
is_passed_over [] = true
is_passed_over (b ∷ bs) = b == 59

-- all lines are passed over
unfoldable pub is_bare : List ℕ → Bool
is_bare bytes = list_all is_passed_over (lines_in bytes)
