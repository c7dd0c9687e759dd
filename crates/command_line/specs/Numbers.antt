-- The numbers that words write.
use Rattle.std.specs.Prelude.{ℕ, List, ◌&&◌, length, Bool, nat_le, Option, None, Some, if◌then◌else◌}
use Rattle.std.specs.Char.{is_ascii_digit}
use Rattle.std.specs.List.{list_all}
use Rattle.std.specs.Str.Parse.{digits_value}
use Rattle.clap.specs.Words.{Row, Text, first_of}

-- from one to seven digits and nothing else
abbrev pub are_few_digits : Text → Bool
are_few_digits word =
    list_all is_ascii_digit word && nat_le 1 (length word) && nat_le (length word) 7

-- from one to seven digits and nothing else, which write a number from the least to the most
unfoldable pub is_number : (least most : ℕ) → Text → Bool
is_number least most word =
    are_few_digits word && nat_le least (digits_value 10 word) && nat_le (digits_value 10 word) most

-- the number that the word writes
abbrev pub number_in_word : (least most : ℕ) → Text → Option ℕ
number_in_word least most word = if is_number least most word then Some (digits_value 10 word) else None

-- the number that an option's text writes, and the default where the words lack the option
abbrev pub number_or : (least most default : ℕ) → Option Text → Option ℕ
number_or least most default None = Some default
number_or least most default (Some word) = number_in_word least most word

-- the number of the option of this name
abbrev pub number_in : Text → (least most default : ℕ) → List Row → Option ℕ
number_in name least most default rows = number_or least most default (first_of name rows)

-- the same of numbers from 1 on
abbrev pub count_in_word : ℕ → Text → Option ℕ
count_in_word = number_in_word 1

abbrev pub count_in : Text → ℕ → ℕ → List Row → Option ℕ
count_in name = number_in name 1
