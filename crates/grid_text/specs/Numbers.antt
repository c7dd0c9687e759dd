-- Fields that write numbers.
use Rattle.std.specs.Prelude.{ℕ, ◌^◌, Bool, ◌&&◌, nat_le, nat_lt, List, length}
use Rattle.std.specs.Char.{is_ascii_digit}
use Rattle.std.specs.List.{list_all}
use Rattle.std.specs.Str.Parse.{digits_value}
use Rattle.gen_lines.specs.Reply.{is_filled}

-- digits alone, whose value is below 2^32; leading zeros may stand
unfoldable pub is_decimal : List ℕ → Bool
is_decimal field =
    is_filled field && list_all is_ascii_digit field && nat_lt (digits_value 10 field) (2 ^ 32)

-- one to four digits
unfoldable pub is_short_number : List ℕ → Bool
is_short_number field = is_decimal field && nat_le (length field) 4

-- one to four digits, whose value is from 1 to `most`
unfoldable pub is_extent : ℕ → List ℕ → Bool
is_extent most field =
    is_short_number field && nat_le 1 (digits_value 10 field) && nat_le (digits_value 10 field) most
