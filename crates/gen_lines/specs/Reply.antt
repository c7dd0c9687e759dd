-- What a line answers, and to which kind of request.
use Rattle.std.specs.Prelude.{◌≡◌, ℕ, ◌*◌, ◌≤◌, Bool, true, false, ◌&&◌, ◌||◌, not, ◌==◌, nat_le, nat_lt, List, [], ◌∷◌, ◌++◌, length, filter, codes, if◌then◌else◌}
use Rattle.std.specs.List.{slice_split, list_all}
use Rattle.std.specs.Str.{bytes_eq}
use Rattle.std.specs.Str.Parse.{digits_value}
use Rattle.gen_lines.specs.declared.answer.Wanted.{Wanted}
use Rattle.gen_lines.specs.declared.answer.Wanted.TheVariants.{Outputs, Number}
use Rattle.gen_lines.specs.declared.answer.Why.{Why}
use Rattle.gen_lines.specs.declared.answer.Why.TheVariants.{Word, Count, Value}
use Rattle.gen_lines.specs.declared.spans.TheConstants.{YIELD_TUPLES}
use Rattle.gen_lines.specs.declared.values.TheConstants.{VALUE_BYTES}
use Rattle.task_model.specs.Numbers.{is_number}

abbrev pub is_space : ℕ → Bool
is_space b = b == 32

abbrev pub is_filled : List ℕ → Bool
is_filled [] = false
is_filled (b ∷ bs) = true

-- The fields of a line: what stands between its spaces and isn't empty, which are the longest runs of other bytes.
abbrev pub fields : List ℕ → List (List ℕ)
fields line = filter is_filled (slice_split is_space line)

-- Values

-- ( ) ; # @ |
abbrev pub is_reserved : ℕ → Bool
is_reserved b = b == 40 || b == 41 || b == 59 || b == 35 || b == 64 || b == 124

-- a byte from ! to ~ that isn't reserved
abbrev pub is_value_byte : ℕ → Bool
is_value_byte b = nat_le 33 b && nat_le b 126 && not (is_reserved b)

-- the text of an object that a generator gives: 1 to 64 such bytes
unfoldable pub is_value : List ℕ → Bool
is_value field = nat_le 1 (length field) && nat_le (length field) VALUE_BYTES && list_all is_value_byte field

-- Tuples

unfoldable pub is_bar : List ℕ → Bool
is_bar field = bytes_eq field (codes "|")

-- the fields as tuples: parted by bars, or all of them as one
abbrev pub parted : Bool → List (List ℕ) → List (List (List ℕ))
parted true given = slice_split is_bar given
parted false given = given ∷ []

-- whether a field parts two tuples
abbrev pub parts_here : Bool → List ℕ → Bool
parts_here bars field = bars && is_bar field

-- bars part tuples where several may come and they aren't empty
abbrev pub has_bars : ℕ → Bool → Bool
has_bars width several = several && nat_lt 0 width

abbrev pub joined_tuples : List (List (List ℕ)) → List (List ℕ)
joined_tuples [] = []
joined_tuples (tuple ∷ tuples) = tuple ++ joined_tuples tuples

-- each tuple has this many fields, and there are no more than a yield may hold
abbrev pub are_of_width : ℕ → List (List (List ℕ)) → Bool
are_of_width width tuples =
    list_all (λ tuple. length tuple == width) tuples && nat_le (length tuples) YIELD_TUPLES

-- Replies

-- what a line says: a number of tuples with all their values in order, a number, that nothing more comes, or nothing
-- that may stand
pub data Reply : Type 0 where
  yields : ℕ → List (List ℕ) → Reply
  number : ℕ → Reply
  ends : Reply
  bad : Why → Reply

abbrev pub end_reply : List (List ℕ) → Reply
end_reply [] = ends
end_reply (field ∷ given) = bad Count

abbrev pub number_reply : List (List ℕ) → Reply
number_reply [] = bad Count
number_reply (field ∷ []) = if is_number field then number (digits_value 10 field) else bad Value
number_reply (field ∷ next ∷ given) = bad Count

abbrev pub yield_reply : ℕ → List (List (List ℕ)) → Reply
yield_reply width tuples =
    if are_of_width width tuples
    then (if list_all is_value (joined_tuples tuples) then yields (length tuples) (joined_tuples tuples) else bad Value)
    else bad Count

abbrev pub given_reply : Wanted → List (List ℕ) → Reply
given_reply (Outputs width several) given =
    yield_reply width (parted (has_bars width several) given)
given_reply Number given = number_reply given

-- the word that begins an answer other than `end`
abbrev pub word_of : Wanted → List ℕ
word_of (Outputs width several) = codes "yield"
word_of Number = codes "value"

abbrev pub reply_of_fields : Wanted → List (List ℕ) → Reply
reply_of_fields wanted [] = bad Word
reply_of_fields wanted (word ∷ given) =
    if bytes_eq word (codes "end") then end_reply given
    else if bytes_eq word (word_of wanted) then given_reply wanted given
    else bad Word

-- What a line says to a request of this kind; of several faults the first of Word, Count and Value is told.
abbrev pub reply_of : List ℕ → Wanted → Reply
reply_of line wanted = reply_of_fields wanted (fields line)

-- ---- right answers

-- a number of tuples and their values, as a stream with so many outputs may give them
pub record IsRight (outputs : ℕ) (several : Bool) (tuples : ℕ) (values : List (List ℕ)) : Type 0 where
  pub some : 1 ≤ tuples
  pub few : tuples ≤ YIELD_TUPLES
  pub one : several ≡ false → tuples ≡ 1
  pub test : outputs ≡ 0 → tuples ≡ 1
  pub count : length values ≡ tuples * outputs
  pub valid : list_all is_value values ≡ true
