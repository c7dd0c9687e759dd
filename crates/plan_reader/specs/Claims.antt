-- The cost that a plan's text claims in a comment.
use Rattle.std.specs.Prelude.{ℕ, ◌^◌, Bool, false, ◌&&◌, List, [], ◌∷◌, codes, length, take, drop, Option, None, Some, if◌then◌else◌, nat_eq, nat_lt, position, option_and_then}
use Rattle.std.specs.Char.{is_ascii_digit}
use Rattle.std.specs.Cmp.Lexicographic.{pointwise}
use Rattle.std.specs.List.{list_all}
use Rattle.std.specs.Option.{option_or}
use Rattle.std.specs.Str.Parse.{digits_value}
use Rattle.sexpr_text.specs.Tokens.{is_blank}
use Rattle.plan_reader.specs.Lines.{behind_blanks, text_lines}

-- what stands behind this word, where the bytes begin with it
abbrev pub behind_word : List ℕ → List ℕ → Option (List ℕ)
behind_word word bytes =
    if pointwise nat_eq (take (length word) bytes) word then Some (drop (length word) bytes) else None

-- the bytes before this place, and all where there is none
abbrev pub before : List ℕ → Option ℕ → List ℕ
before bytes None = bytes
before bytes (Some place) = take place bytes

-- digits, one at least, of a number below 2^64
unfoldable pub is_cost : List ℕ → Bool
is_cost [] = false
is_cost (b ∷ bs) = list_all is_ascii_digit (b ∷ bs) && nat_lt (digits_value 10 (b ∷ bs)) (2 ^ 64)

-- the number that a word writes, where it is one
abbrev pub cost_in : List ℕ → Option ℕ
cost_in word = if is_cost word then Some (digits_value 10 word) else None

-- the number that the word at the front writes
abbrev pub cost_at : List ℕ → Option ℕ
cost_at bytes = cost_in (before bytes (position is_blank bytes))

-- what is claimed behind the `;` of a comment: `cost`, `=` and a number, with white space before any of them
abbrev pub claim_behind : List ℕ → Option ℕ
claim_behind bytes =
    option_and_then (λ rest.
    option_and_then (λ value. cost_at (behind_blanks value)) (behind_word (codes "=") (behind_blanks rest)))
    (behind_word (codes "cost") (behind_blanks bytes))

-- what a line claims that is a comment
abbrev pub claimed_by_line : List ℕ → Option ℕ
claimed_by_line line = option_and_then claim_behind (behind_word (codes ";") (behind_blanks line))

-- the first claim of these lines
abbrev pub first_claim : List (List ℕ) → Option ℕ
first_claim [] = None
first_claim (line ∷ lines) = option_or (claimed_by_line line) (first_claim lines)

-- the cost that a text claims, as the first comment `; cost = N` in a line of its own writes it
unfoldable pub claimed_cost : List ℕ → Option ℕ
claimed_cost text = first_claim (text_lines text)
