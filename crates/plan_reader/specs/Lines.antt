-- The lines of a plan's text, and the parts of a line.
use Rattle.std.specs.Prelude.{◌≡◌, ℕ, ◌+◌, Bool, true, false, not, ◌&&◌, ◌||◌, ◌==◌, nat_le, nat_lt, if◌then◌else◌, List, [], ◌∷◌, drop, take, length, Option, Some, None, position}
use Rattle.std.specs.Borrow.{Bor}
use Rattle.std.specs.List.{list_all, slice_split}
use Rattle.gen_lines.specs.Lines.{is_feed}
use Rattle.sexpr_text.specs.Tokens.{is_blank}

-- ---- lines

-- the lines of a text: what stands between its line feeds, before the first and behind the last
abbrev pub text_lines : List ℕ → List (List ℕ)
text_lines text = slice_split is_feed text

-- The line is the first of the text, and the rest is what stands behind its line feed, of which there may be none.
abbrev pub IsFirstTextLine : List ℕ → List ℕ → Option (Bor (List ℕ)) → Type 0
IsFirstTextLine text line None = text_lines text ≡ line ∷ []
IsFirstTextLine text line (Some rest) =
    (text_lines text ≡ line ∷ text_lines rest.now) × (length text ≡ length line + 1 + length rest.now)

-- ---- what stands on a line

-- no white space
abbrev pub is_ink : ℕ → Bool
is_ink b = not (is_blank b)

-- the bytes from this place on, and none where there is no place
abbrev pub bytes_from : List ℕ → Option ℕ → List ℕ
bytes_from bytes None = []
bytes_from bytes (Some place) = drop place bytes

-- what stands behind the white space at the front
abbrev pub behind_blanks : List ℕ → List ℕ
behind_blanks bytes = bytes_from bytes (position is_ink bytes)

-- a comment, which begins with `;`, or nothing
abbrev pub is_comment : List ℕ → Bool
is_comment [] = true
is_comment (b ∷ bs) = b == 59

-- nothing but white space, and perhaps a comment behind it
abbrev pub is_idle : List ℕ → Bool
is_idle bytes = is_comment (behind_blanks bytes)

-- ---- the number in front

abbrev pub is_digit_or_point : ℕ → Bool
is_digit_or_point b = (nat_le 48 b && nat_le b 57) || b == 46

-- digits and points, of which there is one at least
abbrev pub is_stamp : List ℕ → Bool
is_stamp bytes = nat_lt 0 (length bytes) && list_all is_digit_or_point bytes

abbrev pub is_colon : ℕ → Bool
is_colon b = b == 58

-- where the number ends in front of the `:` at this place, with the `:`; 0 where none stands there
abbrev pub stamp_before : List ℕ → Option ℕ → ℕ
stamp_before line None = 0
stamp_before line (Some colon) = if is_stamp (behind_blanks (take colon line)) then colon + 1 else 0

-- where a number with a `:` behind it ends at the front of a line; 0 where none stands there
abbrev pub stamp_end : List ℕ → ℕ
stamp_end line = stamp_before line (position is_colon line)

-- ---- brackets behind

abbrev pub is_close : ℕ → Bool
is_close b = b == 41

abbrev pub is_bracket_close : ℕ → Bool
is_bracket_close b = b == 93

-- where the brackets close, nothing stands behind but perhaps a comment
abbrev pub ends_behind : List ℕ → Option ℕ → Bool
ends_behind inside None = false
ends_behind inside (Some end) = is_idle (drop (end + 1) inside)

-- a `[`, and what stands up to the `]` that closes it
abbrev pub is_bracketed : List ℕ → Bool
is_bracketed [] = false
is_bracketed (b ∷ bs) = b == 91 && ends_behind bs (position is_bracket_close bs)

-- something in brackets
abbrev pub is_duration : List ℕ → Bool
is_duration bytes = is_bracketed (behind_blanks bytes)

-- the bytes up to the `)` at this place, where brackets alone stand behind it; else all of them
abbrev pub up_to : List ℕ → Option ℕ → List ℕ
up_to bytes None = bytes
up_to bytes (Some close) =
    if is_duration (drop (close + 1) bytes) then take (close + 1) bytes else bytes

-- the bytes up to the first `)`, where brackets alone stand behind it; else all of them
abbrev pub without_duration : List ℕ → List ℕ
without_duration bytes = up_to bytes (position is_close bytes)

-- the bytes of a line's step: without the number in front of it and the brackets behind it
abbrev pub step_bytes : List ℕ → List ℕ
step_bytes line = without_duration (drop (stamp_end line) line)
