-- The lines of a stream of bytes.
use Rattle.std.specs.Prelude.{◌≡◌, ℕ, ◌<◌, Bool, ◌==◌, List, [], ◌∷◌, ⊤, length, map, position, IfSome}
use Rattle.std.specs.List.{slice_split, after_first}
use Rattle.std.specs.Io.BufRead.{strip_last}
use Rattle.gen_lines.specs.declared.line_buf.Seen.{Seen}
use Rattle.gen_lines.specs.declared.line_buf.Seen.TheVariants.{Line, Part, TooLong}
use Rattle.gen_lines.specs.declared.line_buf.TheConstants.{LINE_BYTES}

abbrev pub is_feed : ℕ → Bool
is_feed b = b == 10

-- all parts but the last
abbrev pub ended : List (List ℕ) → List (List ℕ)
ended [] = []
ended (part ∷ []) = []
ended (part ∷ next ∷ parts) = part ∷ ended (next ∷ parts)

-- The lines of these bytes: what stands before each line feed, since the one before it, without one carriage return at
-- its end.
abbrev pub lines_of : List ℕ → List (List ℕ)
lines_of bytes = map (strip_last 13) (ended (slice_split is_feed bytes))

-- the last part
abbrev pub open_part : List (List ℕ) → List ℕ
open_part [] = []
open_part (part ∷ []) = part
open_part (part ∷ next ∷ parts) = open_part (next ∷ parts)

-- What follows the last line feed, or all where there is none.
abbrev pub unfinished : List ℕ → List ℕ
unfinished bytes = open_part (slice_split is_feed bytes)

-- what is held once the first line, if it was shown, is taken
abbrev pub left_after : List ℕ → Seen → List ℕ
left_after held (Line line) = after_first is_feed held
left_after held Part = held
left_after held TooLong = held

-- What the held bytes show.
abbrev pub Shows : List ℕ → Seen → Type 0
Shows held (Line line) =
    (lines_of held ≡ line.now ∷ lines_of (after_first is_feed held)) × (length line.now < LINE_BYTES)
Shows held Part = (lines_of held ≡ []) × (length held < LINE_BYTES)
Shows held TooLong = (lines_of held ≡ []) × (length held ≡ LINE_BYTES)

-- Fewer bytes than a buffer holds stand before the first line feed: so long is the first line as it came, with the
-- carriage return that is dropped.
abbrev pub IsFirstShort : List ℕ → Type 0
IsFirstShort held = IfSome (position is_feed held) (λ count. count < LINE_BYTES)

-- a line is shown only if it was so short as it came
abbrev pub IsShownShort : List ℕ → Seen → Type 0
IsShownShort held (Line line) = IsFirstShort held
IsShownShort held Part = ⊤
IsShownShort held TooLong = ⊤
