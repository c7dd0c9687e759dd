-- Requests to the grid.
use Rattle.std.specs.Prelude.{ℕ, Bool, List, [], ◌∷◌, codes, Option, Some, None, if◌then◌else◌}
use Rattle.std.specs.Str.{bytes_eq}
use Rattle.std.specs.Str.Parse.{digits_value}
use Rattle.grid_text.specs.Numbers.{is_decimal}
use Rattle.grid_world.specs.Words.{served_stream}
use Rattle.grid_world.specs.declared.words.Stream.{Stream}

-- which answer of which stream is wanted, for which inputs
pub record Ask : Type 0 where
  pub turn : ℕ
  pub stream : Stream
  pub inputs : List (List ℕ)

unfoldable pub is_next : List ℕ → Bool
is_next word = bytes_eq word (codes "next")

abbrev pub ask_to : ℕ → List (List ℕ) → Option Stream → Option Ask
ask_to turn inputs None = None
ask_to turn inputs (Some stream) = Some (record { turn = turn; stream = stream; inputs = inputs })

-- `next K STREAM INPUTS`, K being digits alone whose value is below 2^32
abbrev pub ask_of : List (List ℕ) → Option Ask
ask_of [] = None
ask_of (next ∷ []) = None
ask_of (next ∷ turn ∷ []) = None
ask_of (next ∷ turn ∷ stream ∷ inputs) =
    if is_next next
    then (if is_decimal turn then ask_to (digits_value 10 turn) inputs (served_stream stream) else None)
    else None
