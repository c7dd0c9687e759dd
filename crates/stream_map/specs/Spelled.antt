-- A pool as a map spells it, or a command.
use Rattle.std.specs.Prelude.{ℕ, List, [], ◌∷◌, length, map, string_bytes, codes, Bool, false, not, ◌&&◌, ◌||◌, ◌==◌, nat_le}
use Rattle.std.specs.Str.{bytes_eq}
use Rattle.stream_map.specs.declared.pool_text.PoolText.{PoolText}

-- The words that start each worker; how many workers, where a negative number counts as 0; the names of the streams in
-- lower case.
pub record Spelled : Type 0 where
  pub run : List (List ℕ)
  pub workers : ℕ
  pub streams : List (List ℕ)

-- the pool that the code holds
abbrev pub shown_pool_text : PoolText → Spelled
shown_pool_text pool =
    record { run = map string_bytes pool.run; workers = pool.workers; streams = pool.streams }

unfoldable pub is_grid_word : List ℕ → Bool
is_grid_word word = bytes_eq word (codes "@grid")

-- whether the words are for the generator in the process
abbrev pub begins_grid : List (List ℕ) → Bool
begins_grid [] = false
begins_grid (word ∷ words) = is_grid_word word

-- 1 to 64 words; behind `@grid` stands one, the file
abbrev pub is_program : List (List ℕ) → Bool
is_program words =
    nat_le 1 (length words) && nat_le (length words) 64
    && (not (begins_grid words) || (length words == 2))
