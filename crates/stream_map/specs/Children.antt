-- The numbers of children.
use Rattle.std.specs.Prelude.{◌≡◌, ℕ, suc, ◌+◌, ◌<◌, List, [], ◌∷◌, ◌++◌, length, take, drop, slice_index_or, map, string_bytes, if◌then◌else◌, Option, Some, None}
use Rattle.transcript_model.specs.declared.head.Pool.{Pool}
use Rattle.stream_map.specs.Spelled.{Spelled, begins_grid}
use Rattle.stream_map.specs.Faults.{is_grid, own_workers, stream_places}
use Rattle.stream_map.specs.declared.pools.TheConstants.{GRID_CHILD}

-- a pool with its words as lists of bytes
pub record PlainPool : Type 0 where
  pub first : ℕ
  pub workers : ℕ
  pub streams : List ℕ
  pub words : List (List ℕ)

abbrev pub plain : Pool → PlainPool
plain pool = record
    { first = pool.first; workers = pool.workers; streams = pool.streams; words = map string_bytes pool.argv }

-- The generator in the process is the grid's child; the others take the numbers from this one on, in their order.
abbrev pub numbered_pools : List (List ℕ) → ℕ → List Spelled → List PlainPool
numbered_pools names next [] = []
numbered_pools names next (pool ∷ pools) =
    record {
      first =
          if is_grid pool then GRID_CHILD else next;
      workers = pool.workers;
      streams = stream_places names pool;
      words = pool.run;
    }
    ∷ numbered_pools names (next + own_workers pool) pools

-- ---- the grid's file

-- the word behind the first
abbrev pub file_in : List (List ℕ) → Option (List ℕ)
file_in [] = None
file_in (word ∷ []) = None
file_in (word ∷ file ∷ words) = Some file

-- the file of the first pool that begins with `@grid`
abbrev pub grid_file : List PlainPool → Option (List ℕ)
grid_file [] = None
grid_file (pool ∷ pools) = if begins_grid pool.words then file_in pool.words else grid_file pools

-- the words with this text in the place of the second
abbrev pub with_second : List ℕ → List (List ℕ) → List (List ℕ)
with_second text [] = []
with_second text (word ∷ []) = word ∷ []
with_second text (word ∷ file ∷ words) = word ∷ text ∷ words

-- the same pools, with this text in the place of that file
abbrev pub with_text : List ℕ → List PlainPool → List PlainPool
with_text text [] = []
with_text text (pool ∷ pools) =
    if begins_grid pool.words then (record pool { words = with_second text pool.words }) ∷ pools
    else pool ∷ with_text text pools

-- The first pool that begins with `@grid` stands at this place.
pub record IsGridPlace (pools : List Pool) (place : ℕ) : Type 0 where
  pub within : place < length pools
  pub replaced : (text : List ℕ) (pool : Pool) (d : Pool)
      → plain pool
      ≡ (record (plain (slice_index_or pools place d))
      { words = with_second text (plain (slice_index_or pools place d)).words })
      → with_text text (map plain pools) ≡ map plain (take place pools ++ pool ∷ drop (suc place) pools)
