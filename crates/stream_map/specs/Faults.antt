-- What may be wrong with the pools that a map spells, and which fault is told.
use Rattle.std.specs.Prelude.{ℕ, List, [], ◌≡◌, ◌⊎◌, length, Bool, not, ◌&&◌, ◌||◌, ◌==◌, nat_lt, nat_le, if◌then◌else◌, Option, Some, None, is_none, position, filter_map, flat_map, sum_by, count_by, ⊤}
use Rattle.std.specs.List.{list_any}
use Rattle.std.specs.Str.{bytes_eq}
use Rattle.stream_map.specs.Spelled.{Spelled, begins_grid}
use Rattle.stream_map.specs.Served.{has_repeat, has_missing}
use Rattle.stream_map.specs.declared.fault.MapFault.{MapFault}
use Rattle.stream_map.specs.declared.fault.MapFault.TheVariants.{Shape, Workers, Unknown, Doubled, Unserved, Memory}
use Rattle.transcript_model.specs.declared.limits.TheConstants.{WORKERS}

-- ---- workers

abbrev pub is_grid : Spelled → Bool
is_grid pool = begins_grid pool.run

-- another number than 1 to 16, or for the grid another than 1
abbrev pub has_wrong_number : Spelled → Bool
has_wrong_number pool =
    not (nat_le 1 pool.workers && nat_le pool.workers WORKERS)
    || (is_grid pool && not (pool.workers == 1))

-- how many numbers of children below 16 it takes
abbrev pub own_workers : Spelled → ℕ
own_workers pool = if is_grid pool then 0 else pool.workers

abbrev pub have_wrong_workers : List Spelled → Bool
have_wrong_workers pools =
    list_any has_wrong_number pools || nat_lt 1 (count_by is_grid pools)
    || nat_lt WORKERS (sum_by own_workers pools)

-- ---- streams

-- the place of a name among those of the task's streams
abbrev pub stream_place : List (List ℕ) → List ℕ → Option ℕ
stream_place names name = position (bytes_eq name) names

-- one of the pool's streams is none of these
abbrev pub names_unknown : List (List ℕ) → Spelled → Bool
names_unknown names pool = list_any (λ name. is_none (stream_place names name)) pool.streams

-- the streams of a pool, by their places
abbrev pub stream_places : List (List ℕ) → Spelled → List ℕ
stream_places names pool = filter_map (stream_place names) pool.streams

abbrev pub all_places : List (List ℕ) → List Spelled → List ℕ
all_places names pools = flat_map (stream_places names) pools

-- ---- the fault

-- a stream stands twice, or one of so many nowhere
abbrev pub served_fault : ℕ → List ℕ → Option MapFault
served_fault count streams =
    if has_repeat [] streams then Some Doubled else if has_missing count streams then Some Unserved else None

-- The fault of pools for streams of these names. Each test is over all pools; the first that they don't pass is told.
abbrev pub map_fault : List (List ℕ) → List Spelled → Option MapFault
map_fault names pools =
    if have_wrong_workers pools then Some Workers else
    if list_any (names_unknown names) pools then Some Unknown else
    served_fault (length names) (all_places names pools)

-- want of memory, or this fault where that holds
abbrev pub Only : MapFault → Type 0 → MapFault → Type 0
Only fault P why = (why ≡ Memory) ⊎ ((why ≡ fault) × P)

-- The cause of a refusal of what has this form; want of memory is free.
abbrev pub Refused : List (List ℕ) → Option (List Spelled) → MapFault → Type 0
Refused names None Shape = ⊤
Refused names None Memory = ⊤
Refused names None why = ⊥
Refused names (Some pools) Memory = ⊤
Refused names (Some pools) why = map_fault names pools ≡ Some why
