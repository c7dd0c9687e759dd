-- The form of a map: {"pools":[{"run":[..],"workers":N,"streams":[..]}, ..]}.
use Rattle.std.specs.Prelude.{ℕ, List, [], ◌∷◌, length, map, codes, Bool, true, false, ◌||◌, ◌&&◌, ◌==◌, if◌then◌else◌, Option, Some, None, option_map, option_and_then}
use Rattle.std.specs.Char.{to_ascii_lowercase}
use Rattle.std.specs.Str.{bytes_eq}
use Rattle.serde_json.specs.Data.{Num, unsigned, negative, float, Data, null, boolean, number, string, array, object, Items, no_items, item, Members, no_members, member}
use Rattle.serde_json.specs.Find.{get, as_array, as_number, as_str}
use Rattle.task_model.specs.declared.stream.Stream.{Stream}
use Rattle.task_model.specs.declared.task.Task.{Task}
use Rattle.stream_map.specs.Spelled.{Spelled, is_program}

-- ---- lists and objects

abbrev pub datas : Items → List Data
datas no_items = []
datas (item d ds) = d ∷ datas ds

-- what f gives of the members, where it gives something of each
abbrev pub each_of : {A B : Type 0} → (A → Option B) → List A → Option (List B)
each_of f [] = Some []
each_of f (x ∷ xs) = option_and_then (λ y. option_map (λ ys. y ∷ ys) (each_of f xs)) (f x)

-- what f gives of the members of an array
abbrev pub listed : {B : Type 0} → (Data → Option B) → Data → Option (List B)
listed f d = option_and_then (λ ds. each_of f (datas ds)) (as_array d)

abbrev pub all_keys : (List ℕ → Bool) → Members → Bool
all_keys is_key no_members = true
all_keys is_key (member key d ms) = is_key key && all_keys is_key ms

-- an object that has no other keys
abbrev pub has_only : (List ℕ → Bool) → Data → Bool
has_only is_key null = false
has_only is_key (boolean b) = false
has_only is_key (number n) = false
has_only is_key (string s) = false
has_only is_key (array ds) = false
has_only is_key (object ms) = all_keys is_key ms

unfoldable pub is_map_key : List ℕ → Bool
is_map_key key = bytes_eq key (codes "pools")

unfoldable pub is_pool_key : List ℕ → Bool
is_pool_key key =
    bytes_eq key (codes "run") || bytes_eq key (codes "workers") || bytes_eq key (codes "streams")

-- ---- pools

abbrev pub if_program : List (List ℕ) → Option (List (List ℕ))
if_program words = if is_program words then Some words else None

-- the words of a program
abbrev pub program_of : Data → Option (List (List ℕ))
program_of d = option_and_then if_program (listed as_str d)

-- a name in lower case
abbrev pub name_in_data : Data → Option (List ℕ)
name_in_data d = option_map (map to_ascii_lowercase) (as_str d)

abbrev pub if_some : {A : Type 0} → List A → Option (List A)
if_some [] = None
if_some (x ∷ xs) = Some (x ∷ xs)

-- the names of streams, one at least
abbrev pub names_in_data : Data → Option (List (List ℕ))
names_in_data d = option_and_then if_some (listed name_in_data d)

-- an integer of 64 bits; a negative one counts as 0
abbrev pub count_in_number : Num → Option ℕ
count_in_number (unsigned n) = Some n
count_in_number (negative z) = Some 0
count_in_number (float x) = None

abbrev pub count_in_data : Data → Option ℕ
count_in_data d = option_and_then count_in_number (as_number d)

-- the number of workers: 1 where none is given
abbrev pub workers_in_data : Option Data → Option ℕ
workers_in_data None = Some 1
workers_in_data (Some d) = count_in_data d

abbrev pub pool_with : Option (List (List ℕ)) → Option ℕ → Option (List (List ℕ)) → Option Spelled
pool_with run workers streams =
    option_and_then
    (λ r. option_and_then (λ w. option_map (λ s. record { run = r; workers = w; streams = s }) streams) workers) run

abbrev pub pool_of : Data → Option Spelled
pool_of d =
    if has_only is_pool_key d
    then pool_with (option_and_then program_of (get (codes "run") d))
    (workers_in_data (get (codes "workers") d)) (option_and_then names_in_data (get (codes "streams") d))
    else None

-- The pools of a map, or nothing where the data are no map.
abbrev pub map_in_data : Data → Option (List Spelled)
map_in_data d =
    if has_only is_map_key d then option_and_then (listed pool_of) (get (codes "pools") d) else None

-- ---- words in place of a map

abbrev pub all_stream_names : Task → List (List ℕ)
all_stream_names task = map (λ (s : Stream). s.name) task.streams

-- The pools of a program's words: none for a task without streams or without words, and else one of all streams.
abbrev pub words_form : Task → List (List ℕ) → ℕ → Option (List Spelled)
words_form task words workers =
    if length task.streams == 0 then Some [] else
    if length words == 0 then Some [] else
    if is_program words then Some (record { run = words; workers = workers; streams = all_stream_names task } ∷ [])
    else None
