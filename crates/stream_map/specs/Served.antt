-- Lists of streams, in which each is to stand once.
use Rattle.std.specs.Prelude.{◌≡◌, ℕ, ◌<◌, List, [], ◌∷◌, ◌++◌, length, Bool, false, not, ◌||◌, ◌==◌, slice_index_or, flat_map}
use Rattle.std.specs.List.{list_any}
use Rattle.lemmas.specs.Lists.{numbers_from}
use Rattle.transcript_model.specs.declared.head.Pool.{Pool}

abbrev pub is_stream_among : ℕ → List ℕ → Bool
is_stream_among stream streams = list_any (λ s. s == stream) streams

-- one of the second list stands before itself, in either list
abbrev pub has_repeat : List ℕ → List ℕ → Bool
has_repeat before [] = false
has_repeat before (stream ∷ streams) =
    is_stream_among stream before || has_repeat (before ++ stream ∷ []) streams

-- one of so many streams isn't among these
abbrev pub has_missing : ℕ → List ℕ → Bool
has_missing count streams =
    list_any (λ stream. not (is_stream_among stream streams)) (numbers_from 0 count)

-- a mark for each stream, which tells whether it is among these
abbrev pub AreMarks : List ℕ → List Bool → Type 0
AreMarks streams marks =
    (stream : ℕ) (d : Bool) → stream < length marks
    → slice_index_or marks stream d ≡ is_stream_among stream streams

-- the streams of these pools
abbrev pub streams_in : List Pool → List ℕ
streams_in pools = flat_map (λ (p : Pool). p.streams) pools
