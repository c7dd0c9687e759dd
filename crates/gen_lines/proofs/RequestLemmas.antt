-- Words written one after another with single spaces.
use Rattle.std.proofs.Common.{◌≡◌, ℕ, ◌+◌, ◌<◌, List, [], ◌∷◌, ◌++◌, length, map, take, refl, sym, ap, ◌∙◌, append_assoc, append-nil, get_or, slice_get, Some, unwrap_or, add-one}
use Rattle.std.proofs.Math.Seq.{take-suc}
use Rattle.std.proofs.lemmas.Option.{slice_get_read}
use Rattle.task_model.specs.Streams.{name_at}
use Rattle.task_model.specs.declared.stream.Stream.{Stream}
use Rattle.task_model.specs.declared.task.Task.{Task}
use Rattle.gen_lines.specs.Request.{stream_name}
use Rattle.std.specs.List.{join_with_byte}
use Rattle.std.proofs.lemmas.List.{map-append}

-- each word with a space before it
abbrev pub spaced : List (List ℕ) → List ℕ
spaced [] = []
spaced (word ∷ words) = 32 ∷ (word ++ spaced words)

pub join_spaced : (word : List ℕ) (words : List (List ℕ))
    → join_with_byte 32 (word ∷ words) ≡ word ++ spaced words
join_spaced word [] = sym (append-nil word)
join_spaced word (next ∷ words) = ap (λ t. word ++ 32 ∷ t) (join_spaced next words)

pub spaced_more : (words : List (List ℕ)) (word : List ℕ)
    → spaced (words ++ word ∷ []) ≡ spaced words ++ 32 ∷ word
spaced_more [] word = ap (λ t. 32 ∷ t) (append-nil word)
spaced_more (first ∷ words) word =
    ap (λ t. 32 ∷ (first ++ t)) (spaced_more words word) ∙ ap (λ t. 32 ∷ t) (sym (append_assoc first (spaced words) (32 ∷ word)))

-- what is written with one more input
pub spaced_next : (names : List (List ℕ)) (objects : List ℕ) (i object : ℕ) (name : List ℕ)
    → i < length objects
    → object ≡ get_or objects i object → slice_get names object ≡ Some name
    → spaced (map (name_at names) (take (i + 1) objects)) ≡ spaced (map (name_at names) (take i objects)) ++ 32 ∷ name
spaced_next names objects i object name lt is named =
    let one : take (i + 1) objects ≡ take i objects ++ object ∷ [] =
    rw add-one (take-suc objects i object lt ∙ ap (λ x. take i objects ++ x ∷ []) (sym is)) in
    let last : name_at names object ≡ name = ap (λ found. unwrap_or found []) named in
    rw (one, map-append) (spaced_more (map (name_at names) (take i objects)) (name_at names object)
    ∙ ap (λ w. spaced (map (name_at names) (take i objects)) ++ 32 ∷ w) last)

-- the words of a request, written one after another
pub request_written : (next number stream : List ℕ) (inputs : List (List ℕ))
    → ((next ++ 32 ∷ number) ++ 32 ∷ stream) ++ spaced inputs ≡ join_with_byte 32 (next ∷ number ∷ stream ∷ inputs)
request_written next number stream inputs =
    rw (join_spaced next (number ∷ stream ∷ inputs)) (simp append_assoc)

-- the name of a stream that was looked up
pub stream_named : (task : Task) (streams : List Stream) (place : ℕ) (stream : Stream)
    → streams ≡ task.streams
    → place < length task.streams → stream ≡ get_or streams place stream → stream.name ≡ stream_name task place
stream_named task streams place stream same lt is =
    let found : slice_get task.streams place ≡ Some stream =
    slice_get_read task.streams (length task.streams) place stream refl lt (is ∙ ap (λ s. get_or s place stream) same) in
    rw found refl
