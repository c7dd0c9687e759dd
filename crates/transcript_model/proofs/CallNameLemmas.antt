-- Calls and the instances that they stand for.
use Rattle.std.proofs.Common.{◌≡◌, ℕ, ◌<◌, arith, List, [], ◌∷◌, map, length, refl, sym, ap, ◌∙◌, Option, None, Some, slice_get, Contains, ◌↔◌, option_map}
use Rattle.std.proofs.lemmas.List.Elements.{Contains-append_left, Contains-append_right}
use Rattle.std.proofs.lemmas.Option.{slice_get-get_or, slice_get-map, unwrap_or-slice_get}
use Rattle.gen_lines.specs.Request.{stream_name}
use Rattle.task_model.proofs.KnownLemmas.{numbers_decided}
use Rattle.task_model.specs.Fit.{IsFit}
use Rattle.task_model.specs.Known.{same_numbers}
use Rattle.lemmas.specs.Lists.{AreDistinct}
use Rattle.task_model.specs.Streams.{name_at}
use Rattle.task_model.specs.declared.stream.Instance.{Instance}
use Rattle.task_model.specs.declared.stream.Stream.{Stream}
use Rattle.task_model.specs.declared.task.Task.{Task}
use Rattle.transcript_model.specs.Names.{place_of, places_of, stream_named, instance_of, call_of_instance}
use Rattle.transcript_model.proofs.NamesLemmas.{map_some, place_at, place_only, position_only}
use Rattle.lemmas.proofs.Options.{and_then_some}

places_forth : (names more : List (List ℕ)) (objects : List ℕ) → places_of names more ≡ Some objects
    → map (slice_get names) objects ≡ map Some more
places_forth names [] objects e =
    let none : [] ≡ objects = cc in ap (map (slice_get names)) (sym none)
places_forth names (name ∷ more) objects e =
    let first = and_then_some (λ object. option_map (λ objects. object ∷ objects) (places_of names more)) (place_of names name) objects e in
    let rest = map_some (λ objects. first.0 ∷ objects) (places_of names more) objects first.2 in
    ap (map (slice_get names)) (sym rest.2) ∙ (λ i. place_at names name first.0 first.1 i ∷ places_forth names more rest.0 rest.1 i)

heads : {A : Type 0} (x y : A) (xs ys : List A) → x ∷ xs ≡ y ∷ ys → (x ≡ y) × (xs ≡ ys)
heads x y xs ys e = (cc, cc)

places_back : (names more : List (List ℕ)) (objects : List ℕ) → AreDistinct names
    → map (slice_get names) objects ≡ map Some more
    → places_of names more ≡ Some objects
places_back names [] [] distinct e = refl
places_back names [] (o ∷ os) distinct e = absurd (cc)
places_back names (name ∷ more) [] distinct e = absurd (cc)
places_back names (name ∷ more) (o ∷ os) distinct e =
    let both = heads (slice_get names o) (Some name) (map (slice_get names) os) (map Some more) e in
    rw (place_only names name o distinct both.0, places_back names more os distinct both.1) refl

pub places_exact : (names more : List (List ℕ)) (objects : List ℕ) → AreDistinct names
    → (places_of names more ≡ Some objects) ↔ (map (slice_get names) objects ≡ map Some more)
places_exact names more objects distinct =
    (places_forth names more objects, places_back names more objects distinct)

-- ---- how an instance is shown

shown : (names : List (List ℕ)) (objects : List ℕ)
    → ((o : ℕ) → Contains objects o → o < length names)
    → map (slice_get names) objects ≡ map Some (map (name_at names) objects)
shown names [] within = refl
shown names (o ∷ os) within =
    let below = within o (Contains-append_left (o ∷ []) os o (0, omega arith, refl)) in
    let first : slice_get names o ≡ Some (name_at names o) =
    slice_get-get_or names o [] below ∙ ap Some (sym (unwrap_or-slice_get names o [])) in
    let rest = shown names os (λ p m. within p (Contains-append_right (o ∷ []) os p m)) in
    λ i. first i ∷ rest i

stream_found : (task : Task) (k : ℕ) → AreDistinct (map (λ (s : Stream). s.name) task.streams)
    → k < length task.streams
    → stream_named task (stream_name task k) ≡ Some k
stream_found task k distinct below = found (slice_get task.streams k) refl
  where
    name_there : (m : ℕ) (s : Stream) → slice_get task.streams m ≡ Some s
        → slice_get (map (λ (t : Stream). t.name) task.streams) m ≡ Some s.name
    name_there m s at =
        slice_get-map (λ (t : Stream). t.name) task.streams m
        ∙ ap (option_map (λ (t : Stream). t.name)) at

    found : (o : Option Stream) → slice_get task.streams k ≡ o
        → stream_named task (stream_name task k) ≡ Some k
    found None none =
        let d : Stream = record { name = []; inputs = []; outputs = []; domain = []; certified = []; worth = None } in absurd (no_stream d)
      where
        no_stream : Stream → ⊥
        no_stream d = let there = slice_get-get_or task.streams k d below in absurd (cc)
    found (Some s) at =
        let named : stream_name task k ≡ s.name = rw at refl in
        position_only (λ (t : Stream). same_numbers (stream_name task k) t.name) task.streams k s at
        ((numbers_decided (stream_name task k) s.name).1 named)
        (λ m t there same. distinct m k s.name
        (name_there m t there ∙ ap Some (sym ((numbers_decided (stream_name task k) t.name).0 same) ∙ named)) (name_there k s at))

pub call_names_instance : (task : Task) (names : List (List ℕ)) (i : Instance) → IsFit task
    → AreDistinct names
    → i.stream < length task.streams → ((o : ℕ) → Contains i.inputs o → o < length names)
    → instance_of task names (call_of_instance task names i) ≡ Some i
call_names_instance task names i fit distinct below within =
    rw (
      stream_found task i.stream fit.streams.names.distinct below,
      places_back names (map (name_at names) i.inputs) i.inputs distinct (shown names i.inputs within),
    ) refl
