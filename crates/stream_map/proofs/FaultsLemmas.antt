-- Looking names up, and sums of workers.
use Rattle.std.proofs.Common.{◌≡◌, ℕ, zero, suc, ◌+◌, ◌<◌, ◌≤◌, arith, Bool, true, false, cond, ◌||◌, List, [], ◌∷◌, ◌++◌, length, get_or, take, map, refl, sym, ap, ◌∙◌, Option, Some, None, slice_get, All}
use Rattle.std.proofs.lemmas.List.{length-map, take_more, map_push}
use Rattle.std.proofs.lemmas.List.Elements.{All-append, All-cons, All-nil}
use Rattle.std.proofs.lemmas.Option.{get_or_from_slice_get, same_Some, slice_get_within}
use Rattle.std.proofs.lemmas.Slice.Eq.{bytes_eq-Decides}
use Rattle.std.specs.List.{cons_option, filter_map, flat_map, list_any}
use Rattle.std.specs.Option.{is_none, option_and_then, option_map}
use Rattle.std.specs.Str.{bytes_eq}
use Rattle.task_model.specs.Fit.{IsFit}
use Rattle.task_model.specs.declared.stream.Stream.{Stream}
use Rattle.task_model.specs.declared.task.Task.{Task}
use Rattle.transcript_model.proofs.NamesLemmas.{position_at}
use Rattle.transcript_model.specs.declared.head.Pool.{Pool}
use Rattle.stream_map.specs.Children.{PlainPool, plain, numbered_pools}
use Rattle.stream_map.specs.Faults.{Refused, map_fault, have_wrong_workers, names_unknown, own_workers, stream_place, all_places, stream_places, served_fault}
use Rattle.stream_map.specs.declared.fault.MapFault.{MapFault}
use Rattle.stream_map.specs.declared.fault.MapFault.TheVariants.{Json, Shape, Workers, Unknown, Doubled, Unserved, Memory}
use Rattle.stream_map.specs.Form.{each_of, all_stream_names}
use Rattle.stream_map.specs.Served.{streams_in}
use Rattle.stream_map.specs.Spelled.{Spelled}
use Rattle.lemmas.proofs.MappedTests.{any_mapped}
use Rattle.task_model.proofs.FitLemmas.{few_streams}

-- ---- what is given of each

module _ {A B : Type 0} (f : A → Option B) where
  -- these are what f gives of the members, and it gives something of each
  abbrev pub AreGiven : List A → List B → Type 0
  AreGiven xs ys = (filter_map f xs ≡ ys) × (list_any (λ x. is_none (f x)) xs ≡ false)

  abbrev first_with : Option B → Option (List B) → Option (List B)
  first_with first rest = option_and_then (λ y. option_map (λ zs. y ∷ zs) rest) first

  given_more : (first : Option B) (rest : Option (List B)) (xs : List A) (ys : List B)
      → ((zs : List B) → rest ≡ Some zs → AreGiven xs zs)
      → first_with first rest ≡ Some ys
      → (cons_option first (filter_map f xs) ≡ ys) × ((is_none first || list_any (λ x. is_none (f x)) xs) ≡ false)
  given_more None rest xs ys later e = absurd (cc)
  given_more (Some y) None xs ys later e = absurd (cc)
  given_more (Some y) (Some zs) xs ys later e =
      let g = later zs refl in (ap (λ ws. y ∷ ws) g.0 ∙ same_Some (y ∷ zs) ys e, g.1)

  pub each_given : (xs : List A) (ys : List B) → each_of f xs ≡ Some ys → AreGiven xs ys
  each_given [] ys e = (same_Some [] ys e, refl)
  each_given (x ∷ xs) ys e = given_more (f x) (each_of f xs) xs ys (λ zs h. each_given xs zs h) e

  none_more : (first : Option B) (rest : Option (List B)) (xs : List A)
      → (rest ≡ None → list_any (λ x. is_none (f x)) xs ≡ true)
      → first_with first rest ≡ None → (is_none first || list_any (λ x. is_none (f x)) xs) ≡ true
  none_more None rest xs later e = refl
  none_more (Some y) None xs later e = later refl
  none_more (Some y) (Some zs) xs later e = absurd (cc)

  pub some_none : (xs : List A) → each_of f xs ≡ None → list_any (λ x. is_none (f x)) xs ≡ true
  some_none [] e = absurd (cc)
  some_none (x ∷ xs) e = none_more (f x) (each_of f xs) xs (λ h. some_none xs h) e

-- ---- tables of names

-- a name isn't among those before it, where it stands nowhere there
absent : (names : List (List ℕ)) (i : ℕ) (name : List ℕ)
    → ((j : ℕ) → j < i → slice_get names j ≡ Some name → ⊥)
    → list_any (bytes_eq name) (take i names) ≡ false
absent names zero name apart = refl
absent [] (suc i) name apart = refl
absent (n ∷ ns) (suc i) name apart =
    let gone : list_any (bytes_eq name) (take i ns) ≡ false = absent ns i name (λ j below at. apart (suc j) (omega (arith, below)) at) in
    not_first (bytes_eq name n) refl gone
  where
    not_first : (b : Bool) → bytes_eq name n ≡ b → list_any (bytes_eq name) (take i ns) ≡ false
        → (bytes_eq name n || list_any (bytes_eq name) (take i ns)) ≡ false
    not_first true is gone =
        absurd (apart 0 (omega arith) (ap Some (sym ((bytes_eq-Decides name n).0 is))))
    not_first false is gone = ap (λ b. b || list_any (bytes_eq name) (take i ns)) is ∙ gone

taken : (names : List (List ℕ)) (i : ℕ) (name : List ℕ) → slice_get names i ≡ Some name
    → take (i + 1) names ≡ take i names ++ name ∷ []
taken names i name here =
    let within = slice_get_within names i name here in
    take_more names i name within ∙ ap (λ n. take i names ++ n ∷ []) (get_or_from_slice_get names i name name here)

-- a key that isn't there is put behind the others
pub key_pushed : {A : Type 0} (f : A → List ℕ) (old new : List A) (key : A) (names : List (List ℕ)) (i : ℕ)
    → map f old ≡ take i names → slice_get names i ≡ Some (f key)
    → ((j : ℕ) → j < i → slice_get names j ≡ Some (f key) → ⊥)
    → new ≡ cond (list_any (λ k. bytes_eq (f key) (f k)) old) old (old ++ key ∷ []) → map f new ≡ take (i + 1) names
key_pushed f old new key names i same here apart grown =
    let gone = any_mapped f (bytes_eq (f key)) old ∙ ap (list_any (bytes_eq (f key))) same ∙ absent names i (f key) apart in
    ap (map f) (grown ∙ ap (λ b. cond b old (old ++ key ∷ [])) gone) ∙ map_push f old key ∙ ap (λ ns. ns ++ f key ∷ []) same
    ∙ sym (taken names i (f key) here)

-- ---- the streams of a fit task

pub few_names : (task : Task) → IsFit task → length (all_stream_names task) ≤ 8388608
few_names task fit = let few = few_streams task fit in omega (arith, few, length-map task.streams (λ (s : Stream). s.name))

place_below : (names : List (List ℕ)) (name : List ℕ) (k : ℕ) → stream_place names name ≡ Some k
    → k < length names
place_below names name k is =
    let at = position_at (bytes_eq name) names k is in
    slice_get_within names k at.0 at.1

module _ (names : List (List ℕ)) where
  abbrev Below : ℕ → Type 0
  Below k = k < length names

  with_place : (name : List ℕ) (rest : List ℕ) → All Below rest → (o : Option ℕ)
      → stream_place names name ≡ o → All Below (cons_option o rest)
  with_place name rest later None is = later
  with_place name rest later (Some k) is = All-cons Below k rest (place_below names name k is) later

  pub places_below : (ns : List (List ℕ)) → All Below (filter_map (stream_place names) ns)
  places_below [] = All-nil Below
  places_below (n ∷ ns) =
      with_place n (filter_map (stream_place names) ns) (places_below ns) (stream_place names n) refl

  pub all_below : (pools : List Spelled) → All Below (all_places names pools)
  all_below [] = All-nil Below
  all_below (p ∷ ps) = All-append Below (stream_places names p) (all_places names ps) (places_below p.streams) (all_below ps)

  -- ---- streams of pools

  flat_plain : (pools : List Pool)
      → streams_in pools ≡ flat_map (λ (p : PlainPool). p.streams) (map plain pools)
  flat_plain [] = refl
  flat_plain (p ∷ ps) = ap (λ ks. p.streams ++ ks) (flat_plain ps)

  pub flat_numbered : (next : ℕ) (pools : List Spelled)
      → flat_map (λ (p : PlainPool). p.streams) (numbered_pools names next pools) ≡ all_places names pools
  flat_numbered next [] = refl
  flat_numbered next (p ∷ ps) =
      ap (λ ks. stream_places names p ++ ks) (flat_numbered (next + own_workers p) ps)

  pub streams_numbered : (pools : List Pool) (next : ℕ) (texts : List Spelled)
      → map plain pools ≡ numbered_pools names next texts → streams_in pools ≡ all_places names texts
  streams_numbered pools next texts are =
      flat_plain pools ∙ ap (flat_map (λ (p : PlainPool). p.streams)) are ∙ flat_numbered next texts

-- ---- sums of workers

-- the name of the stream at a place
pub name_at : (names : List (List ℕ)) (streams : List Stream) (i : ℕ) (stream : Stream)
    → map (λ (s : Stream). s.name) streams ≡ names → i < length streams
    → stream ≡ get_or streams i stream → slice_get names i ≡ Some stream.name
name_at names streams i stream are within is =
    ap (λ ns. slice_get ns i) (sym are) ∙ mapped_at streams i within is
  where
    mapped_at : (ss : List Stream) (k : ℕ) → k < length ss → stream ≡ get_or ss k stream
        → slice_get (map (λ (s : Stream). s.name) ss) k ≡ Some stream.name
    mapped_at [] k within is = absurd (omega (arith, within))
    mapped_at (s ∷ ss) zero within is = ap (λ (x : Stream). Some x.name) (sym is)
    mapped_at (s ∷ ss) (suc k) within is = mapped_at ss k (omega (arith, within)) is

-- ---- the fault

pub fault_is : (names : List (List ℕ)) (texts : List Spelled) (o : Option MapFault)
    → have_wrong_workers texts ≡ false → list_any (names_unknown names) texts ≡ false
    → o ≡ served_fault (length names) (all_places names texts) → map_fault names texts ≡ o
fault_is names texts o right known is =
    (λ i. cond (right i) (Some Workers) (cond (known i) (Some Unknown) (served_fault (length names) (all_places names texts)))) ∙ sym is

pub refused_from : (names : List (List ℕ)) (texts : List Spelled) (why : MapFault)
    → map_fault names texts ≡ Some why → Refused names (Some texts) why
refused_from names texts Json e = e
refused_from names texts Shape e = e
refused_from names texts Workers e = e
refused_from names texts Unknown e = e
refused_from names texts Doubled e = e
refused_from names texts Unserved e = e
refused_from names texts Memory e = tt
