-- The pools that words and files mean are such as a report shows.
use Rattle.std.proofs.Common.{◌≡◌, ℕ, zero, suc, ◌+◌, ◌<◌, ◌≤◌, ◌==◌, arith, Bool, true, false, true≢false, cond, List, [], ◌∷◌, ◌++◌, length, map, refl, sym, ap, subst, ◌∙◌, All, Option, Some, None, is_none, option_map, option_and_then, codes, slice_get}
use Rattle.std.specs.List.{cons_option, filter_map, flat_map, list_any}
use Rattle.std.proofs.lemmas.List.{length-map}
use Rattle.std.proofs.lemmas.List.Elements.{All-nil, All-cons}
use Rattle.std.proofs.lemmas.List.Folds.{flat_map-map}
use Rattle.std.proofs.lemmas.Option.{same_Some}
use Rattle.io_world.specs.FileMap.{FileMap}
use Rattle.lemmas.proofs.Bools.{left_false, right_false}
use Rattle.lemmas.proofs.Options.{and_then_some, where_true}
use Rattle.lemmas.specs.Lists.{AreDistinct}
use Rattle.command_line.specs.Words.{SolveWords}
use Rattle.serde_json.specs.Data.{Data}
use Rattle.serde_json.specs.Find.{as_array, get}
use Rattle.stream_map.proofs.ChildrenLemmas.{is_right}
use Rattle.stream_map.proofs.FaultsLemmas.{flat_numbered}
use Rattle.stream_map.proofs.LawsLemmas.{no_fault}
use Rattle.stream_map.proofs.ServedLemmas.{one_place}
use Rattle.stream_map.specs.Accepted.{Accepted}
use Rattle.stream_map.specs.Children.{PlainPool, grid_file, numbered_pools, plain, with_second, with_text}
use Rattle.stream_map.specs.Faults.{map_fault, has_wrong_number, have_wrong_workers, names_unknown, own_workers, stream_place}
use Rattle.stream_map.specs.Form.{datas, each_of, has_only, if_some, is_map_key, is_pool_key, listed, map_in_data, name_in_data, names_in_data, pool_of, pool_with, program_of, all_stream_names, words_form, workers_in_data}
use Rattle.stream_map.specs.Spelled.{Spelled, begins_grid, is_program}
use Rattle.task_model.specs.declared.stream.Stream.{Stream}
use Rattle.task_model.specs.declared.task.Task.{Task}
use Rattle.transcript_model.specs.declared.head.Pool.{Pool}
use Rattle.run_command.proofs.HeadsLemmas.{all_before}
use Rattle.run_command.specs.Heads.{AreServed}
use Rattle.command_files.specs.Pools.{HaveText, MeansBy}
use Rattle.laws.specs.Reports.{ArePoolsOfReports}

-- Each pool has at most 16 workers, and one stream at least; no stream is in two places.
record ArePlain (pools : List PlainPool) : Type 0 where
  few : All (λ (p : PlainPool). p.workers ≤ 16) pools
  some : All (λ (p : PlainPool). 0 < length p.streams) pools
  once : AreDistinct (flat_map (λ (p : PlainPool). p.streams) pools)

-- ---- no fault

not_told : {A : Type 0} (b : Bool) (x : A) (o : Option A) → cond b (Some x) o ≡ None
    → (b ≡ false) × (o ≡ None)
not_told true x o e = absurd (cc)
not_told false x o e = (refl, e)

-- each of the pools names a stream
abbrev AreNamed : List Spelled → Type 0
AreNamed pools = (k : ℕ) (s : Spelled) → slice_get pools k ≡ Some s → 1 ≤ length s.streams

module _ (names : List (List ℕ)) where
  places_some : (streams : List (List ℕ)) → list_any (λ name. is_none (stream_place names name)) streams ≡ false
      → 1 ≤ length streams → 1 ≤ length (filter_map (stream_place names) streams)
  places_some [] known some = absurd (omega (arith, some))
  places_some (name ∷ more) known some =
      by (stream_place names name) (left_false (is_none (stream_place names name)) _ known)
    where
      by : (o : Option ℕ) → is_none o ≡ false
          → 1 ≤ length (cons_option o (filter_map (stream_place names) more))
      by None e = absurd (true≢false e)
      by (Some k) e = omega arith

  few_numbered : (next : ℕ) (pools : List Spelled) → list_any has_wrong_number pools ≡ false
      → All (λ (p : PlainPool). p.workers ≤ 16) (numbered_pools names next pools)
  few_numbered next [] right = All-nil (λ (p : PlainPool). p.workers ≤ 16)
  few_numbered next (s ∷ pools) right =
      All-cons (λ (p : PlainPool). p.workers ≤ 16) _
      (numbered_pools names (next + own_workers s) pools) (is_right s (left_false (has_wrong_number s) _ right)).few
      (few_numbered (next + own_workers s) pools (right_false (has_wrong_number s) _ right))

  some_numbered : (next : ℕ) (pools : List Spelled) → list_any (names_unknown names) pools ≡ false
      → AreNamed pools → All (λ (p : PlainPool). 0 < length p.streams) (numbered_pools names next pools)
  some_numbered next [] known named = All-nil (λ (p : PlainPool). 0 < length p.streams)
  some_numbered next (s ∷ pools) known named =
      let some = places_some s.streams (left_false (names_unknown names s) _ known) (named 0 s refl) in
      All-cons (λ (p : PlainPool). 0 < length p.streams) _ (numbered_pools names (next + own_workers s) pools)
      (omega (arith, some))
      (some_numbered (next + own_workers s) pools (right_false (names_unknown names s) _ known)
      (λ k t at. named (suc k) t at))

  -- pools without a fault
  numbered_plain : (pools : List Spelled) → map_fault names pools ≡ None → AreNamed pools
      → ArePlain (numbered_pools names 0 pools)
  numbered_plain pools right named =
      let none = no_fault names pools right in
      let first = not_told (have_wrong_workers pools) _ _ right in
      let second = not_told (list_any (names_unknown names) pools) _ _ first.1 in
      record {
        few = few_numbered 0 pools none.workers.numbers;
        some = some_numbered 0 pools second.0 named;
        once = subst AreDistinct (sym (flat_numbered names 0 pools))
            (λ a b s at_a at_b. one_place [] _ none.once a b s at_a at_b);
      }

-- ---- each pool of a map names a stream

some_named : (names streams : List (List ℕ)) → if_some names ≡ Some streams → 1 ≤ length streams
some_named [] streams e = absurd (cc)
some_named (x ∷ xs) streams e =
    let same = ap length (same_Some (x ∷ xs) streams e) in omega (arith, same)

streams_of : (run : Option (List (List ℕ))) (workers : Option ℕ) (streams : Option (List (List ℕ))) (s : Spelled)
    → pool_with run workers streams ≡ Some s → streams ≡ Some s.streams
streams_of None workers streams s e = absurd (cc)
streams_of (Some r) None streams s e = absurd (cc)
streams_of (Some r) (Some w) None s e = absurd (cc)
streams_of (Some r) (Some w) (Some names) s e =
    ap (λ (p : Spelled). Some p.streams) (same_Some _ s e)

pool_named : (d : Data) (s : Spelled) → pool_of d ≡ Some s → 1 ≤ length s.streams
pool_named d s e =
    let parts = where_true (has_only is_pool_key d) _ s e in
    let streams =
    streams_of (option_and_then program_of (get (codes "run") d))
    (workers_in_data (get (codes "workers") d)) (option_and_then names_in_data (get (codes "streams") d)) s parts.1 in
    let value = and_then_some names_in_data (get (codes "streams") d) s.streams streams in
    let names = and_then_some if_some (listed name_in_data value.0) s.streams value.2 in
    some_named names.0 s.streams names.2

module _ {A B : Type 0} (f : A → Option B) (P : B → Type 0) (each : (x : A) (y : B) → f x ≡ Some y → P y) where
  abbrev HoldAt : List B → Type 0
  HoldAt ys = (k : ℕ) (y : B) → slice_get ys k ≡ Some y → P y

  more_hold : (x : A) (first : Option B) (rest : Option (List B)) (ys : List B) → f x ≡ first
      → ((zs : List B) → rest ≡ Some zs → HoldAt zs)
      → option_and_then (λ y. option_map (λ zs. y ∷ zs) rest) first ≡ Some ys → HoldAt ys
  more_hold x None rest ys is later e = absurd (cc)
  more_hold x (Some z) None ys is later e = absurd (cc)
  more_hold x (Some z) (Some zs) ys is later e = subst HoldAt (same_Some (z ∷ zs) ys e) both
    where
      both : HoldAt (z ∷ zs)
      both zero y at = each x y (is ∙ at)
      both (suc k) y at = later zs refl k y at

  each_holds : (xs : List A) (ys : List B) → each_of f xs ≡ Some ys → HoldAt ys
  each_holds [] ys e = subst HoldAt (same_Some [] ys e) (λ k y at. absurd (let a = at in cc))
  each_holds (x ∷ xs) ys e =
      more_hold x (f x) (each_of f xs) ys refl (λ zs h. each_holds xs zs h) e

map_named : (d : Data) (pools : List Spelled) → map_in_data d ≡ Some pools → AreNamed pools
map_named d pools e =
    let parts = where_true (has_only is_map_key d) _ pools e in
    let value = and_then_some (listed pool_of) (get (codes "pools") d) pools parts.1 in
    let items = and_then_some (λ ds. each_of pool_of (datas ds)) (as_array value.0) pools value.2 in
    each_holds pool_of (λ (s : Spelled). 1 ≤ length s.streams) pool_named (datas items.0) pools items.2

none_named : AreNamed []
none_named k s at = absurd (cc)

one_named : (pool : Spelled) → 1 ≤ length pool.streams → AreNamed (pool ∷ [])
one_named pool some zero s at =
    omega (arith, some, ap (λ (p : Spelled). length p.streams) (same_Some pool s at))
one_named pool some (suc k) s at = absurd (cc)

words_named : (task : Task) (words : List (List ℕ)) (workers : ℕ) (pools : List Spelled)
    → words_form task words workers ≡ Some pools → AreNamed pools
words_named task words workers pools = first (length task.streams == 0) refl (length words == 0)
  where
    pool : Spelled
    pool = record { run = words; workers = workers; streams = all_stream_names task }

    first : (a : Bool) → (length task.streams == 0) ≡ a → (b : Bool)
        → cond a (Some []) (cond b (Some []) (cond (is_program words) (Some (pool ∷ [])) None)) ≡ Some pools
        → AreNamed pools
    first true some b e = subst AreNamed (same_Some [] pools e) none_named
    first false some true e = subst AreNamed (same_Some [] pools e) none_named
    first false some false e =
        let parts = where_true (is_program words) (Some (pool ∷ [])) pools e in
        let count = length-map task.streams (λ (s : Stream). s.name) in
        subst AreNamed (same_Some (pool ∷ []) pools parts.1) (one_named pool (grind (arith, some, count)))

-- ---- the grid's text

module _ (text : List ℕ) where
  abbrev changed : PlainPool → PlainPool
  changed p = record p { words = with_second text p.words }

  kept : (P : ℕ → List ℕ → Type 0) (pools : List PlainPool)
      → All (λ (p : PlainPool). P p.workers p.streams) pools
      → All (λ (p : PlainPool). P p.workers p.streams) (with_text text pools)
  kept P [] all = all
  kept P (p ∷ ps) all = by (begins_grid p.words) (kept P ps (λ i d lt. all (suc i) d (omega (arith, lt))))
    where
      Q : PlainPool → Type 0
      Q q = P q.workers q.streams

      by : (b : Bool) → All Q (with_text text ps)
          → All Q (cond b (changed p ∷ ps) (p ∷ with_text text ps))
      by true rest = All-cons Q (changed p) ps (all 0 p (omega arith)) (λ i d lt. all (suc i) d (omega (arith, lt)))
      by false rest = All-cons Q p (with_text text ps) (all 0 p (omega arith)) rest

  same_streams : (pools : List PlainPool)
      → flat_map (λ (p : PlainPool). p.streams) (with_text text pools) ≡ flat_map (λ (p : PlainPool). p.streams) pools
  same_streams [] = refl
  same_streams (p ∷ ps) = by (begins_grid p.words) (same_streams ps)
    where
      by : (b : Bool)
          → flat_map (λ (q : PlainPool). q.streams) (with_text text ps) ≡ flat_map (λ (q : PlainPool). q.streams) ps
          → flat_map (λ (q : PlainPool). q.streams) (cond b (changed p ∷ ps) (p ∷ with_text text ps))
          ≡ flat_map (λ (q : PlainPool). q.streams) (p ∷ ps)
      by true rest = refl
      by false rest = ap (λ ks. p.streams ++ ks) rest

  text_plain : (pools : List PlainPool) → ArePlain pools → ArePlain (with_text text pools)
  text_plain pools are = record {
    few = kept (λ workers streams. workers ≤ 16) pools are.few;
    some = kept (λ workers streams. 0 < length streams) pools are.some;
    once = subst AreDistinct (sym (same_streams pools)) are.once;
  }

-- ---- the pools of a run

module _ (told : Option FileMap) (w : SolveWords) (task : Task) where
  accepted_plain : (form : Option (List Spelled)) (pools : List Pool)
      → ((spelled : List Spelled) → form ≡ Some spelled → AreNamed spelled) → Accepted task form pools
      → ArePlain (map plain pools)
  accepted_plain form pools named a =
      subst ArePlain (sym a.pools_are)
      (numbered_plain (all_stream_names task) a.spelled a.right (named a.spelled a.form_is))

  meant_plain : (path : Option (List ℕ)) (pools : List Pool) → MeansBy path told w task pools
      → ArePlain (map plain pools)
  meant_plain None pools means =
      accepted_plain (words_form task w.program w.workers) pools (words_named task w.program w.workers) means
  meant_plain (Some path) pools means =
      accepted_plain (map_in_data means.so.data_of) pools (map_named means.so.data_of) means.so.accepted

  placed_plain : (path : Option (List ℕ)) (meant pools : List Pool) → HaveText path told meant pools
      → ArePlain (map plain meant) → ArePlain (map plain pools)
  placed_plain None meant pools same are = subst (λ ps. ArePlain (map plain ps)) (sym same) are
  placed_plain (Some path) meant pools has are =
      subst ArePlain (sym has.so.placed) (text_plain has.bytes (map plain meant) are)

  pub served_shown : (pools : List Pool) → AreServed told w task pools → ArePoolsOfReports pools
  served_shown pools served =
      let are = placed_plain (grid_file (map plain served.meant)) served.meant pools served.text
      (meant_plain w.path served.meant served.means) in
      record {
        few = all_before plain (λ (p : PlainPool). p.workers ≤ 16) pools are.few;
        some = all_before plain (λ (p : PlainPool). 0 < length p.streams) pools are.some;
        once = subst AreDistinct (flat_map-map (λ (p : PlainPool). p.streams) plain pools) are.once;
      }
