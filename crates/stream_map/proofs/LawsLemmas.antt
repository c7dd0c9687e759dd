-- The pools of accepted maps.
use Rattle.std.proofs.Common.{◌≡◌, inl, inr, ℕ, zero, suc, ◌+◌, ◌<◌, ◌≤◌, ◌==◌, arith, Bool, true, false, true≢false, cond, ◌&&◌, ◌||◌, nat_lt, nat_le, List, [], ◌∷◌, length, map, sum_by, count_by, refl, sym, ap, subst, ◌∙◌, Option, Some, None, option_map, option_and_then, codes, slice_get, All, Contains}
use Rattle.std.specs.List.{flat_map, list_any}
use Rattle.std.proofs.lemmas.Bool.{eqb-true}
use Rattle.std.proofs.lemmas.List.{length-map}
use Rattle.std.proofs.lemmas.Option.{get_or_from_slice_get, same_Some, slice_get_within}
use Rattle.std.specs.Cmp.{first_so}
use Rattle.serde_json.specs.Data.{Data}
use Rattle.serde_json.specs.Find.{as_array, as_str, get}
use Rattle.task_model.specs.declared.stream.Stream.{Stream}
use Rattle.task_model.specs.declared.task.Task.{Task}
use Rattle.transcript_model.specs.declared.head.Pool.{Pool}
use Rattle.stream_map.specs.Accepted.{Accepted}
use Rattle.stream_map.specs.Children.{PlainPool, numbered_pools, plain, with_second, with_text}
use Rattle.stream_map.specs.Faults.{map_fault, have_wrong_workers, has_wrong_number, is_grid, names_unknown, own_workers, all_places, stream_places}
use Rattle.stream_map.specs.Form.{datas, each_of, has_only, if_program, is_map_key, is_pool_key, listed, map_in_data, names_in_data, pool_of, pool_with, program_of, all_stream_names, words_form, workers_in_data}
use Rattle.stream_map.specs.Laws.{AreWhole, PoolHasChild, AcceptedMapsAreWhole, AcceptedWordsAreWhole, TextsKeepPoolsWhole}
use Rattle.stream_map.specs.Served.{has_repeat, has_missing, is_stream_among}
use Rattle.stream_map.specs.Spelled.{Spelled, begins_grid, is_program}
use Rattle.stream_map.specs.declared.fault.MapFault.{MapFault}
use Rattle.stream_map.specs.declared.fault.MapFault.TheVariants.{Workers, Unknown, Doubled, Unserved}
use Rattle.stream_map.proofs.ChildrenLemmas.{AreRight, placed, children_apart}
use Rattle.stream_map.proofs.FaultsLemmas.{flat_numbered, places_below}
use Rattle.stream_map.proofs.ServedLemmas.{each_among, once_in_pools, pool_of_stream}
use borrow.Author.Tests.{leb-true}
use Rattle.lemmas.proofs.Options.{and_then_some, where_true}
use Rattle.lemmas.proofs.ListTests.{all_by_place}

-- ---- no fault

no_wrong_workers : (b : Bool) (o : Option MapFault) → cond b (Some Workers) o ≡ None
    → (b ≡ false) × (o ≡ None)
no_wrong_workers true o e = absurd (cc)
no_wrong_workers false o e = (refl, e)

no_unknown : (b : Bool) (o : Option MapFault) → cond b (Some Unknown) o ≡ None
    → (b ≡ false) × (o ≡ None)
no_unknown true o e = absurd (cc)
no_unknown false o e = (refl, e)

all_served : (b c : Bool) → cond b (Some Doubled) (cond c (Some Unserved) None) ≡ None
    → (b ≡ false) × (c ≡ false)
all_served true c e = absurd (cc)
all_served false true e = absurd (cc)
all_served false false e = (refl, refl)

pub record NoFault (names : List (List ℕ)) (pools : List Spelled) : Type 0 where
  pub workers : AreRight 0 pools
  pub once : has_repeat [] (all_places names pools) ≡ false
  pub each : has_missing (length names) (all_places names pools) ≡ false

or_parts : (a b c : Bool) → (a || b || c) ≡ false → (a ≡ false) × (b ≡ false) × (c ≡ false)
or_parts true b c e = absurd (true≢false e)
or_parts false true c e = absurd (true≢false e)
or_parts false false c e = (refl, refl, e)

not_more : (most n : ℕ) → nat_lt most n ≡ false → n ≤ most
not_more most n e = grind (arith, e)

pub right_workers : (pools : List Spelled) → have_wrong_workers pools ≡ false → AreRight 0 pools
right_workers pools e =
    let parts = or_parts (list_any has_wrong_number pools) (nat_lt 1 (count_by is_grid pools)) (nat_lt 16 (sum_by own_workers pools)) e in
    let few = not_more 16 (sum_by own_workers pools) parts.2 in
    record { numbers = parts.0; grids = not_more 1 (count_by is_grid pools) parts.1; workers = omega (arith, few) }

pub no_fault : (names : List (List ℕ)) (pools : List Spelled) → map_fault names pools ≡ None
    → NoFault names pools
no_fault names pools e =
    let first = no_wrong_workers (have_wrong_workers pools) _ e in
    let second = no_unknown (list_any (names_unknown names) pools) _ first.1 in
    let third = all_served (has_repeat [] (all_places names pools)) (has_missing (length names) (all_places names pools)) second.1 in
    record { workers = right_workers pools first.0; once = third.0; each = third.1 }

-- ---- pools as lists

contains : (stream : ℕ) (streams : List ℕ) → is_stream_among stream streams ≡ true
    → Contains streams stream
contains stream [] e = absurd (true≢false (sym e))
contains stream (s ∷ ss) e = here (s == stream) refl (λ h. contains stream ss h) e
  where
    here : (b : Bool) → (s == stream) ≡ b → (is_stream_among stream ss ≡ true → Contains ss stream)
        → (b || is_stream_among stream ss) ≡ true → Contains (s ∷ ss) stream
    here true is later e = (0, omega arith, eqb-true s stream is)
    here false is later e = let found = later e in (suc found.0, omega (arith, found.1), found.2)

-- each word list of the spelled pools is a program
abbrev pub AreStarted : List Spelled → Type 0
AreStarted pools = (k : ℕ) (s : Spelled) → slice_get pools k ≡ Some s → 1 ≤ length s.run

spelled_at : (names : List (List ℕ)) (next : ℕ) (pools : List Spelled) (k : ℕ) (p : PlainPool)
    → slice_get (numbered_pools names next pools) k ≡ Some p
    → (s : Spelled) × (slice_get pools k ≡ Some s) × (p.words ≡ s.run) × (p.streams ≡ stream_places names s)
spelled_at names next [] k p at = absurd (cc)
spelled_at names next (s ∷ ss) zero p at =
    let is = sym (same_Some _ p at) in (s, refl, ap (λ (q : PlainPool). q.words) is, ap (λ (q : PlainPool). q.streams) is)
spelled_at names next (s ∷ ss) (suc k) p at = spelled_at names (next + own_workers s) ss k p at

module _ (task : Task) (pools : List Spelled) (none : NoFault (all_stream_names task) pools) (started : AreStarted pools) where
  abbrev names : List (List ℕ)
  names = all_stream_names task

  abbrev plains : List PlainPool
  plains = numbered_pools names 0 pools

  abbrev streams : PlainPool → List ℕ
  streams p = p.streams

  flat : flat_map streams plains ≡ all_places names pools
  flat = flat_numbered names 0 pools

  count : length names ≡ length task.streams
  count = length-map task.streams (λ (s : Stream). s.name)

  -- the pools are whole
  pub whole : AreWhole task plains
  whole = record {
    served = λ stream below.
        let there = each_among 0 (length names) (all_places names pools) none.each stream (omega arith) (omega (arith, below, count)) in
        let found = pool_of_stream streams plains stream (ap (is_stream_among stream) flat ∙ there) in
        (found.0, found.1, found.2, contains stream (streams found.1) found.3);
    once = λ j k a b stream p q at_j at_k at_a at_b.
        once_in_pools streams [] plains (ap (has_repeat []) flat ∙ none.once) j k a b stream p q at_j at_k at_a at_b;
    known = all_by_place (λ (p : PlainPool). All (λ stream. stream < length task.streams) p.streams) plains (λ k p at.
        let is = spelled_at names 0 pools k p at in
        let P : List ℕ → Type 0 = All (λ stream. stream < length task.streams) in
        subst P (sym is.3) (λ i d lt. let low = places_below names is.0.streams i d lt in omega (arith, low, count)));
    apart = children_apart names 0 pools none.workers;
    some = all_by_place (λ (p : PlainPool). 1 ≤ p.workers) plains
        (λ k p at. elim (placed names 0 pools none.workers k p at) [ inl h ↦ omega (arith, h.1) | inr h ↦ h.2 ]);
    low = all_by_place (λ (p : PlainPool). p.first + p.workers ≤ 17) plains
        (λ k p at. elim (placed names 0 pools none.workers k p at) [ inl h ↦ omega (arith, h.0, h.1) | inr h ↦ omega (arith, h.1) ]);
    started = all_by_place (λ (p : PlainPool). 1 ≤ length p.words) plains (λ k p at.
        let is = spelled_at names 0 pools k p at in
        let run = started k is.0 is.1 in
        omega (arith, run, ap length is.2));
  }

-- ---- programs have words

program_starts : (words run : List (List ℕ)) → if_program words ≡ Some run → 1 ≤ length run
program_starts words run e =
    let parts = where_true (is_program words) (Some words) run e in
    let some = leb-true 1 (length words) (first_so (nat_le 1 (length words))
    (nat_le (length words) 64) (first_so (nat_le 1 (length words) && nat_le (length words) 64) _ parts.0)) in
    omega (arith, some, ap length (same_Some words run parts.1))

run_of : (run : Option (List (List ℕ))) (workers : Option ℕ) (streams : Option (List (List ℕ))) (s : Spelled)
    → pool_with run workers streams ≡ Some s → run ≡ Some s.run
run_of None workers streams s e = absurd (cc)
run_of (Some r) None streams s e = absurd (cc)
run_of (Some r) (Some w) None s e = absurd (cc)
run_of (Some r) (Some w) (Some names) s e = ap (λ (p : Spelled). Some p.run) (same_Some _ s e)

pool_starts : (d : Data) (s : Spelled) → pool_of d ≡ Some s → 1 ≤ length s.run
pool_starts d s e =
    let parts = where_true (has_only is_pool_key d) _ s e in
    let run = run_of (option_and_then program_of (get (codes "run") d))
    (workers_in_data (get (codes "workers") d)) (option_and_then names_in_data (get (codes "streams") d)) s parts.1 in
    let value = and_then_some program_of (get (codes "run") d) s.run run in
    let words = and_then_some if_program (listed as_str value.0) s.run value.2 in
    program_starts words.0 s.run words.2

module _ {A B : Type 0} (f : A → Option B) where
  abbrev IsGiven : B → Type 0
  IsGiven y = (x : A) × (f x ≡ Some y)

  abbrev AreGivenAt : List B → Type 0
  AreGivenAt ys = (k : ℕ) (y : B) → slice_get ys k ≡ Some y → IsGiven y

  cons_at : (x : A) (z : B) (zs : List B) → f x ≡ Some z → AreGivenAt zs → AreGivenAt (z ∷ zs)
  cons_at x z zs is later zero y at = (x, is ∙ at)
  cons_at x z zs is later (suc k) y at = later k y at

  more_at : (x : A) (first : Option B) (rest : Option (List B)) (ys : List B) → f x ≡ first
      → ((zs : List B) → rest ≡ Some zs → AreGivenAt zs)
      → option_and_then (λ y. option_map (λ zs. y ∷ zs) rest) first ≡ Some ys → AreGivenAt ys
  more_at x None rest ys is later e = absurd (cc)
  more_at x (Some z) None ys is later e = absurd (cc)
  more_at x (Some z) (Some zs) ys is later e =
      subst AreGivenAt (same_Some (z ∷ zs) ys e) (cons_at x z zs is (later zs refl))

  nothing_at : AreGivenAt []
  nothing_at k y at = absurd (cc)

  each_at : (xs : List A) (ys : List B) → each_of f xs ≡ Some ys → AreGivenAt ys
  each_at [] ys e = subst AreGivenAt (same_Some [] ys e) nothing_at
  each_at (x ∷ xs) ys e = more_at x (f x) (each_of f xs) ys refl (λ zs h. each_at xs zs h) e

map_starts : (d : Data) (pools : List Spelled) → map_in_data d ≡ Some pools → AreStarted pools
map_starts d pools e k s at =
    let parts = where_true (has_only is_map_key d) _ pools e in
    let value = and_then_some (listed pool_of) (get (codes "pools") d) pools parts.1 in
    let items = and_then_some (λ ds. each_of pool_of (datas ds)) (as_array value.0) pools value.2 in
    let given = each_at pool_of (datas items.0) pools items.2 k s at in
    pool_starts given.0 s given.1

none_start : AreStarted []
none_start k s at = absurd (cc)

one_starts : (pool : Spelled) → 1 ≤ length pool.run → AreStarted (pool ∷ [])
one_starts pool some zero s at =
    omega (arith, some, ap (λ (p : Spelled). length p.run) (same_Some pool s at))
one_starts pool some (suc k) s at = absurd (cc)

words_start : (task : Task) (words : List (List ℕ)) (workers : ℕ) (pools : List Spelled)
    → words_form task words workers ≡ Some pools → AreStarted pools
words_start task words workers pools = first (length task.streams == 0) (length words == 0)
  where
    pool : Spelled
    pool = record { run = words; workers = workers; streams = all_stream_names task }

    first : (a b : Bool)
        → cond a (Some []) (cond b (Some []) (cond (is_program words) (Some (pool ∷ [])) None)) ≡ Some pools
        → AreStarted pools
    first true b e = subst AreStarted (same_Some [] pools e) none_start
    first false true e = subst AreStarted (same_Some [] pools e) none_start
    first false false e =
        let parts = where_true (is_program words) (Some (pool ∷ [])) pools e in
        let program : if_program words ≡ Some words = ap (λ b. cond b (Some words) None) parts.0 in
        subst AreStarted (same_Some (pool ∷ []) pools parts.1) (one_starts pool (program_starts words words program))

-- ---- the laws

accepted_whole : (task : Task) (form : Option (List Spelled)) (pools : List Pool)
    → ((spelled : List Spelled) → form ≡ Some spelled → AreStarted spelled)
    → Accepted task form pools → AreWhole task (map plain pools)
accepted_whole task form pools starts accepted =
    let P : List PlainPool → Type 0 = AreWhole task in
    subst P (sym accepted.pools_are) (whole task accepted.spelled
    (no_fault (all_stream_names task) accepted.spelled accepted.right) (starts accepted.spelled accepted.form_is))

pub accepted_maps : AcceptedMapsAreWhole
accepted_maps task d pools accepted = accepted_whole task (map_in_data d) pools (map_starts d) accepted

pub accepted_words : AcceptedWordsAreWhole
accepted_words task words workers pools accepted =
    accepted_whole task (words_form task words workers) pools (words_start task words workers) accepted

-- ---- the grid's text

-- the same but for the words, which are as many
record IsAlike (p q : PlainPool) : Type 0 where
  first : p.first ≡ q.first
  workers : p.workers ≡ q.workers
  streams : p.streams ≡ q.streams
  words : length p.words ≡ length q.words

alike_itself : (p : PlainPool) → IsAlike p p
alike_itself p = record { first = refl; workers = refl; streams = refl; words = refl }

second_length : (text : List ℕ) (words : List (List ℕ))
    → length words ≡ length (with_second text words)
second_length text [] = refl
second_length text (word ∷ []) = refl
second_length text (word ∷ file ∷ words) = refl

module _ (text : List ℕ) where
  abbrev changed : PlainPool → PlainPool
  changed p = record p { words = with_second text p.words }

  alike_changed : (p : PlainPool) → IsAlike p (changed p)
  alike_changed p =
      record { first = refl; workers = refl; streams = refl; words = second_length text p.words }

  abbrev either_text : Bool → PlainPool → List PlainPool → List PlainPool
  either_text b p ps = cond b (changed p ∷ ps) (p ∷ with_text text ps)

  -- the pool at a place was there, but for its words
  was_at : (pools : List PlainPool) (k : ℕ) (q : PlainPool)
      → slice_get (with_text text pools) k ≡ Some q
      → (p : PlainPool) × (slice_get pools k ≡ Some p) × IsAlike p q
  was_at [] k q at = absurd (cc)
  was_at (p ∷ ps) k q at = at_either (begins_grid p.words) k at (λ n h. was_at ps n q h)
    where
      at_either : (b : Bool) (n : ℕ) → slice_get (either_text b p ps) n ≡ Some q
          → ((m : ℕ) → slice_get (with_text text ps) m ≡ Some q → (r : PlainPool) × (slice_get ps m ≡ Some r) × IsAlike r q)
          → (r : PlainPool) × (slice_get (p ∷ ps) n ≡ Some r) × IsAlike r q
      at_either true zero e later =
          (p, refl, subst (IsAlike p) (same_Some (changed p) q e) (alike_changed p))
      at_either true (suc n) e later = (q, e, alike_itself q)
      at_either false zero e later = (p, refl, subst (IsAlike p) (same_Some p q e) (alike_itself p))
      at_either false (suc n) e later = later n e

  -- and each is still there
  is_at : (pools : List PlainPool) (k : ℕ) (p : PlainPool) → slice_get pools k ≡ Some p
      → (q : PlainPool) × (slice_get (with_text text pools) k ≡ Some q) × IsAlike p q
  is_at [] k p at = absurd (cc)
  is_at (p ∷ ps) k r at = at_either (begins_grid p.words) k at (λ n h. is_at ps n r h)
    where
      at_either : (b : Bool) (n : ℕ) → slice_get (p ∷ ps) n ≡ Some r
          → ((m : ℕ) → slice_get ps m ≡ Some r → (q : PlainPool) × (slice_get (with_text text ps) m ≡ Some q) × IsAlike r q)
          → (q : PlainPool) × (slice_get (either_text b p ps) n ≡ Some q) × IsAlike r q
      at_either true zero e later = (changed p, refl, subst (λ (x : PlainPool). IsAlike x (changed p)) (same_Some p r e) (alike_changed p))
      at_either true (suc n) e later = (r, e, alike_itself r)
      at_either false zero e later =
          (p, refl, subst (λ (x : PlainPool). IsAlike x p) (same_Some p r e) (alike_itself p))
      at_either false (suc n) e later = later n e

at_of : {A : Type 0} (P : A → Type 0) (xs : List A) → All P xs → (k : ℕ) (x : A)
    → slice_get xs k ≡ Some x → P x
at_of P xs all k x at =
    subst P (get_or_from_slice_get xs k x x at) (all k x (slice_get_within xs k x at))

had_child : (p q : PlainPool) (child : ℕ) → IsAlike p q → PoolHasChild q child → PoolHasChild p child
had_child p q child alike has = record
    { from = omega (arith, has.from, alike.first); to = omega (arith, has.to, alike.first, alike.workers) }

pub texts_keep : TextsKeepPoolsWhole
texts_keep task text pools all = record {
  served = λ stream below.
      let found = all.served stream below in
      let now = is_at text pools found.0 found.1 found.2 in
      (found.0, now.0, now.1, subst (λ (streams : List ℕ). Contains streams stream) now.2.streams found.3);
  once = λ j k a b stream p q at_j at_k at_a at_b.
      let one = was_at text pools j p at_j in
      let other = was_at text pools k q at_k in
      all.once j k a b stream one.0 other.0 one.1 other.1 (ap (λ (streams : List ℕ). slice_get streams a) one.2.streams ∙ at_a)
      (ap (λ (streams : List ℕ). slice_get streams b) other.2.streams ∙ at_b);
  known = all_by_place (λ (p : PlainPool). All (λ stream. stream < length task.streams) p.streams) _ (λ k q at.
      let one = was_at text pools k q at in
      subst (λ (streams : List ℕ). All (λ stream. stream < length task.streams) streams) one.2.streams
      (at_of (λ (p : PlainPool). All (λ stream. stream < length task.streams) p.streams) pools all.known k one.0 one.1));
  apart = λ j k child p q at_j at_k in_p in_q.
      let one = was_at text pools j p at_j in
      let other = was_at text pools k q at_k in
      all.apart j k child one.0 other.0 one.1 other.1 (had_child one.0 p child one.2 in_p) (had_child other.0 q child other.2 in_q);
  some = all_by_place (λ (p : PlainPool). 1 ≤ p.workers) _ (λ k q at.
      let one = was_at text pools k q at in
      let had = at_of (λ (p : PlainPool). 1 ≤ p.workers) pools all.some k one.0 one.1 in
      omega (arith, had, one.2.workers));
  low = all_by_place (λ (p : PlainPool). p.first + p.workers ≤ 17) _ (λ k q at.
      let one = was_at text pools k q at in
      let had = at_of (λ (p : PlainPool). p.first + p.workers ≤ 17) pools all.low k one.0 one.1 in
      omega (arith, had, one.2.first, one.2.workers));
  started = all_by_place (λ (p : PlainPool). 1 ≤ length p.words) _ (λ k q at.
      let one = was_at text pools k q at in
      let had = at_of (λ (p : PlainPool). 1 ≤ length p.words) pools all.started k one.0 one.1 in
      omega (arith, had, one.2.words));
}
