-- Heads of runs.
use Rattle.std.proofs.Common.{◌≡◌, ℕ, zero, suc, ◌+◌, ◌<◌, ◌≤◌, ◌==◌, arith, Bool, true, false, cond, ◌||◌, List, [], ◌∷◌, map, length, string_bytes, refl, sym, subst, ap, ◌∙◌, All, Option, Some, None, slice_get}
use Rattle.std.proofs.lemmas.Bool.{eq-eqb, or_right}
use Rattle.std.proofs.lemmas.List.{length-map}
use Rattle.std.proofs.lemmas.List.Elements.{All-contains}
use Rattle.std.proofs.lemmas.Option.{same_Some}
use Rattle.std.specs.List.{list_any}
use Rattle.command_line.specs.Ranges.{AreInRange}
use Rattle.command_line.specs.Words.{SolveWords}
use Rattle.io_world.specs.FileMap.{FileMap}
use Rattle.lemmas.proofs.ListTests.{all_by_place, number_found}
use Rattle.lemmas.proofs.Members.{member_at, place_of}
use Rattle.round_run.specs.Batches.{IsRunnable}
use Rattle.pools.specs.Pools.{AreFitPools, Workers, has_stream, server, workers_of}
use Rattle.pools.specs.Pools as children
use Rattle.stream_map.proofs.LawsLemmas.{accepted_maps, accepted_words, texts_keep}
use Rattle.stream_map.specs.Children.{PlainPool, grid_file, plain}
use Rattle.stream_map.specs.Laws.{AreWhole, PoolHasChild}
use Rattle.task_model.specs.declared.task.Task.{Task}
use Rattle.transcript_model.specs.declared.head.Head.{Head}
use Rattle.transcript_model.specs.declared.head.Mode.TheVariants.{Incremental}
use Rattle.transcript_model.specs.declared.head.Pool.{Pool}
use Rattle.run_command.specs.Heads.{AreServed, IsHeadOf}
use Rattle.command_files.specs.Pools.{HaveText, MeansBy}

-- ---- lists

module _ {A B : Type 0} (f : A → B) where
  -- what stands in a mapped list
  pub mapped_at : (xs : List A) (k : ℕ) (y : B) → slice_get (map f xs) k ≡ Some y
      → (x : A) × (slice_get xs k ≡ Some x) × (f x ≡ y)
  mapped_at [] k y at = absurd (cc)
  mapped_at (x ∷ xs) zero y at = (x, refl, same_Some (f x) y at)
  mapped_at (x ∷ xs) (suc k) y at = mapped_at xs k y at

  pub at_mapped : (xs : List A) (k : ℕ) (x : A) → slice_get xs k ≡ Some x
      → slice_get (map f xs) k ≡ Some (f x)
  at_mapped [] k x at = absurd (cc)
  at_mapped (y ∷ ys) zero x at = ap (λ z. Some (f z)) (same_Some y x at)
  at_mapped (y ∷ ys) (suc k) x at = at_mapped ys k x at

  -- what holds of each member of a mapped list
  pub all_before : (P : B → Type 0) (xs : List A) → All P (map f xs) → All (λ x. P (f x)) xs
  all_before P xs all = all_by_place (λ x. P (f x)) xs (λ k x at.
      All-contains P (map f xs) (f x) all (member_at (map f xs) k (f x) (at_mapped xs k x at)))

among : (streams : List ℕ) (k stream : ℕ) → slice_get streams k ≡ Some stream
    → list_any (λ s. s == stream) streams ≡ true
among [] k stream at = absurd (cc)
among (s ∷ ss) zero stream at =
    ap (λ b. b || list_any (λ t. t == stream) ss) (eq-eqb s stream (same_Some s stream at))
among (s ∷ ss) (suc k) stream at = or_right (s == stream) _ (among ss k stream at)

-- ---- pools

-- a stream that a pool serves has a server
served_by : (all : List Workers) (k stream : ℕ) (p : Workers) → slice_get all k ≡ Some p
    → has_stream p stream ≡ true → (q : Workers) × (server all stream ≡ Some q)
served_by [] k stream p at is = absurd (cc)
served_by (q ∷ all) zero stream p at is =
    let here : has_stream q stream ≡ true = ap (λ w. has_stream w stream) (same_Some q p at) ∙ is in
    (q, ap (λ b. cond b (Some q) (server all stream)) here)
served_by (q ∷ all) (suc k) stream p at is =
    by (has_stream q stream) refl (served_by all k stream p at is)
  where
    by : (b : Bool) → has_stream q stream ≡ b → (r : Workers) × (server all stream ≡ Some r)
        → (r : Workers) × (server (q ∷ all) stream ≡ Some r)
    by true e rest = (q, ap (λ b. cond b (Some q) (server all stream)) e)
    by false e rest = (rest.0, ap (λ b. cond b (Some q) (server all stream)) e ∙ rest.1)

module _ (task : Task) (pools : List Pool) (all : AreWhole task (map plain pools)) where
  -- a pool by its workers, and as it stands among those that are whole
  abbrev IsAt : ℕ → Workers → Type 0
  IsAt k q = (p : Pool) × (workers_of p ≡ q) × (slice_get (map plain pools) k ≡ Some (plain p))

  is_at : (k : ℕ) (q : Workers) → slice_get (map workers_of pools) k ≡ Some q → IsAt k q
  is_at k q at =
      let there = mapped_at workers_of pools k q at in
      (there.0, there.2, at_mapped plain pools k there.0 there.1)

  -- its children
  has_child : (p : Pool) (q : Workers) (child : ℕ) → workers_of p ≡ q → children.HasChild q child
      → PoolHasChild (plain p) child
  has_child p q child is has =
      let here = subst (λ w. children.HasChild w child) (sym is) has in
      record { from = here.from; to = here.to }

  -- where it serves a stream
  serves_at : (p : Pool) (q : Workers) (stream : ℕ) → workers_of p ≡ q → has_stream q stream ≡ true
      → (a : ℕ) × (slice_get p.streams a ≡ Some stream)
  serves_at p q stream is e = number_found p.streams stream (ap (λ w. has_stream w stream) is ∙ e)

  served : (stream : ℕ) → stream < length task.streams
      → (q : Workers) × (server (map workers_of pools) stream ≡ Some q)
  served stream below =
      let there = all.served stream below in
      let pool = mapped_at plain pools there.0 there.1 there.2 in
      let place = place_of there.1.streams stream there.3 in
      let one = subst (λ (p : PlainPool). slice_get p.streams place.0 ≡ Some stream) (sym pool.2) place.1 in
      served_by (map workers_of pools) there.0 stream (workers_of pool.0)
      (at_mapped workers_of pools there.0 pool.0 pool.1) (among pool.0.streams place.0 stream one)

  -- pools of their own are fit
  pub fit_pools : AreFitPools task (map workers_of pools)
  fit_pools = record {
    served = served;
    apart = λ j k child p q at_j at_k in_p in_q.
        let one = is_at j p at_j in
        let other = is_at k q at_k in
        all.apart j k child (plain one.0) (plain other.0) one.2 other.2
        (has_child one.0 p child one.1 in_p) (has_child other.0 q child other.1 in_q);
    once = λ j k stream p q at_j at_k in_p in_q.
        let one = is_at j p at_j in
        let other = is_at k q at_k in
        let a = serves_at one.0 p stream one.1 in_p in
        let b = serves_at other.0 q stream other.1 in_q in
        (all.once j k a.0 b.0 stream (plain one.0) (plain other.0) one.2 other.2 a.1 b.1).0;
    some = λ k p at.
        let one = is_at k p at in
        let there = member_at (map plain pools) k (plain one.0) one.2 in
        let some = All-contains (λ (q : PlainPool). 1 ≤ q.workers) (map plain pools) (plain one.0) all.some there in
        subst (λ (w : Workers). 1 ≤ w.workers) one.1 some;
    few = λ k p at.
        let one = is_at k p at in
        let there = member_at (map plain pools) k (plain one.0) one.2 in
        let few = All-contains (λ (q : PlainPool). q.first + q.workers ≤ 17) (map plain pools) (plain one.0) all.low there in
        subst (λ (w : Workers). w.first + w.workers ≤ 17) one.1 few;
  }

  pub words_there : All (λ (p : Pool). 0 < length p.argv) pools
  words_there = all_by_place (λ (p : Pool). 0 < length p.argv) pools (λ k p at.
      let there = member_at (map plain pools) k (plain p) (at_mapped plain pools k p at) in
      let some = All-contains (λ (q : PlainPool). 1 ≤ length q.words) (map plain pools) (plain p) all.started there in
      omega (arith, some, length-map p.argv string_bytes))

  pub streams_there : All (λ (p : Pool). All (λ stream. stream < length task.streams) p.streams) pools
  streams_there =
      all_before plain (λ (q : PlainPool). All (λ stream. stream < length task.streams) q.streams) pools all.known

-- ---- the pools that words mean

module _ (task : Task) (told : Option FileMap) (w : SolveWords) where
  meant_whole : (path : Option (List ℕ)) (pools : List Pool) → MeansBy path told w task pools
      → AreWhole task (map plain pools)
  meant_whole None pools means = accepted_words task w.program w.workers pools means
  meant_whole (Some path) pools means =
      accepted_maps task means.so.data_of pools means.so.accepted

  text_whole : (path : Option (List ℕ)) (meant pools : List Pool) → HaveText path told meant pools
      → AreWhole task (map plain meant) → AreWhole task (map plain pools)
  text_whole None meant pools same whole = subst (λ ps. AreWhole task (map plain ps)) (sym same) whole
  text_whole (Some path) meant pools has whole =
      subst (AreWhole task) (sym has.so.placed) (texts_keep task has.bytes (map plain meant) whole)

  pub served_whole : (pools : List Pool) → AreServed told w task pools → AreWhole task (map plain pools)
  served_whole pools served =
      text_whole (grid_file (map plain served.meant)) served.meant pools served.text (meant_whole w.path served.meant served.means)

  -- a head of words in their ranges can be run
  pub head_runs : (head : Head) → IsHeadOf told w task head → AreInRange w → IsRunnable task head
  head_runs head headed within =
      let whole = served_whole head.pools headed.pools in
      record {
        fit = record {
          some_version = omega (arith, headed.version, within.protocol.0);
          version = omega (arith, headed.version, within.protocol.1);
          some_calls = omega (arith, headed.calls, within.calls.0);
          calls = omega (arith, headed.calls, within.calls.1);
          pools = fit_pools task head.pools whole;
        };
        words = words_there task head.pools whole;
        streams = streams_there task head.pools whole;
        some_states = omega (arith, headed.states, within.states.0);
        few_states = omega (arith, headed.states, within.states.1);
      }

  -- the cheapest plan is asked for in incremental mode alone
  pub head_alone : (head : Head) → IsHeadOf told w task head → AreInRange w → head.optimal ≡ true
      → head.mode ≡ Incremental
  head_alone head headed within asked = headed.mode ∙ within.cheapest (sym headed.optimal ∙ asked)
