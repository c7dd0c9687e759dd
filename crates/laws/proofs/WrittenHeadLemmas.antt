-- The head of a report that a run wrote: it binds the transcript as the run's head does, and fits the task.
use Rattle.std.proofs.Common.{◌≡◌, ℕ, zero, suc, ◌+◌, ◌<◌, ◌≤◌, ◌==◌, ◌&&◌, not, nat_le, Bool, true, false, List, [], ◌∷◌, ◌++◌, map, length, take, drop, sum_by, All, refl, sym, ap, subst, ◌∙◌, Some, slice_get, arith, append_assoc, le-leb, eqb-true}
use Rattle.std.proofs.lemmas.List.Concat.{flat_map-append}
use Rattle.std.proofs.lemmas.List.Elements.{All-head, All-tail, All-take, All-contains}
use Rattle.std.proofs.lemmas.List.Sums.{sum_by-append}
use Rattle.std.proofs.lemmas.Option.{slice_get_within, slice_get-map}
use Rattle.std.specs.List.{list_any, filter_map, flat_map}
use Rattle.std.specs.Option.{option_map}
use Rattle.std.proofs.lemmas.Map.Keys.{any_passes_from_place}
use Rattle.replay_check.specs.Heads.{AreFitPoolLines, IsFitReportHead, are_new, is_fit_pool, reported_limits, served_by, share_in, workers_together}
use Rattle.pools.proofs.PoolsLemmas.{server_is}
use Rattle.pools.specs.Pools.{Workers, workers_of}
use Rattle.task_model.proofs.KnownLemmas.{numbers_decided}
use Rattle.lemmas.proofs.Members.{member_at, get_append}
use Rattle.lemmas.proofs.Bools.{and_four}
use Rattle.lemmas.proofs.ListTests.{all_from, any_found}
use Rattle.task_model.specs.Fit.{IsFit}
use Rattle.task_model.specs.Known.{same_numbers}
use Rattle.lemmas.specs.Lists.{AreDistinct}
use Rattle.task_model.specs.declared.stream.Stream.{Stream}
use Rattle.task_model.specs.declared.task.Task.{Task}
use Rattle.transcript_model.proofs.NamesLemmas.{map_some}
use Rattle.transcript_model.proofs.LegalOnceLemmas.{cut_at}
use Rattle.transcript_model.specs.Names.{stream_named}
use Rattle.transcript_model.specs.Rounds.{limits_of, share_of}
use Rattle.report_text.specs.Texts.{shown_pool}
use Rattle.gen_lines.specs.Request.{stream_name}
use Rattle.transcript_model.specs.declared.entry.Entry.{Entry}
use Rattle.transcript_model.specs.declared.head.Head.{Head}
use Rattle.transcript_model.specs.declared.head.Pool.{Pool}
use Rattle.transcript_model.specs.declared.head.PoolLine.{PoolLine}
use Rattle.transcript_model.specs.declared.outcome.Outcome.{Outcome}
use Rattle.laws.proofs.ReplayPoolSumLemmas.{together}
use Rattle.laws.proofs.RunStreamNameLemmas.{stream_found}
use Rattle.laws.specs.Reports.{IsHeadOfReports}
use Rattle.turn_run.specs.Reports.{report_of}

-- the streams are the task's
abbrev AreStreams : Task → List ℕ → Type 0
AreStreams task streams = All (λ stream. stream < length task.streams) streams

abbrev streams_of : List Pool → List ℕ
streams_of pools = flat_map (λ (p : Pool). p.streams) pools

-- ---- streams by their names

module _ (task : Task) (fit : IsFit task) where
  all_found : (streams : List ℕ) → AreStreams task streams
      → filter_map (stream_named task) (map (stream_name task) streams) ≡ streams
  all_found [] are = refl
  all_found (s ∷ streams) are =
      let rest = all_found streams (All-tail (λ stream. stream < length task.streams) s streams are) in
      rw (stream_found task fit s (All-head (λ stream. stream < length task.streams) s streams are), rest) refl

  share_same : (p : Pool) → AreStreams task p.streams
      → share_in task (shown_pool task p) ≡ share_of p
  share_same p are = λ i. record { workers = p.workers; streams = all_found p.streams are i }

  shares_same : (pools : List Pool) → All (λ (p : Pool). AreStreams task p.streams) pools
      → map (share_in task) (map (shown_pool task) pools) ≡ map share_of pools
  shares_same [] are = refl
  shares_same (p ∷ pools) are =
      let here = share_same p (All-head (λ (q : Pool). AreStreams task q.streams) p pools are) in
      let rest = shares_same pools (All-tail (λ (q : Pool). AreStreams task q.streams) p pools are) in
      λ i. here i ∷ rest i

  -- The report binds the transcript as the run's head does.
  pub limits_same : (head : Head) (entries : List Entry) (o : Outcome)
      → All (λ (p : Pool). AreStreams task p.streams) head.pools
      → reported_limits task (report_of task head entries o) ≡ limits_of head
  limits_same head entries o are =
      λ i. record {
        version = head.version;
        mode = head.mode;
        calls = head.calls;
        states = head.states;
        depth = head.depth;
        pools = shares_same head.pools are i;
      }

  -- ---- pools

  served_same : (pools : List Pool) → All (λ (p : Pool). AreStreams task p.streams) pools
      → served_by task (map (shown_pool task) pools) ≡ streams_of pools
  served_same [] are = refl
  served_same (p ∷ pools) are =
      let here = all_found p.streams (All-head (λ (q : Pool). AreStreams task q.streams) p pools are) in
      let rest = served_same pools (All-tail (λ (q : Pool). AreStreams task q.streams) p pools are) in
      λ i. here i ++ rest i

  workers_same : (pools : List Pool)
      → workers_together (map (shown_pool task) pools) ≡ sum_by (λ (p : Pool). p.workers) pools
  workers_same [] = refl
  workers_same (p ∷ pools) =
      let shown = sum_by-append (λ (q : PoolLine). q.workers) (shown_pool task p ∷ []) (map (shown_pool task) pools) in
      let own = sum_by-append (λ (q : Pool). q.workers) (p ∷ []) pools in
      let rest = workers_same pools in
      omega (arith, shown, own, rest)

  fresh : (before : List ℕ) (s : ℕ) (rest : List ℕ) → AreDistinct (before ++ s ∷ rest)
      → not (list_any (λ t. t == s) before) ≡ true
  fresh before s rest distinct = by (list_any (λ t. t == s) before) refl
    where
      at_end : (xs ys : List ℕ) → slice_get (xs ++ s ∷ ys) (length xs) ≡ Some s
      at_end [] ys = refl
      at_end (x ∷ xs) ys = at_end xs ys

      by : (b : Bool) → list_any (λ t. t == s) before ≡ b → not b ≡ true
      by false none = refl
      by true some =
          let place = any_found (λ t. t == s) before some in
          let here = get_append before (s ∷ rest) place.0 place.1 place.2 in
          let same = eqb-true place.1 s place.3 in
          let one = distinct place.0 (length before) s (here ∙ ap Some same) (at_end before rest) in
          absurd (omega (arith, one, slice_get_within before place.0 place.1 place.2))

  all_new : (before streams : List ℕ) → AreStreams task streams → AreDistinct (before ++ streams)
      → are_new task before (map (stream_name task) streams) ≡ true
  all_new before [] are distinct = refl
  all_new before (s ∷ streams) are distinct =
      let found = stream_found task fit s (All-head (λ stream. stream < length task.streams) s streams are) in
      let rest = all_new (before ++ s ∷ []) streams (All-tail (λ stream. stream < length task.streams) s streams are)
      (subst AreDistinct (sym (append_assoc before (s ∷ []) streams)) distinct) in
      rw (found, fresh before s streams distinct, rest) refl

  front_distinct : (xs ys : List ℕ) → AreDistinct (xs ++ ys) → AreDistinct xs
  front_distinct xs ys distinct j k x at_j at_k =
      distinct j k x (get_append xs ys j x at_j) (get_append xs ys k x at_k)

  -- ---- the pools fit

  take_map : (k : ℕ) (pools : List Pool)
      → take k (map (shown_pool task) pools) ≡ map (shown_pool task) (take k pools)
  take_map zero pools = refl
  take_map (suc k) [] = refl
  take_map (suc k) (p ∷ pools) = ap (λ ps. shown_pool task p ∷ ps) (take_map k pools)

  module _ (head : Head) (can : IsHeadOfReports task head) where
    are : All (λ (p : Pool). AreStreams task p.streams) head.pools
    are = can.runnable.streams

    shown_at : (place : ℕ) (line : PoolLine)
        → slice_get (map (shown_pool task) head.pools) place ≡ Some line
        → (p : Pool) × (slice_get head.pools place ≡ Some p) × (shown_pool task p ≡ line)
    shown_at place line at =
        map_some (shown_pool task) (slice_get head.pools place) line
        (sym (slice_get-map (shown_pool task) head.pools place) ∙ at)

    one_fits : (place : ℕ) (p : Pool) → slice_get head.pools place ≡ Some p
        → is_fit_pool task (map (shown_pool task) (take place head.pools)) (shown_pool task p) ≡ true
    one_fits place p at =
        let there = member_at head.pools place p at in
        let before = take place head.pools in
        let own = can.runnable.fit.pools.some place
        (workers_of p) (slice_get-map workers_of head.pools place ∙ ap (option_map workers_of) at) in
        let few = All-contains (λ (q : Pool). q.workers ≤ 16) head.pools p can.pools.few there in
        let parts = cut_at head.pools place p at in
        let sums = ap (sum_by (λ (q : Pool). q.workers)) parts in
        let first = sum_by-append (λ (q : Pool). q.workers) before (p ∷ drop (suc place) head.pools) in
        let second = sum_by-append (λ (q : Pool). q.workers) (p ∷ []) (drop (suc place) head.pools) in
        let shown = workers_same before in
        let sum = together task head.pools can.runnable.fit.pools in
        let taken = All-take (λ (q : Pool). AreStreams task q.streams) place head.pools are in
        let lists : streams_of head.pools
        ≡ (streams_of before ++ p.streams) ++ streams_of (drop (suc place) head.pools) =
        ap streams_of parts ∙ flat_map-append (λ (q : Pool). q.streams) before (p ∷ drop (suc place) head.pools)
        ∙ sym (append_assoc (streams_of before) p.streams (streams_of (drop (suc place) head.pools))) in
        let apart =
        front_distinct (streams_of before ++ p.streams)
        (streams_of (drop (suc place) head.pools)) (subst AreDistinct lists can.pools.once) in
        let new = all_new (streams_of before) p.streams
        (All-contains (λ (q : Pool). AreStreams task q.streams) head.pools p are there) apart in
        and_four (nat_le 1 p.workers) (nat_le p.workers 16)
        (nat_le (workers_together (map (shown_pool task) before) + p.workers) 17)
        (are_new task (served_by task (map (shown_pool task) before)) (map (stream_name task) p.streams))
        (le-leb 1 p.workers own) (le-leb p.workers 16 few)
        (le-leb (workers_together (map (shown_pool task) before) + p.workers) 17
        (omega (arith, sums, first, second, shown, sum)))
        (subst (λ ss. are_new task ss (map (stream_name task) p.streams) ≡ true) (sym (served_same before taken)) new)

    pools_fit : AreFitPoolLines task (map (shown_pool task) head.pools)
    pools_fit place line at =
        let p = shown_at place line at in
        subst (λ q. is_fit_pool task (take place (map (shown_pool task) head.pools)) q ≡ true) p.2
        (subst (λ ps. is_fit_pool task ps (shown_pool task p.0) ≡ true) (sym (take_map place head.pools))
        (one_fits place p.0 p.1))

    -- ---- each stream has a pool

    is_served : (k : ℕ) (s : Stream) → slice_get task.streams k ≡ Some s
        → list_any (λ (p : PoolLine). list_any (same_numbers s.name) p.streams) (map (shown_pool task) head.pools)
        ≡ true
    is_served k s at =
        let pool = can.runnable.fit.pools.served k (slice_get_within task.streams k s at) in
        let found = server_is (map workers_of head.pools) k pool.0 pool.1 in
        let p = map_some workers_of (slice_get head.pools found.0) pool.0
        (sym (slice_get-map workers_of head.pools found.0) ∙ found.1) in
        let in_pool : list_any (λ t. t == k) p.0.streams ≡ true =
        ap (λ (w : Workers). list_any (λ t. t == k) w.streams) p.2 ∙ found.2 in
        let place = any_found (λ t. t == k) p.0.streams in_pool in
        let name : stream_name task place.1 ≡ s.name = ap (stream_name task) (eqb-true place.1 k place.3)
        ∙ (rw at refl) in
        let inner =
        any_passes_from_place (same_numbers s.name) (map (stream_name task) p.0.streams) place.0
        (stream_name task place.1)
        (slice_get-map (stream_name task) p.0.streams place.0 ∙ ap (option_map (stream_name task)) place.2)
        ((numbers_decided s.name (stream_name task place.1)).1 (sym name)) in
        any_passes_from_place (λ (q : PoolLine). list_any (same_numbers s.name) q.streams)
        (map (shown_pool task) head.pools) found.0
        (shown_pool task p.0) (slice_get-map (shown_pool task) head.pools found.0
        ∙ ap (option_map (shown_pool task)) p.1) inner

    -- ---- the head fits

    six : (a b c d e f : Bool) → a ≡ true → b ≡ true → c ≡ true → d ≡ true → e ≡ true → f ≡ true
        → (a && b && c && d && e && f) ≡ true
    six a b c d e f ea eb ec ed ee ef = rw (ea, eb, ec, ed, ee, ef) refl

    pub head_fits : (entries : List Entry) (o : Outcome) → IsFitReportHead task (report_of task head entries o)
    head_fits entries o = record {
      limits = six (nat_le 1 head.calls) (nat_le head.calls 100000) (nat_le 1 head.states) (nat_le head.states 200000)
          (nat_le 1 head.depth) (nat_le head.depth 8)
          (le-leb 1 head.calls can.runnable.fit.some_calls) (le-leb head.calls 100000 can.runnable.fit.calls)
          (le-leb 1 head.states can.runnable.some_states) (le-leb head.states 200000 can.runnable.few_states)
          (le-leb 1 head.depth can.some_depth) (le-leb head.depth 8 can.depth);
      pools = pools_fit;
      served = all_from
          (λ (s : Stream). list_any (λ (p : PoolLine). list_any (same_numbers s.name) p.streams)
          (map (shown_pool task) head.pools))
          task.streams is_served;
    }
