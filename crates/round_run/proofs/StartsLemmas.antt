-- Children that are started, one after another.
use Rattle.std.proofs.Common.{◌≡◌, ℕ, zero, suc, ◌+◌, ◌<◌, ◌≤◌, arith, Bool, true, false, not, ◌&&◌, nat_lt, List, [], ◌∷◌, ◌++◌, map, length, replicate, refl, sym, subst, ap, ◌∙◌, inl, inr, Option, Some, None, Result, Ok, Err, slice_get, option_map, get_or, unwrap_or}
use Rattle.std.specs.List.{find, flat_map}
use Rattle.std.proofs.lemmas.Bool.{cases_lt, ltb-true, ltb-false}
use Rattle.std.proofs.lemmas.Grind.{flat_map-append}
use Rattle.std.proofs.lemmas.List.{append-nil}
use Rattle.std.proofs.lemmas.List.Folds.{find_at}
use Rattle.std.specs.List.{position_or_len}
use Rattle.io_world.specs.Talks.{Event, Talk}
use Rattle.round_run.specs.Calls.{has_child, start_at, starts_of}
use Rattle.lemmas.specs.Lists.{numbers_from}
use Rattle.std.proofs.lemmas.Option.{slice_get-map, slice_get-get_or, slice_get_past, slice_get_within}
use Rattle.std.specs.Result.{IfOk, OnOk}
use Rattle.io_world.specs.Talks.{Becomes, Same}
use Rattle.pools.specs.Pools.{Workers, workers_of}
use Rattle.task_model.specs.declared.task.Task.{Task}
use Rattle.transcript_model.specs.declared.head.Head.{Head}
use Rattle.transcript_model.specs.declared.head.Pool.{Pool}
use Rattle.round_run.specs.Held.{Held}
use Rattle.round_run.specs.Resting.{KeepsSilent}
use Rattle.round_run.specs.Starts.{AllWork, AreStartable, IsWorker}
use Rattle.transcript_model.specs.declared.entry.Entry.{Entry}
use Rattle.round_run.specs.Batches.{AllRun, AreStarted, EndsBatch, IsRunnable}
use Rattle.round_run.specs.declared.ending.Batch.{Batch}
use Rattle.round_run.specs.declared.ending.Batch.TheVariants.{Done, CallsSpent}
use Rattle.lemmas.proofs.Numbers.{numbers_more}
use Rattle.lemmas.proofs.ListTests.{find_none, find_passes}

pub none_started : (n child : ℕ) → unwrap_or (slice_get (replicate n false) child) false ≡ false
none_started zero child = refl
none_started (suc n) zero = refl
none_started (suc n) (suc child) = none_started n child

pub not_started_past : (started : List Bool) (child : ℕ) → length started ≤ child
    → unwrap_or (slice_get started child) false ≡ false
not_started_past started child past =
    ap (λ o. unwrap_or o false) (slice_get_past started child past)

-- ---- the pool that has a child

has_worker : (pool : Pool) (child : ℕ) → has_child child pool ≡ true → IsWorker pool child
has_worker pool child has = by (nat_lt child pool.first) (nat_lt child (pool.first + pool.workers)) refl refl has
  where
    by : (a b : Bool) → nat_lt child pool.first ≡ a
        → nat_lt child (pool.first + pool.workers) ≡ b → (not a && b) ≡ true → IsWorker pool child
    by true b low high e = absurd (cc)
    by false false low high e = absurd (cc)
    by false true low high e = record {
      from = omega (arith, ltb-false child pool.first low);
      to = ltb-true child (pool.first + pool.workers) high;
    }

worker_has : (pool : Pool) (child : ℕ) → IsWorker pool child → has_child child pool ≡ false → ⊥
worker_has pool child is has = by (nat_lt child pool.first) (nat_lt child (pool.first + pool.workers)) refl refl has
  where
    by : (a b : Bool) → nat_lt child pool.first ≡ a
        → nat_lt child (pool.first + pool.workers) ≡ b → (not a && b) ≡ false → ⊥
    by true b low high e = omega (arith, ltb-true child pool.first low, is.from)
    by false false low high e =
        omega (arith, ltb-false child (pool.first + pool.workers) high, is.to)
    by false true low high e = absurd (cc)

-- the pool that is found is one of the pools, and has the child
pub found_worker : (pools : List Pool) (child : ℕ) (pool : Pool)
    → find (has_child child) pools ≡ Some pool
    → (k : ℕ) × (slice_get pools k ≡ Some pool) × IsWorker pool child
found_worker pools child pool found = (
  position_or_len (has_child child) pools,
  sym (find_at (has_child child) pools) ∙ found,
  has_worker pool child (find_passes (has_child child) pools pool found),
)

-- no pool has a child for which none is found
pub no_worker : (pools : List Pool) (child k : ℕ) (pool : Pool)
    → find (has_child child) pools ≡ None → slice_get pools k ≡ Some pool → ¬ (IsWorker pool child)
no_worker pools child k pool none at is =
    worker_has pool child is (find_none (has_child child) pools none k pool at)

-- a pool's words begin with a program
pub has_words : (pools : List Pool) → AreStartable pools → (k : ℕ) (pool : Pool)
    → slice_get pools k ≡ Some pool → 0 < length pool.argv
has_words pools start k pool at =
    let within = slice_get_within pools k pool at in
    let there : Some (get_or pools k pool) ≡ Some pool = sym (slice_get-get_or pools k pool within) ∙ at in
    let same : get_or pools k pool ≡ pool = cc in
    subst (λ (p : Pool). 0 < length p.argv) same (start.words k pool within)

-- a worker's number is below 17
pub worker_low : (pools : List Pool) → AreStartable pools → (k child : ℕ) (pool : Pool)
    → slice_get pools k ≡ Some pool → IsWorker pool child → child < 17
worker_low pools start k child pool at is =
    let within = slice_get_within pools k pool at in
    let there : Some (get_or pools k pool) ≡ Some pool = sym (slice_get-get_or pools k pool within) ∙ at in
    let same : get_or pools k pool ≡ pool = cc in
    let low = subst (λ (p : Pool). p.first + p.workers ≤ 17) same (start.low k pool within) in
    omega (arith, low, is.to)

-- ---- children up to one

-- each pool's workers before this child run
abbrev pub RunBefore : List Pool → ℕ → (ℕ → Bool) → Type 0
RunBefore pools next running = (k child : ℕ) (p : Pool) → child < next → slice_get pools k ≡ Some p
    → IsWorker p child → running child ≡ true

-- none of the others does
abbrev pub IdleFrom : List Pool → ℕ → (ℕ → Bool) → Type 0
IdleFrom pools next running = (k child : ℕ) (p : Pool) → next ≤ child → slice_get pools k ≡ Some p
    → IsWorker p child → running child ≡ false

module _ (pools : List Pool) (next : ℕ) (old new : ℕ → Bool) (becomes : Becomes next true old new) where
  pub runs_more : RunBefore pools next old → RunBefore pools (next + 1) new
  runs_more runs k child p to at is = elim (cases_lt child next) [
    | inl less ↦ becomes.others child (λ e. omega (arith, e, less)) ∙ runs k child p less at is
    | inr more ↦ ap new (let same : child ≡ next = omega (arith, more, to) in same) ∙ becomes.here
  ]

  pub idle_further : IdleFrom pools next old → IdleFrom pools (next + 1) new
  idle_further idle k child p from at is =
      becomes.others child (λ e. omega (arith, e, from)) ∙ idle k child p (omega (arith, from)) at is

pub idle_still : (pools : List Pool) (next : ℕ) (running : ℕ → Bool)
    → IdleFrom pools next running → IdleFrom pools (next + 1) running
idle_still pools next running idle k child p from at is = idle k child p (omega (arith, from)) at is

module _ (pools : List Pool) (next : ℕ) (running : ℕ → Bool) (none : find (has_child next) pools ≡ None) where
  pub passed_over : RunBefore pools next running → RunBefore pools (next + 1) running
  passed_over runs k child p to at is = elim (cases_lt child next) [
    | inl less ↦ runs k child p less at is
    | inr more ↦
        let same : child ≡ next = omega (arith, more, to) in
        absurd (no_worker pools next k p none at (subst (IsWorker p) same is))
  ]

-- ---- the starts up to one child

numbers_split : (first k n : ℕ) → k < n
    → (rest : List ℕ) × (numbers_from first n ≡ numbers_from first k ++ (first + k) ∷ rest)
numbers_split first k zero below = absurd (omega (arith, below))
numbers_split first zero (suc n) below =
    (numbers_from (first + 1) n, ap (λ k. k ∷ numbers_from (first + 1) n) (omega arith))
numbers_split first (suc k) (suc n) below =
    let later = numbers_split (first + 1) k n (omega (arith, below)) in
    let shift : first + 1 + k ≡ first + suc k = omega arith in (
      later.0,
      ap (λ ks. first ∷ ks) (later.1 ∙ ap (λ j. numbers_from (first + 1) k ++ j ∷ later.0) shift),
    )

-- the starts up to this child and its own are those up to the next
pub starts_more : (pools : List Pool) (child : ℕ)
    → flat_map (start_at pools) (numbers_from 0 (child + 1))
    ≡ flat_map (start_at pools) (numbers_from 0 child) ++ start_at pools child
starts_more pools child =
    ap (flat_map (start_at pools)) (numbers_more 0 child
    ∙ ap (λ k. numbers_from 0 child ++ k ∷ []) (let own : 0 + child ≡ child = omega arith in own))
    ∙ flat_map-append (start_at pools) (numbers_from 0 child) (child ∷ [])
    ∙ ap (λ es. flat_map (start_at pools) (numbers_from 0 child) ++ es) (append-nil (start_at pools child))

-- all starts are those up to a child, its own, and others
pub starts_cut : (pools : List Pool) (child : ℕ) → child < 17
    → (rest : List Event) × (starts_of pools
    ≡ flat_map (start_at pools) (numbers_from 0 child) ++ (start_at pools child ++ rest))
unfolding starts_of
starts_cut pools child below =
    let cut = numbers_split 0 child 17 below in
    let own : 0 + child ≡ child = omega arith in
    let whole : numbers_from 0 17 ≡ numbers_from 0 child ++ child ∷ cut.0 =
    subst (λ k. numbers_from 0 17 ≡ numbers_from 0 child ++ k ∷ cut.0) own cut.1 in (
      flat_map (start_at pools) cut.0,
      ap (flat_map (start_at pools)) whole
          ∙ flat_map-append (start_at pools) (numbers_from 0 child) (child ∷ cut.0),
    )

-- the starts up to the last child are all
pub starts_whole : (pools : List Pool) (next : ℕ) → next ≡ 17
    → flat_map (start_at pools) (numbers_from 0 next) ≡ starts_of pools
unfolding starts_of
starts_whole pools next is = ap (λ n. flat_map (start_at pools) (numbers_from 0 n)) is

-- ---- what is kept

pub keeps_then : (a b d : Held) (first second third : ℕ → Option Talk) → KeepsSilent a b first second
    → KeepsSilent b d second third → KeepsSilent a d first third
keeps_then a b d first second third one two =
    record { kept = two.kept ∙ one.kept; silent = λ silent. two.silent (one.silent silent) }

-- ---- what is asked for

pub startable : (task : Task) (head : Head) → IsRunnable task head → AreStartable head.pools
startable task head runnable = record {
  apart = λ j k child p q at_j at_k in_p in_q.
      runnable.fit.pools.apart j k child (workers_of p) (workers_of q) (seen j p at_j)
      (seen k q at_k) (record { from = in_p.from; to = in_p.to }) (record { from = in_q.from; to = in_q.to });
  low = λ k d lt. runnable.fit.pools.few k (workers_of (get_or head.pools k d))
      (seen k (get_or head.pools k d) (slice_get-get_or head.pools k d lt));
  words = runnable.words;
}
  where
    seen : (k : ℕ) (p : Pool) → slice_get head.pools k ≡ Some p
        → slice_get (map workers_of head.pools) k ≡ Some (workers_of p)
    seen k p at = slice_get-map workers_of head.pools k ∙ ap (option_map workers_of) at

pub all_run : (pools : List Pool) (workers : List Workers) (running : ℕ → Bool)
    → workers ≡ map workers_of pools → AllWork pools running
    → AllRun workers running
all_run pools workers running is all k child w at in_w =
    by (slice_get pools k) refl (sym (slice_get-map workers_of pools k) ∙ ap (λ ws. slice_get ws k) (sym is) ∙ at)
  where
    by : (o : Option Pool) → slice_get pools k ≡ o → option_map workers_of o ≡ Some w
        → running child ≡ true
    by None here e = absurd (cc)
    by (Some p) here e =
        let same : workers_of p ≡ w = cc in
        all k child p here (record {
          from = subst (λ (v : Workers). v.first ≤ child) (sym same) in_w.from;
          to = subst (λ (v : Workers). child < v.first + v.workers) (sym same) in_w.to;
        })

-- ---- after a batch

-- whether children run after a batch
pub started_after : (task : Task) (entries : List Entry) (before after calls many : ℕ) (b : Batch)
    (pools later : List Workers) (old mid new : ℕ → Bool)
    → EndsBatch task entries before after calls many b → before ≤ after → 1 ≤ calls → AreStarted pools before old
    → (0 < many → AllRun pools mid) → (many ≡ 0 → Same old mid) → Same mid new → later ≡ pools → AreStarted later after new
started_after task entries before after calls many b pools later old mid new ends grows some started ready idle running same =
    subst (λ ps. AreStarted ps after new) (sym same) (by many b refl ends)
  where
    moved : AllRun pools mid → AllRun pools new
    moved all k child p at is = running child ∙ all k child p at is

    stays : many ≡ 0 → after ≡ before → AreStarted pools after new
    stays none here = record {
      none =
          λ e child. running child ∙ idle none child ∙ started.none (omega (arith, e, here)) child;
      all = λ more k child p at is. running child ∙ idle none child ∙ started.all (omega (arith, more, here)) k child p at is;
    }

    runs : 0 < many → 0 < after → AreStarted pools after new
    runs more there = record {
      none = λ e child. absurd (omega (arith, e, there));
      all = λ more_there. moved (ready more);
    }

    by : (n : ℕ) (c : Batch) → many ≡ n → EndsBatch task entries before after calls many c
        → AreStarted pools after new
    by zero Done e h = stays e (omega (arith, h.0, e))
    by zero CallsSpent e h = absurd (omega (arith, h.0, h.1, e, grows))
    by (suc n) Done e h = runs (omega (arith, e)) (omega (arith, h.0, e))
    by (suc n) CallsSpent e h = runs (omega (arith, e)) (omega (arith, h.0, some))

pub level_ok : {T E : Type 0} (r : Result T E) (P R : T → Type 0) (A : Type 0)
    → ((t : T) → P t → A → R t) → IfOk r P → OnOk r A → IfOk r R
level_ok (Ok t) P R A f p a = f t p a
level_ok (Err e) P R A f p a = tt
