-- A round that is begun.
use Rattle.std.proofs.Common.{◌≡◌, ℕ, zero, suc, ◌+◌, ◌*◌, ◌≤◌, ◌<◌, true, false, List, [], ◌∷◌, ◌++◌, length, take, get_or, refl, sym, ap, subst, ◌∙◌, inl, inr, Option, None, Some, slice_get, option_map, arith, count_by, append_assoc, All}
use Rattle.std.proofs.Math.Seq.{take-length}
use Rattle.std.proofs.lemmas.Bool.{cases_lt}
use Rattle.std.proofs.lemmas.List.{append-nil, length-map}
use Rattle.std.proofs.lemmas.Option.{slice_get_within, slice_get-get_or, slice_get-map}
use Rattle.std.proofs.lemmas.List.Elements.{All-nil, All-cons}
use Rattle.gen_lines.specs.Request.{IsNamed}
use Rattle.instance_queue.proofs.LevelLemmas.{due_in}
use Rattle.instance_queue.specs.Level.{due_instances}
use Rattle.instance_queue.specs.declared.due.Due.{Due}
use Rattle.lemmas.proofs.Members.{member_at}
use Rattle.pools.proofs.PoolsLemmas.{server_is, workers_fit}
use Rattle.pools.specs.Pools.{AreFitPools, HasChild, IsChild, Workers, child_for, has_stream, server, shares_of, asked_streams}
use Rattle.task_model.specs.Known.{Known, IsCoherent}
use Rattle.lemmas.specs.Lists.{AreDistinct}
use Rattle.task_model.specs.Streams.{IsDue}
use Rattle.task_model.specs.declared.stream.Instance.{Instance}
use Rattle.task_model.specs.declared.task.Task.{Task}
use Rattle.transcript_model.proofs.CoherentLemmas.{coherent}
use Rattle.transcript_model.specs.Rounds.{fits}
use Rattle.transcript_model.specs.Transcript.{known_of, notes_of}
use Rattle.transcript_model.specs.declared.entry.Entry.{Entry}
use Rattle.lemmas.proofs.Counts.{count_passes, count_whole}
use Rattle.session_core.proofs.SlotsLemmas.{children_of}
use Rattle.session_core.specs.Events.{IsFresh}
use Rattle.session_core.specs.Session.{IsSession, AreSlotsFor, MayBeginRound, round_begun}
use Rattle.session_core.specs.Slots.{Slot, ask_for, asks_from, slot_for, slots_from}
use Rattle.session_core.specs.State.{State, IsSound}
use Rattle.task_model.proofs.KnownLemmas.{below_names}
use Rattle.session_core.specs.Ready.{AreAskable}

-- ---- one due more

module _ (task : Task) (names : List (List ℕ)) where
  pub asks_step : (n : ℕ) (dues : List Due) (k : ℕ) (d : Due) → slice_get dues k ≡ Some d
      → asks_from task names n (take (k + 1) dues) ≡ asks_from task names n (take k dues) ++ ask_for task names (n + k) d ∷ []
  asks_step n [] k d at = absurd (cc)
  asks_step n (u ∷ us) zero d at = let same : u ≡ d = cc in λ i. ask_for task names ((let e : n ≡ n + 0 = omega arith in e) i) (same i) ∷ []
  asks_step n (u ∷ us) (suc k) d at =
      ap (λ m. asks_from task names n (take m (u ∷ us))) (let e : suc k + 1 ≡ suc (k + 1) = omega arith in e)
      ∙ ap (λ es. ask_for task names n u ∷ es)
      (asks_step (n + 1) us k d at
      ∙ ap (λ m. asks_from task names (n + 1) (take k us) ++ ask_for task names m d ∷ [])
      (let e : (n + 1) + k ≡ n + suc k = omega arith in e))

  module _ (version : ℕ) (pools : List Workers) where
    pub slots_step : (n : ℕ) (before : List ℕ) (dues : List Due) (k : ℕ) (d : Due)
        → slice_get dues k ≡ Some d
        → slots_from task names version pools n before (take (k + 1) dues)
        ≡ slots_from task names version pools n before (take k dues)
        ++ slot_for task names version pools (n + k) (before ++ asked_streams (take k dues)) d ∷ []
    slots_step n before [] k d at = absurd (cc)
    slots_step n before (u ∷ us) zero d at =
        let same : u ≡ d = cc in
        λ i. slot_for task names version pools ((let e : n ≡ n + 0 = omega arith in e) i) (sym (append-nil before) i) (same i) ∷ []
    slots_step n before (u ∷ us) (suc k) d at =
        ap (λ m. slots_from task names version pools n before (take m (u ∷ us))) (let e : suc k + 1 ≡ suc (k + 1) = omega arith in e)
        ∙ ap (λ es. slot_for task names version pools n before u ∷ es) (slots_step (n + 1) (before ++ u.instance.stream ∷ []) us k d at
        ∙ (λ i. slots_from task names version pools (n + 1) (before ++ u.instance.stream ∷ []) (take k us)
        ++ slot_for task names version pools ((let e : (n + 1) + k ≡ n + suc k = omega arith in e) i)
        (append_assoc before (u.instance.stream ∷ []) (asked_streams (take k us)) i) d
        ∷ []))

    -- the child of each slot
    child_at : (n : ℕ) (before : List ℕ) (dues : List Due) (k c : ℕ)
        → slice_get (children_of (slots_from task names version pools n before dues)) k ≡ Some c
        → (d : Due) × (slice_get dues k ≡ Some d) × (c ≡ child_for pools (before ++ asked_streams (take k dues)) d.instance.stream)
    child_at n before [] k c at = absurd (cc)
    child_at n before (u ∷ us) zero c at = (
      u,
      refl,
      (let e : c ≡ child_for pools before u.instance.stream = cc in e)
          ∙ ap (λ b. child_for pools b u.instance.stream) (sym (append-nil before)),
    )
    child_at n before (u ∷ us) (suc k) c at =
        let r = child_at (n + 1) (before ++ u.instance.stream ∷ []) us k c at in (
          r.0,
          r.1,
          r.2 ∙ ap (λ b. child_for pools b r.0.instance.stream) (append_assoc before (u.instance.stream ∷ []) (asked_streams (take k us))),
        )

    fresh_slots : (n : ℕ) (before : List ℕ) (dues : List Due)
        → AreSlotsFor task version n dues (slots_from task names version pools n before dues)
    fresh_slots n before [] = tt
    fresh_slots n before (d ∷ ds) =
        (record { numbered = refl; wanted = refl; right = λ e is. absurd (cc) }, fresh_slots (n + 1) (before ++ d.instance.stream ∷ []) ds)

    long_slots : (n : ℕ) (before : List ℕ) (dues : List Due)
        → length (slots_from task names version pools n before dues) ≡ length dues
    long_slots n before [] = refl
    long_slots n before (d ∷ ds) = ap suc (long_slots (n + 1) (before ++ d.instance.stream ∷ []) ds)

  long_asks : (n : ℕ) (dues : List Due) → length (asks_from task names n dues) ≡ length dues
  long_asks n [] = refl
  long_asks n (d ∷ ds) = ap suc (long_asks (n + 1) ds)

pub instances_step : (dues : List Due) (k : ℕ) (d : Due) → slice_get dues k ≡ Some d
    → due_instances (take (k + 1) dues) ≡ due_instances (take k dues) ++ d.instance ∷ []
instances_step [] k d at = absurd (cc)
instances_step (u ∷ us) zero d at = let same : u ≡ d = cc in λ i. (same i).instance ∷ []
instances_step (u ∷ us) (suc k) d at =
    ap (λ m. due_instances (take m (u ∷ us))) (let e : suc k + 1 ≡ suc (k + 1) = omega arith in e)
    ∙ ap (λ is. u.instance ∷ is) (instances_step us k d at)

-- ---- children

take_streams : (dues : List Due) (k : ℕ) → asked_streams (take k dues) ≡ take k (asked_streams dues)
take_streams dues zero = refl
take_streams [] (suc k) = refl
take_streams (d ∷ ds) (suc k) = ap (λ ss. d.instance.stream ∷ ss) (take_streams ds k)

-- the pool of a due, and its child there
record Served (pools : List Workers) (dues : List Due) (k : ℕ) (d : Due) : Type 0 where
  pool : Workers
  place : ℕ
  at : slice_get pools place ≡ Some pool
  serving : has_stream pool d.instance.stream ≡ true
  child : child_for pools (asked_streams (take k dues)) d.instance.stream ≡ pool.first + count_by (has_stream pool) (take k (asked_streams dues))
  inside : count_by (has_stream pool) (take k (asked_streams dues)) + 1 ≤ pool.workers

served_at : (task : Task) (pools : List Workers) (dues : List Due) → AreFitPools task pools
    → fits (shares_of pools) (due_instances dues) ≡ true
    → (k : ℕ) (d : Due) → slice_get dues k ≡ Some d → d.instance.stream < length task.streams → Served pools dues k d
served_at task pools dues fit few k d at below =
    let found = fit.served d.instance.stream below in
    let is = server_is pools d.instance.stream found.0 found.1 in
    let stream_at : slice_get (asked_streams dues) k ≡ Some d.instance.stream =
    slice_get-map (λ (u : Due). u.instance.stream) dues k ∙ ap (option_map (λ (u : Due). u.instance.stream)) at in
    let enough = count_whole (has_stream found.0) (asked_streams dues) k d.instance.stream stream_at is.2 in
    record {
      pool = found.0;
      place = is.0;
      at = is.1;
      serving = is.2;
      child =
          child_is found.0 found.1
          ∙ ap (λ xs. found.0.first + count_by (has_stream found.0) xs) (take_streams dues k);
      inside = omega (arith, enough, workers_fit pools dues few is.0 found.0 is.1);
    }
  where
    child_is : (p : Workers) → server pools d.instance.stream ≡ Some p
        → child_for pools (asked_streams (take k dues)) d.instance.stream ≡ p.first + count_by (has_stream p) (asked_streams (take k dues))
    child_is p e = rw e refl

-- ---- the state with the round

module _ (task : Task) (s : State) (dues : List Due) (works : s.failed ≡ false)
    (may : MayBeginRound task s dues) (h : IsSession task s) where
  all_learnt : take s.learnt s.entries ≡ s.entries
  all_learnt = ap (λ n. take n s.entries) may.ready.all ∙ take-length s.entries

  known_is : s.known ≡ known_of task s.entries
  known_is = h.known works ∙ ap (known_of task) all_learnt

  notes_is : s.notes ≡ notes_of task s.entries
  notes_is = h.notes works ∙ ap (notes_of task) all_learnt

  due_at : (k : ℕ) (d : Due) → slice_get dues k ≡ Some d → IsDue task s.known s.notes d.instance
  due_at k d at =
      may.askable.due d.instance (member_at (due_instances dues) k d.instance
      (slice_get-map (λ (u : Due). u.instance) dues k ∙ ap (option_map (λ (u : Due). u.instance)) at))

  known_coherent : IsCoherent s.known
  known_coherent = subst IsCoherent (sym known_is) (coherent s.version task s.entries h.fit h.legal)

  named_one : (d : Due) → IsDue task s.known s.notes d.instance
      → IsNamed task s.known.names d.instance
  named_one d due =
      record {
        stream = slice_get_within task.streams d.instance.stream due.stream due.named;
        inputs = λ k o lt. below_names s.known.names
            (get_or d.instance.inputs k o) (due_in task s.known s.notes known_coherent d.instance due k o lt);
      }

  pub named_all : (k : ℕ) (d : Due) → k < length dues
      → IsNamed task s.known.names (get_or dues k d).instance
  named_all k d lt =
      named_one (get_or dues k d) (due_at k (get_or dues k d) (slice_get-get_or dues k d lt))

  served : (k : ℕ) (d : Due) → slice_get dues k ≡ Some d → Served s.pools dues k d
  served k d at =
      let due = due_at k d at in
      served_at task s.pools dues h.pools may.fit k d at (slice_get_within task.streams d.instance.stream due.stream due.named)

  pub children_fit : (k : ℕ) (d : Due) → slice_get dues k ≡ Some d
      → IsChild (child_for s.pools (asked_streams (take k dues)) d.instance.stream)
  children_fit k d at =
      let p = served k d at in omega (arith, p.child, p.inside, h.pools.few p.place p.pool p.at)

  -- each slot's child is one of a pool
  pub child_served : (names : List (List ℕ)) (version n k c : ℕ)
      → slice_get (children_of (slots_from task names version s.pools n [] dues)) k ≡ Some c
      → (j : ℕ) × (p : Workers) × (slice_get s.pools j ≡ Some p) × HasChild p c
  child_served names version n k c at_k =
      let x = child_at task names version s.pools n [] dues k c at_k in
      let p = served k x.0 x.1 in
      let is : c ≡ p.pool.first + count_by (has_stream p.pool) (take k (asked_streams dues)) = x.2 ∙ p.child in
      (p.place, p.pool, p.at, record { from = omega (arith, is); to = omega (arith, is, p.inside) })

  children_apart : (names : List (List ℕ)) (version n j k c : ℕ) → j < k
      → slice_get (children_of (slots_from task names version s.pools n [] dues)) j ≡ Some c
      → slice_get (children_of (slots_from task names version s.pools n [] dues)) k ≡ Some c → ⊥
  children_apart names version n j k c below at_j at_k =
      let x = child_at task names version s.pools n [] dues j c at_j in
      let y = child_at task names version s.pools n [] dues k c at_k in
      let p = served j x.0 x.1 in
      let q = served k y.0 y.1 in
      let c_p : c ≡ p.pool.first + count_by (has_stream p.pool) (take j (asked_streams dues)) = x.2 ∙ p.child in
      let c_q : c ≡ q.pool.first + count_by (has_stream q.pool) (take k (asked_streams dues)) = y.2 ∙ q.child in
      let in_p : HasChild p.pool c = record { from = omega (arith, c_p); to = omega (arith, c_p, p.inside) } in
      let in_q : HasChild q.pool c = record { from = omega (arith, c_q); to = omega (arith, c_q, q.inside) } in
      let place : p.place ≡ q.place = h.pools.apart p.place q.place c p.pool q.pool p.at q.at in_p in_q in
      let same : p.pool ≡ q.pool = same_pool (slice_get s.pools q.place) p.pool q.pool (ap (slice_get s.pools) (sym place) ∙ p.at) q.at in
      let stream_at : slice_get (asked_streams dues) j ≡ Some x.0.instance.stream =
      slice_get-map (λ (u : Due). u.instance.stream) dues j ∙ ap (option_map (λ (u : Due). u.instance.stream)) x.1 in
      let rises = count_passes (has_stream p.pool) (asked_streams dues) j k x.0.instance.stream below stream_at p.serving in
      let moved : q.pool.first + count_by (has_stream q.pool) (take k (asked_streams dues)) ≡ p.pool.first + count_by
      (has_stream p.pool) (take k (asked_streams dues)) =
      ap (λ (w : Workers). w.first + count_by (has_stream w) (take k (asked_streams dues))) (sym same) in
      absurd (omega (arith, c_p, c_q, moved, rises))
    where
      same_pool : (o : Option Workers) (a b : Workers) → o ≡ Some a → o ≡ Some b → a ≡ b
      same_pool o a b u v = let e : Some a ≡ Some b = sym u ∙ v in cc

  pub children_distinct : (names : List (List ℕ)) (version n : ℕ)
      → AreDistinct (children_of (slots_from task names version s.pools n [] dues))
  children_distinct names version n j k c at_j at_k =
      elim (cases_lt j k) [
        | inl below ↦ absurd (children_apart names version n j k c below at_j at_k)
        | inr over ↦
            elim (cases_lt k j)
            [ inl below ↦ absurd (children_apart names version n k j c below at_k at_j) | inr under ↦ omega (arith, over, under) ]
      ]

  pub begun_sound : (entries_room asked_room : ℕ)
      → length s.entries + 2 * length dues ≤ entries_room
      → length s.asked + length dues ≤ asked_room → s.calls ≤ 100000 → IsSound (round_begun task s dues) entries_room asked_room
  begun_sound entries_room asked_room room more calls =
      let names = s.known.names in
      let first = length s.asked + 1 in
      let asks = long_asks task names first dues in
      let slots = long_slots task names s.version s.pools first [] dues in
      let instances : length (due_instances dues) ≡ length dues = length-map dues (λ (d : Due). d.instance) in
      record {
        entries_fit = omega (arith, asks, slots, room);
        asked_fit = omega (arith, instances, more);
        few = omega (arith, instances, may.left);
        calls = calls;
        same_asks = asks ∙ sym slots;
        same_instances = instances ∙ sym slots;
        apart = children_distinct names s.version first;
        closed = λ e. absurd (cc);
      }

  -- nothing is sent, and each request has a child of its own
  unsent : (names : List (List ℕ)) (n : ℕ) (before : List ℕ) (us : List Due)
      → All (λ (t : Slot). (t.sent ≡ false) × (t.answer ≡ None)) (slots_from task names s.version s.pools n before us)
  unsent names n before [] = All-nil (λ (t : Slot). (t.sent ≡ false) × (t.answer ≡ None))
  unsent names n before (u ∷ us) =
      All-cons (λ (t : Slot). (t.sent ≡ false) × (t.answer ≡ None)) (slot_for task names s.version s.pools n before u)
      (slots_from task names s.version s.pools (n + 1) (before ++ u.instance.stream ∷ []) us) (refl, refl)
      (unsent names (n + 1) (before ++ u.instance.stream ∷ []) us)

  pub begun_fresh : IsFresh (round_begun task s dues).slots
  begun_fresh = record
      { unsent = unsent s.known.names (length s.asked + 1) [] dues; apart = children_distinct s.known.names s.version (length s.asked + 1) }

  pub begin_kept : IsSession task (round_begun task s dues)
  begin_kept =
      record {
        fit = h.fit;
        version = h.version;
        some_version = h.some_version;
        calls = h.calls;
        pools = h.pools;
        legal = h.legal;
        none_open = h.none_open;
        counted = h.counted;
        asked = h.asked;
        answered = h.answered;
        learnt = h.learnt;
        known = h.known;
        notes = h.notes;
        round = λ _. record {
          dues = dues;
          ready = subst (λ ns. AreAskable task (known_of task s.entries) ns dues) notes_is
              (subst (λ k. AreAskable task k s.notes dues) known_is may.askable);
          instances = refl;
          asks = ap (λ (k : Known). asks_from task k.names (length s.asked + 1) dues) known_is;
          slots = fresh_slots task s.known.names s.version s.pools (length s.asked + 1) [] dues;
        };
      }

-- the state whose round has these lists
pub the_state : (s : State) (entries : List Entry) (asked : List Instance) (asks : List Entry)
    (instances : List Instance) (slots : List Slot) (task : Task) (dues : List Due)
    → entries ≡ s.entries → asked ≡ s.asked → asks ≡ asks_from task s.known.names (length s.asked + 1) dues → instances ≡ due_instances dues
    → slots ≡ slots_from task s.known.names s.version s.pools (length s.asked + 1) [] dues
    → record {
      version = s.version;
      calls = s.calls;
      pools = s.pools;
      entries = entries;
      asked = asked;
      known = s.known;
      notes = s.notes;
      learnt = s.learnt;
      is_open = true;
      asks = asks;
      instances = instances;
      slots = slots;
      failed = s.failed;
    } ≡ round_begun task s dues
the_state s entries asked asks instances slots task dues e1 e2 e3 e4 e5 =
    λ k. record {
      version = s.version;
      calls = s.calls;
      pools = s.pools;
      entries = e1 k;
      asked = e2 k;
      known = s.known;
      notes = s.notes;
      learnt = s.learnt;
      is_open = true;
      asks = e3 k;
      instances = e4 k;
      slots = e5 k;
      failed = s.failed;
    }
