-- The skeletons of adaptive mode are no more than its requests: a new one is picked at once, and then it asks.
use Rattle.std.proofs.Common.{◌≡◌, ℕ, zero, suc, ◌+◌, ◌<◌, ◌≤◌, ◌⊎◌, ◌&&◌, inl, inr, Bool, true, false, not, List, [], ◌∷◌, ◌++◌, length, take, refl, sym, ap, subst, ◌∙◌, Some, None, slice_get, slice_set, arith, append_assoc}
use Rattle.std.proofs.lemmas.Bool.{cases_lt, lt-ltb}
use Rattle.std.proofs.lemmas.List.{length-append, length-map, length-set, length-take}
use Rattle.std.proofs.lemmas.Option.{same_Some}
use Rattle.std.specs.List.{list_any}
use Rattle.std.specs.Option.{option_and_then, option_map, option_map_or}
use Rattle.std.specs.Prelude.{if◌then◌else◌}
use Rattle.turn_laws.proofs.DreamLemmas.{dream_asks}
use Rattle.lemmas.proofs.Members.{get_pushed, push_cases}
use Rattle.turn_laws.proofs.ModeCountsLemmas.{rounds_count}
use Rattle.turn_laws.specs.Modes.{TurnOf}
use Rattle.task_model.specs.Dreams as dreams
use Rattle.task_model.specs.Fit.{IsFit}
use Rattle.task_model.specs.Streams.{is_due, same_instance}
use Rattle.task_model.specs.declared.stream.Instance.{Instance}
use Rattle.task_model.specs.declared.task.Task.{Task}
use Rattle.transcript_model.proofs.LegalNumberLemmas.{asks_more}
use Rattle.transcript_model.proofs.LegalPrefixLemmas.{legal_front}
use Rattle.transcript_model.proofs.LegalStepLemmas.{mark_adds}
use Rattle.transcript_model.specs.Dreaming.{Sent, all_replaced, become, next_sent, ready_instance, replaced, sent_instances}
use Rattle.transcript_model.specs.Laws.{AddsMark}
use Rattle.transcript_model.specs.Legal.{IsLegal, asks_of}
use Rattle.transcript_model.specs.Rounds.{IsBatch, Limits, calls_left}
use Rattle.transcript_model.specs.Transcript.{known_of, names_of, notes_of}
use Rattle.transcript_model.specs.Turns.{AreBatches, IsNewSkeleton, IsOldSkeleton, IsPickTurn, IsPicked, Kept, Skeleton, finished, further, is_cut, last, retiring}
use Rattle.transcript_model.specs.declared.entry.Entry.{Entry}
use Rattle.transcript_model.specs.declared.entry.Entry.TheVariants as entry
use Rattle.transcript_model.specs.declared.head.Mode.{Mode}
use Rattle.transcript_model.specs.declared.head.Mode.TheVariants.{Incremental, Focused, Binding, Adaptive}

-- There are no more skeletons than requests, and each that isn't given up was picked.
pub record IsCarried (kept : Kept) (before : List Entry) : Type 0 where
  pub few : length kept.skeletons ≤ asks_of before
  pub picked : (k : ℕ) (s : Skeleton) → slice_get kept.skeletons k ≡ Some s → s.retired ≡ false → 1 ≤ s.picks

-- a dream that is kept now
abbrev pub skeleton_of : Task → List Entry → List dreams.SupposedEntry → Skeleton
skeleton_of task before entries =
    record { entries = entries; real = length (names_of task before); picks = 0; retired = false }

-- ---- lists

set_cases : {A : Type 0} (xs : List A) (i : ℕ) (v : A) (k : ℕ) (x : A) → slice_get (slice_set xs i v) k ≡ Some x
    → (v ≡ x) ⊎ (¬ (k ≡ i) × (slice_get xs k ≡ Some x))
set_cases [] i v k x at = absurd (cc)
set_cases (y ∷ ys) zero v zero x at = inl (same_Some v x at)
set_cases (y ∷ ys) zero v (suc k) x at = inr (λ same. absurd (omega (arith, same)), at)
set_cases (y ∷ ys) (suc i) v zero x at = inr (λ same. absurd (omega (arith, same)), at)
set_cases (y ∷ ys) (suc i) v (suc k) x at =
    elim (set_cases ys i v k x at) [ inl h ↦ inl h | inr h ↦ inr (λ same. h.0 (omega (arith, same)), h.1) ]

-- ---- what is asked next rests on what is known

module _ (task : Task) (a b : List Entry) (real : ℕ) (known : known_of task a ≡ known_of task b)
    (notes : notes_of task a ≡ notes_of task b) where
  all_same : (objects : List ℕ) → all_replaced task a real [] objects ≡ all_replaced task b real [] objects
  all_same [] = refl
  all_same (o ∷ os) =
      ap (λ rest. option_and_then (λ object. option_map (λ objects. object ∷ objects) rest)
      (replaced task a real [] o)) (all_same os)

  become_same : (e : dreams.SupposedEntry) → become task a real [] e ≡ become task b real [] e
  become_same e =
      ap (option_map (λ inputs. record { stream = e.instance.stream; inputs = inputs })) (all_same e.instance.inputs)

  ready_same : (taken : List Instance) (e : dreams.SupposedEntry) → ready_instance task a real [] taken e
      ≡ ready_instance task b real [] taken e
  ready_same taken e =
      λ j. option_and_then (λ i.
      if is_due task (known j) (notes j) i && not (list_any (same_instance i) taken) then Some i else None)
      (become_same e j)

  next_same : (number : ℕ) (taken : List Instance) (entries : List dreams.SupposedEntry)
      → next_sent task a real [] number taken entries ≡ next_sent task b real [] number taken entries
  next_same number taken [] = refl
  next_same number taken (e ∷ es) =
      λ j. option_map_or (λ i. record { number = number; instance = i; outputs = e.outputs }
      ∷ next_same (number + 1) (i ∷ taken) es j) (ready_same taken e j) (next_same number taken es j)

-- ---- batches that aren't cut

module _ (limits : Limits) (task : Task) where
  some_asked : (before now : List Entry) (list : List Sent) → IsBatch limits task before (sent_instances list) now
      → 0 < length list
      → is_cut limits before list ≡ false → 1 ≤ asks_of now
  some_asked before now list batch some whole =
      let count =
      rounds_count limits task batch.rounds
      (take (calls_left limits before) (sent_instances list)) before now batch.cut batch.run in
      let taken = length-take (calls_left limits before) (sent_instances list) in
      let many = length-map list (λ (s : Sent). s.instance) in
      elim (cases_lt (calls_left limits before) (length list)) [
        | inl less ↦
            let no : true ≡ false = sym (lt-ltb (calls_left limits before) (length list) less) ∙ whole in
            absurd (cc)
        | inr fits ↦
            let least : length (sent_instances list) ≤ calls_left limits before = omega (arith, many, fits) in
            omega (arith, count, taken, many, some, least)
      ]

  batches_ask : (real : ℕ) (entries : List dreams.SupposedEntry) (before now : List Entry) (after : List Sent)
      (cut : Bool)
      → cut ≡ false → 0 < length (next_sent task before real [] (asks_of before + 1) [] entries)
      → AreBatches limits task real entries [] before now after cut → 1 ≤ asks_of now
  batches_ask real entries before now after cut whole some (finished none) =
      absurd (omega (arith, some, ap length none))
  batches_ask real entries before now after cut whole some (last next is more batch) = absurd (cc)
  batches_ask real entries before now after cut whole some
      (further {now = first} {rest = rest} next is many all batch more) =
      omega (arith, some_asked before first next batch many all, asks_more first rest)

  -- ---- picks

  -- a new skeleton is picked at once
  new_picked : (kept : Kept) (before : List Entry) (entries : List dreams.SupposedEntry) (place : ℕ) (s : Skeleton)
      → IsCarried kept before
      → IsPicked (kept.skeletons ++ skeleton_of task before entries ∷ []) place s
      → (place ≡ length kept.skeletons) × (s ≡ skeleton_of task before entries)
  new_picked kept before entries place s carried picked =
      let new = skeleton_of task before entries in
      elim (push_cases kept.skeletons new place s picked.there) [
        | inl early ↦
            let some = carried.picked place s early picked.kept in
            let least = picked.fewest (length kept.skeletons) new
            (get_pushed kept.skeletons new (length kept.skeletons) refl) refl in
            absurd (omega (arith, some, least))
        | inr here ↦ here
      ]

  pick_many : (kept : Kept) (before now : List Entry) (next : Kept) (cut : Bool)
      → IsPickTurn limits task kept before now next cut → length next.skeletons ≡ length kept.skeletons
  pick_many kept before now next cut this =
      ap (λ (k : Kept). length k.skeletons) this.next_is ∙ length-set kept.skeletons this.place _

  pick_cases : (kept : Kept) (before now : List Entry) (next : Kept) (cut : Bool)
      (this : IsPickTurn limits task kept before now next cut) (k : ℕ) (s : Skeleton) → slice_get next.skeletons k
      ≡ Some s
      → (1 ≤ s.picks) ⊎ (¬ (k ≡ this.place) × (slice_get kept.skeletons k ≡ Some s))
  pick_cases kept before now next cut this k s at =
      let now_is = ap (λ (x : Kept). slice_get x.skeletons k) (sym this.next_is) ∙ at in
      elim (set_cases kept.skeletons this.place _ k s now_is) [
        | inl same ↦ inl (omega (arith, ap (λ (x : Skeleton). x.picks) same))
        | inr other ↦ inr other
      ]

  -- ---- turns

  module _ (fit : IsFit task) where
    new_asks : (kept : Kept) (before now : List Entry) (next : Kept) → IsLegal limits.version task (before ++ now)
        → IsCarried kept before → IsNewSkeleton limits task kept before now next false → 1 ≤ asks_of now
    new_asks kept before now next legal carried this =
        let dream = entry.Dream this.uses this.steps in
        let dreamt = before ++ dream ∷ [] in
        let pick = entry.Pick (this.pick.place + 1) in
        let real = length (names_of task before) in
        let p = new_picked kept before this.entries this.pick.place this.pick.skeleton carried this.pick.picked in
        let run =
        subst (λ (s : Skeleton). AreBatches limits task s.real s.entries []
        (dreamt ++ pick ∷ []) this.pick.batches this.pick.sent false)
        p.1 this.pick.run in
        let all : before ++ now ≡ dreamt ++ this.rest =
        ap (λ es. before ++ es) this.is ∙ sym (append_assoc before (dream ∷ []) this.rest) in
        let so_far = legal_front limits.version task dreamt this.rest (subst (IsLegal limits.version task) all legal) in
        let marks : AddsMark task dreamt (dreamt ++ pick ∷ []) =
        mark_adds limits.version task dreamt fit.problem.objects.names.distinct so_far pick refl in
        let number = asks_of (dreamt ++ pick ∷ []) + 1 in
        let some =
        dream_asks limits task before kept.tried fit
        (legal_front limits.version task before now legal) this.uses this.steps this.entries
        number this.dream in
        let same = next_same task (dreamt ++ pick ∷ []) dreamt real marks.same.known marks.same.notes number []
        this.entries in
        let asked =
        batches_ask real this.entries (dreamt ++ pick ∷ []) this.pick.batches this.pick.sent false refl
        (omega (arith, some, ap length same)) run in
        omega (
          arith,
          asked,
          ap asks_of this.is,
          ap asks_of this.pick.is,
          asks_more (dream ∷ []) this.rest,
          asks_more (pick ∷ []) (this.pick.batches ++ retiring (this.pick.place + 1) this.pick.sent),
          asks_more this.pick.batches (retiring (this.pick.place + 1) this.pick.sent),
        )

    new_carried : (kept : Kept) (before now : List Entry) (next : Kept) → IsLegal limits.version task (before ++ now)
        → IsCarried kept before → IsNewSkeleton limits task kept before now next false → IsCarried next (before ++ now)
    new_carried kept before now next legal carried this = record {
      few = omega (
        arith,
        carried.few,
        new_asks kept before now next legal carried this,
        asks_more before now,
        pick_many _ _ this.rest next false this.pick,
        length-append kept.skeletons (skeleton_of task before this.entries ∷ []),
      );
      picked = each;
    }
      where
        each : (k : ℕ) (s : Skeleton) → slice_get next.skeletons k ≡ Some s → s.retired ≡ false → 1 ≤ s.picks
        each k s at rests =
            elim (pick_cases _ _ this.rest next false this.pick k s at) [
              | inl some ↦ some
              | inr other ↦ elim (push_cases kept.skeletons (skeleton_of task before this.entries) k s other.1) [
                | inl early ↦ carried.picked k s early rests
                | inr here ↦
                    let p = new_picked kept before this.entries this.pick.place this.pick.skeleton carried
                    this.pick.picked in
                    absurd (other.0 (here.0 ∙ sym p.0))
              ]
            ]

    old_carried : (kept : Kept) (before now : List Entry) (next : Kept) → IsCarried kept before
        → IsOldSkeleton limits task kept before now next false → IsCarried next (before ++ now)
    old_carried kept before now next carried this = record {
      few = omega (arith, carried.few, asks_more before now, pick_many kept _ this.rest next false this.pick);
      picked = λ k s at rests. elim (pick_cases kept _ this.rest next false this.pick k s at) [
        | inl some ↦ some
        | inr other ↦ carried.picked k s other.1 rests
      ];
    }

    same_carried : (kept : Kept) (before now : List Entry) (next : Kept) → IsCarried kept before
        → next.skeletons ≡ kept.skeletons → IsCarried next (before ++ now)
    same_carried kept before now next carried same = record {
      few = omega (arith, carried.few, asks_more before now, ap (λ (s : List Skeleton). length s) same);
      picked = λ k s at rests. carried.picked k s (ap (λ (x : List Skeleton). slice_get x k) (sym same) ∙ at) rests;
    }

    -- a whole turn of any mode
    pub turn_carries : (mode : Mode) (kept : Kept) (before now : List Entry) (next : Kept)
        → IsLegal limits.version task (before ++ now) → IsCarried kept before
        → TurnOf mode limits task kept before now next false → IsCarried next (before ++ now)
    turn_carries Incremental kept before now next legal carried this =
        same_carried kept before now next carried (ap (λ (k : Kept). k.skeletons) this.1)
    turn_carries Focused kept before now next legal carried this = same_carried kept before now next carried this.1
    turn_carries Binding kept before now next legal carried this = same_carried kept before now next carried this.1
    turn_carries Adaptive kept before now next legal carried (inl this) =
        new_carried kept before now next legal carried this
    turn_carries Adaptive kept before now next legal carried (inr (inl this)) =
        old_carried kept before now next carried this
    turn_carries Adaptive kept before now next legal carried (inr (inr this)) =
        same_carried kept before now next carried (ap (λ (k : Kept). k.skeletons) this.next_is)

-- before the first turn
pub none_carried : IsCarried (record { tried = []; skeletons = [] }) []
none_carried = record { few = omega arith; picked = λ k s at rests. absurd (cc) }
