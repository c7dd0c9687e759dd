-- A pick with its batches, and what would go on as one.
use Rattle.std.proofs.Common.{◌≡◌, ◌⊎◌, inl, inr, ℕ, ◌+◌, ◌<◌, ◌≤◌, arith, Bool, true, false, All, map, count_by, slice_set, List, [], ◌∷◌, ◌++◌, length, refl, sym, subst, ap, ◌∙◌, append_assoc}
use Rattle.std.proofs.lemmas.List.{append-nil, nil_from_length}
use Rattle.solve_run.proofs.CountLemmas.{batches_count, batches_levels, batches_none}
use Rattle.solve_run.specs.Batching.{AreBatchesBehind, IsFrontBehindLine, RanBehindLine}
use Rattle.solve_run.specs.Skeletons.{EndsPick, IsBehindPick, IsFrontBehindPick, IsFrontOfPick, RanPick}
use Rattle.turn_run.specs.Turns.{cut_by}
use Rattle.turn_run.specs.declared.turns.Turned.{Turned}
use Rattle.turn_run.specs.declared.turns.Turned.TheVariants as turned
use Rattle.turn_laws.proofs.ModeBatchesLemmas.{Ending, batches_end}
use Rattle.turn_laws.proofs.ModeCountsLemmas.{retiring_none}
use Rattle.round_run.proofs.RollingFrontLemmas.{front_first}
use Rattle.round_run.specs.declared.ending.Batch.{Batch}
use Rattle.round_run.specs.declared.ending.Batch.TheVariants.{CallsSpent, Done}
use Rattle.lemmas.proofs.Counts.{count_joined}
use Rattle.session_core.specs.State.{State}
use Rattle.task_model.specs.declared.stream.Instance.{Instance}
use Rattle.task_model.specs.declared.task.Task.{Task}
use Rattle.transcript_model.proofs.LegalNumberLemmas.{asks_marked, asks_more}
use Rattle.transcript_model.specs.Dreaming.{Sent, sent_instances}
use Rattle.transcript_model.specs.Legal.{asks_of, is_level}
use Rattle.transcript_model.specs.Rounds.{Limits, Share, limits_of, share_of}
use Rattle.transcript_model.specs.Turns.{IsPickTurn, IsPicked, Kept, Skeleton, retiring, with_pick}
use Rattle.transcript_model.specs.declared.entry.Entry.{Entry}
use Rattle.transcript_model.specs.declared.entry.Entry.TheVariants as entry
use Rattle.transcript_model.specs.declared.head.Head.{Head}

-- ---- counts

retiring_levels : (number : ℕ) (sent : List Sent) → count_by is_level (retiring number sent) ≡ 0
retiring_levels number [] = refl
retiring_levels number (s ∷ sent) = refl

-- a batch for which no calls were wanting
done_by : (b : Batch) → cut_by b ≡ false → b ≡ Done
done_by Done e = refl
done_by CallsSpent e = absurd (let bad : true ≡ false = e in cc)

module _ (limits : Limits) (task : Task) (kept : Kept) (before now : List Entry) (next : Kept) (cut : Bool)
    (turn : IsPickTurn limits task kept before now next cut) where
  -- each request of it is one of an entry
  pub pick_count : asks_of (before ++ now) ≡ asks_of before + length turn.sent
  pick_count =
      let line = entry.Pick (turn.place + 1) in
      let marked = before ++ line ∷ [] in
      let end = retiring (turn.place + 1) turn.sent in
      let count = batches_count limits task turn.skeleton.real turn.skeleton.entries [] marked turn.batches turn.sent cut turn.run in
      omega (
        arith,
        count,
        asks_more before now,
        ap asks_of turn.is,
        asks_more (line ∷ turn.batches) end,
        asks_more (line ∷ []) turn.batches,
        asks_more marked turn.batches,
        asks_marked before line refl,
        asks_more before (line ∷ []),
        retiring_none (turn.place + 1) turn.sent,
      )

  -- and no level stands in it
  pub pick_levels : count_by is_level now ≡ 0
  pick_levels =
      let line = entry.Pick (turn.place + 1) in
      let end = retiring (turn.place + 1) turn.sent in
      let one : count_by is_level (line ∷ []) ≡ 0 = refl in
      omega (
        arith,
        ap (count_by is_level) turn.is,
        count_joined is_level (line ∷ turn.batches) end,
        count_joined is_level (line ∷ []) turn.batches,
        one,
        retiring_levels (turn.place + 1) turn.sent,
        batches_levels limits task turn.skeleton.real turn.skeleton.entries [] (before ++ line ∷ []) turn.batches turn.sent cut turn.run,
      )

-- ---- the pick

module _ (head : Head) (task : Task) (kept : Kept) (before : List Entry) (place : ℕ) (skeleton : Skeleton)
    (picked : IsPicked kept.skeletons place skeleton) where
  abbrev line : Entry
  line = entry.Pick (place + 1)

  -- what is carried behind it
  abbrev pub kept_after : List Sent → Kept
  kept_after sent = record {
    tried = kept.tried ++ sent_instances sent;
    skeletons = with_pick kept.skeletons place skeleton sent;
  }

  pub pick_turn : (now : List Entry) (after : List Sent) (cut : Bool)
      → AreBatchesBehind head task skeleton.real skeleton.entries before (entry.Pick (place + 1)) now after cut
      → IsPickTurn (limits_of head) task kept before (now ++ retiring (place + 1) after)
      (record { tried = kept.tried ++ sent_instances after; skeletons = with_pick kept.skeletons place skeleton after }) cut
  pick_turn now after cut run = record {
    place = place;
    skeleton = skeleton;
    picked = picked;
    batches = run.rest;
    sent = after;
    run = run.batches;
    is = ap (λ es. es ++ retiring (place + 1) after) run.is;
    next_is = refl;
  }

  -- some entries of its batches came
  pub pick_front : (es : List Entry)
      → IsFrontBehindLine head task skeleton.real skeleton.entries before (entry.Pick (place + 1)) es
      → IsFrontOfPick head task kept before es
  pick_front es f = record {
    part = f.part;
    rest = f.rest ++ retiring (place + 1) f.whole.0;
    is = f.is;
    whole = (
      kept_after f.whole.0,
      f.whole.1,
      subst (λ now. IsPickTurn (limits_of head) task kept before now (kept_after f.whole.0) f.whole.1)
          (append_assoc f.part f.rest (retiring (place + 1) f.whole.0)) (pick_turn (f.part ++ f.rest) f.whole.0 f.whole.1 f.whole.2),
    );
  }

  -- its batches came, of which there are none, and the line that gives it up, or not yet
  pub pick_given_up : (now mid es : List Entry) (cut : Bool) → mid ≡ before ++ now
      → AreBatchesBehind head task skeleton.real skeleton.entries before (entry.Pick (place + 1)) now [] cut
      → (es ≡ mid) ⊎ (es ≡ mid ++ entry.Retire (place + 1) ∷ []) → IsFrontOfPick head task kept before es
  pick_given_up now mid es cut at run (inl here) = record {
    part = now;
    rest = entry.Retire (place + 1) ∷ [];
    is = here ∙ at;
    whole = (kept_after [], cut, pick_turn now [] cut run);
  }
  pick_given_up now mid es cut at run (inr there) = record {
    part = now ++ entry.Retire (place + 1) ∷ [];
    rest = [];
    is = there ∙ ap (λ xs. xs ++ entry.Retire (place + 1) ∷ []) at ∙ append_assoc before now (entry.Retire (place + 1) ∷ []);
    whole = (
      kept_after [],
      cut,
      subst (λ xs. IsPickTurn (limits_of head) task kept before xs (kept_after []) cut)
          (sym (append-nil (now ++ entry.Retire (place + 1) ∷ []))) (pick_turn now [] cut run),
    );
  }

  -- ---- what a pick has done

  module _ (old new : State) (at : old.entries ≡ before) (left : length old.asked < head.calls)
      (counted : length old.asked ≡ asks_of old.entries) (counted_now : length new.asked ≡ asks_of new.entries)
      (joined : List Instance) (b : Batch)
      (ran : RanBehindLine head task skeleton.real skeleton.entries (entry.Pick (place + 1)) old new kept.tried joined b) where
    asks_are : length new.asked ≡ length old.asked + length ran.after
    unfolding pick_turn
    asks_are =
        let turn = pick_turn ran.now ran.after (cut_by b) (subst (λ es. AreBatchesBehind head task skeleton.real skeleton.entries es
        (entry.Pick (place + 1)) ran.now ran.after (cut_by b)) at ran.batches) in
        let count : asks_of (before ++ (ran.now ++ retiring (place + 1) ran.after)) ≡ asks_of before + length ran.after =
        pick_count (limits_of head) task kept before (ran.now ++ retiring (place + 1) ran.after) (kept_after ran.after)
        (cut_by b) turn in
        omega (
          arith,
          counted,
          counted_now,
          ap asks_of ran.pushed,
          ap asks_of at,
          asks_more old.entries ran.now,
          asks_more before (ran.now ++ retiring (place + 1) ran.after),
          asks_more ran.now (retiring (place + 1) ran.after),
          retiring_none (place + 1) ran.after,
          count,
        )

    -- where nothing was asked, and a call was left, none was wanting
    whole : ran.after ≡ [] → cut_by b ≡ false
    whole none =
        let marked = old.entries ++ entry.Pick (place + 1) ∷ [] in
        batches_none (limits_of head) task skeleton.real skeleton.entries [] marked ran.batches.rest ran.after (cut_by b)
        ran.batches.batches none (omega (arith, asks_marked old.entries (entry.Pick (place + 1)) refl, counted, left))

    turn_here : IsPickTurn (limits_of head) task kept old.entries (ran.now ++ retiring (place + 1) ran.after)
        (kept_after ran.after) (cut_by b)
    turn_here =
        subst (λ es. IsPickTurn (limits_of head) task kept es (ran.now ++ retiring (place + 1) ran.after) (kept_after ran.after) (cut_by b))
        (sym at)
        (pick_turn ran.now ran.after (cut_by b) (subst (λ es. AreBatchesBehind head task skeleton.real skeleton.entries es
        (entry.Pick (place + 1)) ran.now ran.after (cut_by b)) at ran.batches))

    -- something was asked
    pub ran_asked : ¬ (length new.asked ≡ length old.asked) → (skeletons : List Skeleton)
        → skeletons ≡ slice_set kept.skeletons place (record {
          entries = skeleton.entries;
          real = skeleton.real;
          picks = skeleton.picks + 1;
          retired = false;
        })
        → (t : Turned) → (b ≡ Done → t ≡ turned.Done) → (b ≡ CallsSpent → t ≡ turned.Spent)
        → RanPick head task kept (record { tried = joined; skeletons = skeletons }) old new t
    ran_asked more skeletons are t done spent = by ran.after refl
      where
        of : (a : Sent) (after : List Sent) → ran.after ≡ a ∷ after → (c : Batch) → b ≡ c → (u : Turned)
            → (c ≡ Done → u ≡ turned.Done) → (c ≡ CallsSpent → u ≡ turned.Spent)
            → RanPick head task kept (record { tried = joined; skeletons = skeletons }) old new u
        of a after is c same u done_u spent_u = record {
          now = ran.now;
          pushed = ran.pushed;
          last = kept_after ran.after;
          cut = cut_by c;
          turn = subst (λ d. IsPickTurn (limits_of head) task kept old.entries ran.now (kept_after ran.after) d) (ap cut_by same)
              (subst (λ es. IsPickTurn (limits_of head) task kept old.entries es (kept_after ran.after) (cut_by b))
              (ap (λ sent. ran.now ++ retiring (place + 1) sent) is ∙ append-nil ran.now) turn_here);
          ended = ends c same u done_u spent_u;
        }
          where
            same_skeletons : (kept_after ran.after).skeletons ≡ skeletons
            same_skeletons = ap (with_pick kept.skeletons place skeleton) is ∙ sym are

            ends : (d : Batch) → b ≡ d → (v : Turned) → (d ≡ Done → v ≡ turned.Done) → (d ≡ CallsSpent → v ≡ turned.Spent)
                → EndsPick head task (kept_after ran.after) (record { tried = joined; skeletons = skeletons }) new (cut_by d) v
            ends Done is_done v done_v spent_v =
                subst (EndsPick head task (kept_after ran.after) (record { tried = joined; skeletons = skeletons }) new false)
                (sym (done_v refl))
                (refl, (λ i. record { tried = sym (ran.joins is_done) i; skeletons = same_skeletons i }))
            ends CallsSpent is_spent v done_v spent_v =
                subst (EndsPick head task (kept_after ran.after) (record { tried = joined; skeletons = skeletons }) new true)
                (sym (spent_v refl)) (refl, same_skeletons, ran.sure is_spent)

        by : (after : List Sent) → ran.after ≡ after
            → RanPick head task kept (record { tried = joined; skeletons = skeletons }) old new t
        by [] is = absurd (more (omega (arith, asks_are, ap length is)))
        by (a ∷ after) is = of a after is b refl t done spent

    -- nothing was asked
    none_asked : length new.asked ≡ length old.asked → ran.after ≡ []
    none_asked same = nil_from_length ran.after (omega (arith, asks_are, same))

    -- the line that gives it up is there, or not yet
    pub front_given_up : length new.asked ≡ length old.asked → (es : List Entry)
        → (es ≡ new.entries) ⊎ (es ≡ new.entries ++ entry.Retire (place + 1) ∷ []) → IsFrontOfPick head task kept before es
    front_given_up same es there =
        pick_given_up ran.now new.entries es (cut_by b) (ran.pushed ∙ ap (λ xs. xs ++ ran.now) at)
        (subst (λ after. AreBatchesBehind head task skeleton.real skeleton.entries before (entry.Pick (place + 1)) ran.now after (cut_by b))
        (none_asked same) (subst (λ xs. AreBatchesBehind head task skeleton.real skeleton.entries xs (entry.Pick (place + 1)) ran.now
        ran.after (cut_by b)) at ran.batches)) there

    pub ran_given_up : length new.asked ≡ length old.asked → (end : State)
        → end.entries ≡ new.entries ++ entry.Retire (place + 1) ∷ [] → (skeletons : List Skeleton)
        → skeletons ≡ slice_set kept.skeletons place (record {
          entries = skeleton.entries;
          real = skeleton.real;
          picks = skeleton.picks + 1;
          retired = true;
        })
        → RanPick head task kept (record { tried = joined; skeletons = skeletons }) old end turned.Done
    ran_given_up same end marked skeletons are =
        let none = none_asked same in
        record {
          now = ran.now ++ entry.Retire (place + 1) ∷ [];
          pushed = marked ∙ ap (λ xs. xs ++ entry.Retire (place + 1) ∷ []) ran.pushed
              ∙ append_assoc old.entries ran.now (entry.Retire (place + 1) ∷ []);
          last = kept_after [];
          cut = false;
          turn = subst (λ d. IsPickTurn (limits_of head) task kept old.entries (ran.now ++ entry.Retire (place + 1) ∷ []) (kept_after []) d)
              (whole none)
              (subst (λ after. IsPickTurn (limits_of head) task kept old.entries (ran.now ++ retiring (place + 1) after) (kept_after after)
              (cut_by b)) none turn_here);
          ended = (
            refl,
            (λ i. record {
              tried = (append-nil kept.tried
                  ∙ sym (ran.joins (done_by b (whole none)) ∙ ap (λ after. kept.tried ++ sent_instances after) none
                  ∙ append-nil kept.tried)) i;
              skeletons = sym are i;
            }),
          );
        }

-- ---- behind a line

module _ (head : Head) (task : Task) (kept : Kept) (before : List Entry) (line : Entry) where
  abbrev Whole : List Entry → Type 0
  Whole now = (next : Kept) × (cut : Bool) × IsBehindPick head task kept before line now next cut

  pub behind_pick_front : (marked es : List Entry) → marked ≡ before ++ line ∷ [] → IsFrontOfPick head task kept marked es
      → IsFrontBehindPick head task kept before line es
  behind_pick_front marked es is f = record {
    part = line ∷ f.part;
    rest = f.rest;
    is = f.is ∙ ap (λ t. t ++ f.part) is ∙ append_assoc before (line ∷ []) f.part;
    whole = (
      f.whole.0,
      f.whole.1,
      record {
        rest = f.part ++ f.rest;
        is = refl;
        pick = subst (λ m. IsPickTurn (limits_of head) task kept m (f.part ++ f.rest) f.whole.0 f.whole.1) is f.whole.2;
      },
    );
  }

  -- the line is there, or not yet
  pub behind_pick_marked : (es : List Entry) (place : ℕ) (skeleton : Skeleton) → IsPicked kept.skeletons place skeleton
      → All (λ (p : Share). 1 ≤ p.workers) (map share_of head.pools)
      → (es ≡ before) ⊎ (es ≡ before ++ line ∷ []) → IsFrontBehindPick head task kept before line es
  behind_pick_marked es place skeleton picked work at = by at
    where
      marked : List Entry
      marked = before ++ line ∷ []

      tail : Ending (limits_of head) task skeleton.real skeleton.entries work [] (marked ++ entry.Pick (place + 1) ∷ [])
      tail = batches_end (limits_of head) task skeleton.real skeleton.entries work [] (marked ++ entry.Pick (place + 1) ∷ [])

      rest : List Entry
      rest = (entry.Pick (place + 1) ∷ tail.now) ++ retiring (place + 1) tail.after

      whole : Whole (line ∷ rest)
      whole = (
        _,
        tail.cut,
        record {
          rest = rest;
          is = refl;
          pick = pick_turn head task kept marked place skeleton picked (entry.Pick (place + 1) ∷ tail.now) tail.after tail.cut
              (record { rest = tail.now; is = refl; batches = tail.batches });
        },
      )

      by : (es ≡ before) ⊎ (es ≡ before ++ line ∷ []) → IsFrontBehindPick head task kept before line es
      by (inl e) = subst (IsFrontBehindPick head task kept before line) (sym e) (front_first before (line ∷ rest) Whole whole)
      by (inr e) = record { part = line ∷ []; rest = rest; is = e; whole = whole }
