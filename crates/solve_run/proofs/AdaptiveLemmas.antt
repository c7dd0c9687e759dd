-- Turns of adaptive mode.
use Rattle.std.proofs.Common.{◌≡◌, ◌⊎◌, inl, inr, ℕ, ◌+◌, ◌<◌, ◌≤◌, arith, Bool, true, false, cond, count_by, List, [], ◌∷◌, ◌++◌, length, refl, sym, subst, ap, ◌∙◌, Some, slice_get}
use Rattle.solve_run.proofs.PickLemmas.{pick_count, pick_levels}
use Rattle.solve_run.proofs.SkeletonLemmas.{at_all, idle_falls, idle_low, kept_new, kept_old, new_picked, none_kept}
use Rattle.solve_run.specs.Skeletons.{AreFewKept, EndsPick, IsBehindPick, IsFrontBehindPick, RanBehindPick, idle_with, is_kept}
use Rattle.dream_asks.proofs.FirstLemmas.{first_sent}
use Rattle.dream_asks.specs.First.{first_instances}
use Rattle.turn_laws.proofs.DreamLemmas.{dream_asks}
use Rattle.dream_asks.proofs.EntriesLemmas.{dream_distinct}
use Rattle.solve_run.proofs.FocusingLemmas.{Dreamt}
use Rattle.solve_run.specs.Focusing.{HasCallLeft, RanDreaming, carrying, idle_of}
use Rattle.turn_run.proofs.ShortDreamLemmas.{IsShortFirst, turn_short}
use Rattle.turn_run.specs.Advancing.{Falls, HasTurned, IsFrontOfTurn, RanTurn}
use Rattle.turn_run.specs.declared.turns.Turned.{Turned}
use Rattle.turn_run.specs.declared.turns.Turned.TheVariants as turned
use Rattle.turn_laws.proofs.ModeBatchesLemmas.{batches_ask}
use Rattle.turn_laws.specs.Modes.{TurnOf}
use Rattle.lemmas.proofs.Counts.{count_joined, count_one}
use Rattle.session_core.specs.State.{State}
use Rattle.std.proofs.lemmas.Bool.{cases_lt}
use Rattle.std.proofs.lemmas.List.{length-map}
use Rattle.std.specs.List.{list_all}
use Rattle.task_model.specs.Dreams as dreams
use Rattle.task_model.specs.Fit.{IsFit}
use Rattle.task_model.specs.declared.stream.Instance.{Instance}
use Rattle.task_model.specs.declared.task.Task.{Task}
use Rattle.transcript_model.proofs.LegalLemmas.{grows}
use Rattle.transcript_model.proofs.LegalNumberLemmas.{asks_marked, asks_more}
use Rattle.transcript_model.proofs.LegalStepLemmas.{mark_adds, mark_no_ask}
use Rattle.transcript_model.specs.Dreaming.{HasNoDreamAfter, Sent, next_sent, sent_instances}
use Rattle.transcript_model.specs.Legal.{IsLegal, MayFollow, asks_of, is_level, is_mark}
use Rattle.transcript_model.specs.Rounds.{limits_of}
use Rattle.transcript_model.specs.Transcript.{known_of, names_of, notes_of}
use Rattle.transcript_model.specs.Turns.{AdaptiveTurn, AreBatches, IsPickTurn, IsPicked, Kept, Skeleton, with_pick}
use Rattle.transcript_model.specs.declared.entry.Entry.{Entry}
use Rattle.transcript_model.specs.declared.entry.Entry.TheVariants as entry
use Rattle.transcript_model.specs.declared.head.Head.{Head}
use Rattle.transcript_model.specs.declared.head.Mode.{Mode}
use Rattle.transcript_model.specs.declared.head.Mode.TheVariants.{Adaptive}

module _ (head : Head) (task : Task) (is : head.mode ≡ Adaptive) where
  adaptive_turn : (kept : Kept) (before now : List Entry) (next : Kept) (cut : Bool)
      → AdaptiveTurn (limits_of head) task kept before now next cut → TurnOf head.mode (limits_of head) task kept before now next cut
  adaptive_turn kept before now next cut turn =
      subst (λ (m : Mode). TurnOf m (limits_of head) task kept before now next cut) (sym is) turn

  -- ---- a new skeleton

  module _ (tried : List Instance) (xs : List Skeleton) (before : List Entry) (line : Entry) (entries : List dreams.SupposedEntry)
      (d : Dreamt (limits_of head) task before tried line entries) where
    abbrev new_skeleton : Skeleton
    new_skeleton = record { entries = entries; real = length (names_of task before); picks = 0; retired = false }

    abbrev with_new : Kept
    with_new = carrying (xs ++ new_skeleton ∷ []) tried

    pub new_turn : (now : List Entry) (next : Kept) (cut : Bool)
        → IsBehindPick head task (carrying (xs ++ record {
          entries = entries;
          real = length (names_of task before);
          picks = 0;
          retired = false;
        } ∷ []) tried) before line now next cut
        → TurnOf head.mode (limits_of head) task (carrying xs tried) before now next cut
    new_turn now next cut b =
        adaptive_turn (carrying xs tried) before now next cut (inl (record {
          uses = d.uses;
          steps = d.steps;
          entries = entries;
          dream = d.dream;
          rest = b.rest;
          is = b.is ∙ ap (λ e. e ∷ b.rest) d.is;
          pick = subst (λ e. IsPickTurn (limits_of head) task with_new (before ++ e ∷ []) b.rest next cut) d.is b.pick;
        }))

    pub new_front : (es : List Entry)
        → IsFrontBehindPick head task (carrying (xs ++ record {
          entries = entries;
          real = length (names_of task before);
          picks = 0;
          retired = false;
        } ∷ []) tried) before line es
        → IsFrontOfTurn task head (carrying xs tried) before es
    new_front es f = inr (record {
      part = f.part;
      rest = f.rest;
      is = f.is;
      whole = (f.whole.0, f.whole.1, new_turn (f.part ++ f.rest) f.whole.0 f.whole.1 f.whole.2);
    })

  -- ---- an old one

  module _ (tried : List Instance) (xs : List Skeleton) (before : List Entry)
      (none : HasNoDreamAfter (limits_of head) task before tried) where
    pub old_turn : (now : List Entry) (next : Kept) (cut : Bool)
        → IsBehindPick head task (carrying xs tried) before entry.Nothing now next cut
        → TurnOf head.mode (limits_of head) task (carrying xs tried) before now next cut
    old_turn now next cut b =
        adaptive_turn (carrying xs tried) before now next cut
        (inr (inl (record { none = none; rest = b.rest; is = b.is; pick = b.pick })))

    pub old_front : (es : List Entry) → IsFrontBehindPick head task (carrying xs tried) before entry.Nothing es
        → IsFrontOfTurn task head (carrying xs tried) before es
    old_front es f = inr (record {
      part = f.part;
      rest = f.rest;
      is = f.is;
      whole = (f.whole.0, f.whole.1, old_turn (f.part ++ f.rest) f.whole.0 f.whole.1 f.whole.2);
    })

-- ---- what a turn has done

ran_pick : (head : Head) (task : Task) (kept next : Kept) (old new : State) (t : Turned) (now : List Entry) (last : Kept)
    (cut : Bool) → new.entries ≡ old.entries ++ now → TurnOf head.mode (limits_of head) task kept old.entries now last cut
    → IsShortFirst head.states now → EndsPick head task last next new cut t
    → (t ≡ turned.Done → Falls (length old.asked) (idle_with kept.skeletons kept.tried) (length new.asked)
    (idle_with last.skeletons last.tried))
    → AreFewKept last.skeletons (length new.asked) → count_by is_level new.entries ≤ length new.asked
    → RanTurn task head kept next (idle_with kept.skeletons kept.tried) (idle_with next.skeletons next.tried)
    (λ asked. AreFewKept next.skeletons asked) old new t
ran_pick head task kept next old new turned.Done now last cut pushed turn first ended falls are levels =
    let left = subst (λ k. AreFewKept k.skeletons (length new.asked)) ended.1 are in
    record {
      turned = (
        now,
        pushed,
        subst (λ k. TurnOf head.mode (limits_of head) task kept old.entries now k false) ended.1
            (subst (λ b. TurnOf head.mode (limits_of head) task kept old.entries now last b) ended.0 turn),
        turn_short head task kept old.entries now last cut turn first,
      );
      falls = λ done. subst (λ k. Falls (length old.asked) (idle_with kept.skeletons kept.tried) (length new.asked)
          (idle_with k.skeletons k.tried)) ended.1 (falls refl);
      fits = record { holds = left; room = idle_low next.skeletons next.tried (length new.asked) left; levels = levels };
    }
ran_pick head task kept next old new turned.Spent now last cut pushed turn first ended falls are levels =
    let left = subst (λ xs. AreFewKept xs (length new.asked)) ended.1 are in
    record {
      turned = (
        now,
        last,
        pushed,
        subst (λ b. TurnOf head.mode (limits_of head) task kept old.entries now last b) ended.0 turn,
        ended.2,
        turn_short head task kept old.entries now last cut turn first,
      );
      falls = λ done. absurd (let bad : turned.Spent ≡ turned.Done = done in cc);
      fits = record { holds = left; room = idle_low next.skeletons next.tried (length new.asked) left; levels = levels };
    }
ran_pick head task kept next old new (turned.Known o) now last cut pushed turn first ended falls are levels = absurd ended

-- a turn with a pick behind a line
module _ (head : Head) (task : Task) (kept next : Kept) (line : Entry) (old new : State) (t : Turned)
    (ran : RanBehindPick head task kept next line old new t) (mark : is_mark line ≡ true) (other : is_level line ≡ false)
    (counted : length old.asked ≡ asks_of old.entries) (counted_now : length new.asked ≡ asks_of new.entries)
    (levels : count_by is_level old.entries ≤ length old.asked) where
  asks_are : length new.asked ≡ length old.asked + length ran.behind.pick.sent
  asks_are =
      omega (
        arith,
        counted,
        counted_now,
        ap asks_of ran.pushed,
        asks_more old.entries ran.now,
        ap asks_of ran.behind.is,
        asks_more (line ∷ []) ran.behind.rest,
        asks_more old.entries (line ∷ []),
        asks_marked old.entries line (mark_no_ask line mark),
        asks_more (old.entries ++ line ∷ []) ran.behind.rest,
        pick_count (limits_of head) task kept (old.entries ++ line ∷ []) ran.behind.rest ran.last ran.cut ran.behind.pick,
      )

  levels_are : count_by is_level new.entries ≤ length new.asked
  levels_are =
      omega (
        arith,
        asks_are,
        levels,
        ap (count_by is_level) ran.pushed,
        count_joined is_level old.entries ran.now,
        ap (count_by is_level) ran.behind.is,
        count_joined is_level (line ∷ []) ran.behind.rest,
        count_one is_level line ∙ ap (λ b. cond b 1 0) other,
        pick_levels (limits_of head) task kept (old.entries ++ line ∷ []) ran.behind.rest ran.last ran.cut ran.behind.pick,
      )

-- an old skeleton was picked
pub ran_old : (head : Head) (task : Task) (is : head.mode ≡ Adaptive) (tried : List Instance) (xs : List Skeleton) (next : Kept)
    (old new : State) (t : Turned) → HasNoDreamAfter (limits_of head) task old.entries tried → AreFewKept xs (length old.asked)
    → RanBehindPick head task (carrying xs tried) next entry.Nothing old new t
    → length old.asked ≡ asks_of old.entries → length new.asked ≡ asks_of new.entries
    → count_by is_level old.entries ≤ length old.asked
    → RanTurn task head (carrying xs tried) next (idle_with xs tried) (idle_with next.skeletons next.tried)
    (λ asked. AreFewKept next.skeletons asked) old new t
ran_old head task is tried xs next old new t none h ran counted counted_now levels =
    let pick = ran.behind.pick in
    let asks = asks_are head task (carrying xs tried) next entry.Nothing old new t ran refl refl counted counted_now levels in
    let low = (at_all (λ (x : Skeleton). x.retired ≡ false → (1 ≤ x.picks) × (x.picks ≤ length old.asked)) xs pick.place pick.skeleton
    h.picked pick.picked.there pick.picked.kept).1 in
    ran_pick head task (carrying xs tried) next old new t ran.now ran.last ran.cut ran.pushed
    (old_turn head task is tried xs old.entries none ran.now ran.last ran.cut ran.behind)
    (subst (IsShortFirst head.states) (sym ran.behind.is) tt) ran.ended
    (λ done. subst (λ k. Falls (length old.asked) (idle_with xs tried) (length new.asked) (idle_with k.skeletons k.tried))
    (sym pick.next_is)
    (by pick.sent asks pick.place pick.skeleton pick.picked))
    (subst (λ k. AreFewKept k.skeletons (length new.asked)) (sym pick.next_is)
    (kept_old xs pick.place pick.skeleton pick.sent (length old.asked) (length new.asked) h low asks))
    (levels_are head task (carrying xs tried) next entry.Nothing old new t ran refl refl counted counted_now levels)
  where
    by : (sent : List Sent) → length new.asked ≡ length old.asked + length sent → (place : ℕ) (s : Skeleton) → IsPicked xs place s
        → Falls (length old.asked) (idle_with xs tried) (length new.asked)
        (idle_with (with_pick xs place s sent) (tried ++ sent_instances sent))
    by [] asks place s picked = inr (omega (arith, asks), idle_falls xs place s tried picked)
    by (a ∷ sent) asks place s picked = inl (omega (arith, asks))

-- a skeleton is picked in one place
picked_once : (xs : List Skeleton) (p q : ℕ) (s r : Skeleton) → IsPicked xs p s → IsPicked xs q r → (q ≡ p) × (r ≡ s)
picked_once xs p q s r first second =
    let places : q ≡ p = by (cases_lt p q) (cases_lt q p) in
    let both : Some r ≡ Some s = sym second.there ∙ ap (slice_get xs) places ∙ first.there in
    (places, cc)
  where
    by : (p < q) ⊎ (q ≤ p) → (q < p) ⊎ (p ≤ q) → q ≡ p
    by (inl less) w =
        absurd (omega (
          arith,
          second.earliest p s less first.there first.kept,
          first.fewest q r second.there second.kept,
        ))
    by (inr low) (inl less) =
        absurd (omega (
          arith,
          first.earliest q r less second.there second.kept,
          second.fewest p s first.there first.kept,
        ))
    by (inr low) (inr high) = omega (arith, low, high)

-- the new one was picked
module _ (head : Head) (task : Task) (is : head.mode ≡ Adaptive) (fit : IsFit task) (tried : List Instance) (xs : List Skeleton)
    (line : Entry) (entries : List dreams.SupposedEntry) (old : State) (legal : IsLegal head.version task old.entries)
    (d : Dreamt (limits_of head) task old.entries tried line entries) (h : AreFewKept xs (length old.asked))
    (room : HasCallLeft head old) (counted : length old.asked ≡ asks_of old.entries) where
  abbrev kept_skeleton : Skeleton
  kept_skeleton = record { entries = entries; real = length (names_of task old.entries); picks = 0; retired = false }

  mark : is_mark line ≡ true
  mark = ap is_mark d.is

  -- what is asked first of it stays behind the line of its pick
  asks_some : (number : ℕ)
      → 0 < length (next_sent task ((old.entries ++ line ∷ []) ++ entry.Pick number ∷ []) (length (names_of task old.entries)) []
      (asks_of ((old.entries ++ line ∷ []) ++ entry.Pick number ∷ []) + 1) [] entries)
  asks_some number =
      let real = length (names_of task old.entries) in
      let dreamt = old.entries ++ entry.Dream d.uses d.steps ∷ [] in
      let marked = old.entries ++ line ∷ [] in
      let same : dreamt ≡ marked = ap (λ e. old.entries ++ e ∷ []) (sym d.is) in
      let picked = marked ++ entry.Pick number ∷ [] in
      let distinct = dream_distinct (limits_of head) task old.entries tried d.uses d.steps entries d.dream in
      let names = fit.problem.objects.names.distinct in
      let legal_marked = (grows head.version task old.entries).next line legal
      (subst (λ e. MayFollow head.version task old.entries e) (sym d.is) tt) in
      let adds = mark_adds head.version task marked names legal_marked (entry.Pick number) refl in
      let first = dream_asks (limits_of head) task old.entries tried fit legal d.uses d.steps entries (asks_of dreamt + 1) d.dream in
      let here = first_sent task dreamt real (asks_of dreamt + 1) entries distinct in
      let there = first_sent task picked real (asks_of picked + 1) entries distinct in
      let as_known : first_instances task (known_of task dreamt) (notes_of task dreamt) real entries
      ≡ first_instances task (known_of task picked) (notes_of task picked) real entries =
      (λ i. first_instances task (known_of task (same i)) (notes_of task (same i)) real entries)
      ∙ (λ i. first_instances task (sym adds.same.known i) (sym adds.same.notes i) real entries) in
      omega (
        arith,
        first,
        ap length here,
        ap length there,
        ap length as_known,
        length-map (next_sent task dreamt real [] (asks_of dreamt + 1) [] entries) (λ (x : Sent). x.instance),
        length-map (next_sent task picked real [] (asks_of picked + 1) [] entries) (λ (x : Sent). x.instance),
      )

  pub ran_new : (next : Kept) (new : State) (t : Turned)
      → RanBehindPick head task (carrying (xs ++ record {
        entries = entries;
        real = length (names_of task old.entries);
        picks = 0;
        retired = false;
      } ∷ []) tried) next line old new t
      → length new.asked ≡ asks_of new.entries
      → RanTurn task head (carrying xs tried) next (idle_with xs tried) (idle_with next.skeletons next.tried)
      (λ asked. AreFewKept next.skeletons asked) old new t
  ran_new next new t ran counted_now =
      let with_it = xs ++ kept_skeleton ∷ [] in
      let pick = ran.behind.pick in
      let other = ap is_level d.is in
      let asks = asks_are head task (carrying with_it tried) next line old new t ran mark other counted counted_now room.levels in
      let one = picked_once with_it (length xs) pick.place kept_skeleton pick.skeleton
      (new_picked xs kept_skeleton (length old.asked) refl refl h) pick.picked in
      let marked = old.entries ++ line ∷ [] in
      let picked = marked ++ entry.Pick (pick.place + 1) ∷ [] in
      let left : asks_of picked < head.calls =
      omega (
        arith,
        asks_marked marked (entry.Pick (pick.place + 1)) refl,
        asks_marked old.entries line (mark_no_ask line mark),
        counted,
        room.left,
      ) in
      let some : 0 < length pick.sent =
      batches_ask (limits_of head) task (length (names_of task old.entries)) entries [] picked pick.batches pick.sent ran.cut
      (subst (λ (x : Skeleton). AreBatches (limits_of head) task x.real x.entries [] picked pick.batches pick.sent ran.cut) one.1 pick.run)
      left (asks_some (pick.place + 1)) in
      ran_pick head task (carrying xs tried) next old new t ran.now ran.last ran.cut ran.pushed
      (new_turn head task is tried xs old.entries line entries d ran.now ran.last ran.cut ran.behind)
      (subst (IsShortFirst head.states) (sym (ran.behind.is ∙ ap (λ e. e ∷ ran.behind.rest) d.is)) d.few) ran.ended
      (λ done. inl (omega (arith, asks, some)))
      (subst (λ k. AreFewKept k.skeletons (length new.asked)) (sym pick.next_is)
      (subst (λ (x : Skeleton). AreFewKept (with_pick with_it pick.place x pick.sent) (length new.asked)) (sym one.1)
      (subst (λ place. AreFewKept (with_pick with_it place kept_skeleton pick.sent) (length new.asked)) (sym one.0)
      (kept_new xs kept_skeleton pick.sent (length old.asked) (length new.asked) h refl asks some))))
      (levels_are head task (carrying with_it tried) next line old new t ran mark other counted counted_now room.levels)

-- nothing was picked
pub ran_empty : (head : Head) (task : Task) (xs : List Skeleton) (tried next : List Instance) (old new : State) (t : Turned)
    → list_all (λ (s : Skeleton). s.retired) xs ≡ true → AreFewKept xs (length old.asked) → RanDreaming task head xs tried next old new t
    → length old.asked ≡ asks_of old.entries → length new.asked ≡ asks_of new.entries
    → RanTurn task head (carrying xs tried) (carrying xs next) (idle_with xs tried) (idle_with xs next)
    (λ asked. AreFewKept xs asked) old new t
ran_empty head task xs tried next old new t retired h ran counted counted_now =
    let none = none_kept xs retired in
    let grows = grown t ran.turned in
    let kept : AreFewKept xs (length new.asked) = record {
      few = omega (arith, h.few, grows);
      picked = λ k d lt is. let q = h.picked k d lt is in (q.0, omega (arith, q.1, grows));
    } in
    record {
      turned = ran.turned;
      falls = λ done. falls none (ran.falls done);
      fits = record { holds = kept; room = idle_low xs next (length new.asked) kept; levels = ran.fits.levels };
    }
  where
    grown : (u : Turned) → HasTurned task head (carrying xs tried) (carrying xs next) old new u → length old.asked ≤ length new.asked
    grown turned.Done did = omega (arith, counted, counted_now, ap asks_of did.1, asks_more old.entries did.0)
    grown turned.Spent did = omega (arith, counted, counted_now, ap asks_of did.2, asks_more old.entries did.0)
    grown (turned.Known o) did = omega (arith, counted, counted_now, ap asks_of did.0)

    falls : count_by is_kept xs ≡ 0 → Falls (length old.asked) (idle_of tried) (length new.asked) (idle_of next)
        → Falls (length old.asked) (idle_with xs tried) (length new.asked) (idle_with xs next)
    falls none (inl more) = inl more
    falls none (inr (same, less)) = inr (same, omega (arith, less, none))
