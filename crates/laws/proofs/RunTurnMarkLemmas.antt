-- What turns of any mode show besides requests and answers, and that each request of theirs has its answer.
use Rattle.std.proofs.Common.{◌≡◌, ℕ, zero, suc, ◌+◌, ◌≤◌, inl, inr, Bool, true, false, List, [], ◌∷◌, ◌++◌, length, take, count_by, refl, sym, ap, subst, ◌∙◌, Some, slice_get, arith, append_assoc}
use Rattle.std.proofs.Math.Seq.{take-append-add}
use Rattle.std.proofs.lemmas.List.{append-nil, length-append, take-append-le}
use Rattle.std.proofs.lemmas.Option.{slice_get_within}
use Rattle.lemmas.proofs.Members.{append_cases}
use Rattle.lemmas.proofs.ListTests.{all_at}
use Rattle.turn_laws.specs.Modes.{TurnOf}
use Rattle.laws.proofs.RunPlainEntryLemmas.{is_plain, rounds_plain}
use Rattle.laws.proofs.RunSkeletonLemmas.{IsCarried, skeleton_of, turn_carries}
use Rattle.lemmas.proofs.Counts.{count_joined}
use Rattle.task_model.specs.Dreams as dreams
use Rattle.task_model.specs.Fit.{IsFit}
use Rattle.task_model.specs.declared.stream.Instance.{Instance}
use Rattle.task_model.specs.declared.task.Task.{Task}
use Rattle.transcript_model.proofs.LegalNumberLemmas.{asks_more}
use Rattle.transcript_model.proofs.LegalPrefixLemmas.{legal_front}
use Rattle.transcript_model.specs.Dreaming.{IsDreamAfter, Sent}
use Rattle.transcript_model.specs.Legal.{IsLegal, asks_of, is_answer, is_mark}
use Rattle.transcript_model.specs.Rounds.{IsBatch, Limits, calls_left}
use Rattle.transcript_model.specs.Turns.{AreBatches, AreTurns, IsDreamTurn, IsEmptyTurn, IsFallback, IsFirstBatch, IsLevel, IsNewSkeleton, IsOldSkeleton, IsPickTurn, Kept, Stage, cut_off, finished, further, inside, last, level, none_left, reset, retiring, stopped, whole}
use Rattle.transcript_model.specs.declared.entry.Entry.{Entry}
use Rattle.transcript_model.specs.declared.entry.Entry.TheVariants as entry
use Rattle.transcript_model.specs.declared.head.Mode.{Mode}
use Rattle.transcript_model.specs.declared.head.Mode.TheVariants.{Incremental, Focused, Binding, Adaptive}

-- A dream is one after the entries before it, and a pick's number is at most the next request's.
abbrev pub IsRightMark : Mode → Limits → Task → List Entry → Entry → Type 0
IsRightMark mode limits task before (entry.Dream uses steps) =
    ¬ (mode ≡ Incremental) × (tried : List Instance) × (entries : List dreams.SupposedEntry)
    × IsDreamAfter limits task before tried uses steps entries
IsRightMark mode limits task before (entry.Pick number) =
    ¬ (mode ≡ Incremental) × (number ≤ asks_of before + 1)
IsRightMark mode limits task before (entry.Retire number) =
    ¬ (mode ≡ Incremental) × (number ≤ asks_of before + 1)
IsRightMark mode limits task before entry.Level = Unit {0}
IsRightMark mode limits task before entry.Nothing = Unit {0}
IsRightMark mode limits task before entry.Reset = Unit {0}
IsRightMark mode limits task before (entry.Ask number turn call) = Unit {0}
IsRightMark mode limits task before (entry.Got number tuples values) = Unit {0}
IsRightMark mode limits task before (entry.Value number value) = Unit {0}
IsRightMark mode limits task before (entry.End number) = Unit {0}

-- all of them are right behind these, and there are as many answers as requests
pub record AreRight (mode : Mode) (limits : Limits) (task : Task) (before now : List Entry) : Type 0 where
  pub marks : (k : ℕ) (e : Entry) → slice_get now k ≡ Some e → IsRightMark mode limits task (before ++ take k now) e
  pub answers : count_by is_answer now ≡ asks_of now

mark_even : (e : Entry) → is_mark e ≡ true → count_by is_answer (e ∷ []) ≡ asks_of (e ∷ [])
mark_even (entry.Ask number turn call) is = absurd (cc)
mark_even (entry.Got number tuples values) is = absurd (cc)
mark_even (entry.Value number value) is = absurd (cc)
mark_even (entry.End number) is = absurd (cc)
mark_even e is = refl

module _ (mode : Mode) (limits : Limits) (task : Task) where
  -- ---- one behind the other

  none_right : (before : List Entry) → AreRight mode limits task before []
  none_right before = record { marks = λ k e at. absurd (cc); answers = refl }

  one_right : (before : List Entry) (e : Entry) → is_mark e ≡ true → IsRightMark mode limits task before e
      → AreRight mode limits task before (e ∷ [])
  one_right before e is right = record { marks = one; answers = mark_even e is }
    where
      one : (k : ℕ) (x : Entry) → slice_get (e ∷ []) k ≡ Some x
          → IsRightMark mode limits task (before ++ take k (e ∷ [])) x
      one zero x at =
          let same : e ≡ x = cc in
          subst (λ y. IsRightMark mode limits task (before ++ []) y) same
          (subst (λ es. IsRightMark mode limits task es e) (sym (append-nil before)) right)
      one (suc k) x at = absurd (cc)

  joined_right : (before now rest : List Entry) → AreRight mode limits task before now
      → AreRight mode limits task (before ++ now) rest → AreRight mode limits task before (now ++ rest)
  joined_right before now rest first second = record {
    marks = each;
    answers = omega (arith, count_joined is_answer now rest, asks_more now rest, first.answers, second.answers);
  }
    where
      each : (k : ℕ) (e : Entry) → slice_get (now ++ rest) k ≡ Some e
          → IsRightMark mode limits task (before ++ take k (now ++ rest)) e
      each k e at =
          elim (append_cases now rest k e at) [
            | inl early ↦
                subst (λ es. IsRightMark mode limits task (before ++ es) e)
                (sym (take-append-le k now rest (omega (arith, slice_get_within now k e early))))
                (first.marks k e early)
            | inr later ↦
                subst (λ es. IsRightMark mode limits task es e)
                (append_assoc before now (take later.0 rest) ∙ ap (λ es. before ++ es) (sym (behind later.0 later.1)))
                (second.marks later.0 e later.2)
          ]
        where
          behind : (j : ℕ) → k ≡ length now + j → take k (now ++ rest) ≡ now ++ take j rest
          behind j is = ap (λ n. take n (now ++ rest)) is ∙ take-append-add now rest j

  marked_right : (before rest : List Entry) (e : Entry) → is_mark e ≡ true → IsRightMark mode limits task before e
      → AreRight mode limits task (before ++ e ∷ []) rest → AreRight mode limits task before (e ∷ rest)
  marked_right before rest e is right later = joined_right before (e ∷ []) rest (one_right before e is right) later

  -- ---- batches

  plain_mark : (before : List Entry) (e : Entry) → is_plain e ≡ true → IsRightMark mode limits task before e
  plain_mark before entry.Level is = tt
  plain_mark before (entry.Ask number turn call) is = tt
  plain_mark before (entry.Got number tuples values) is = tt
  plain_mark before (entry.Value number value) is = tt
  plain_mark before (entry.End number) is = tt
  plain_mark before e is = absurd (cc)

  batch_right : (before now : List Entry) (list : List Instance) → IsBatch limits task before list now
      → AreRight mode limits task before now
  batch_right before now list batch =
      let plain = rounds_plain limits task batch.rounds
      (take (calls_left limits before) list) before now batch.cut batch.run in
      record {
        marks = λ k e at. plain_mark (before ++ take k now) e (all_at is_plain now k e plain.plain at);
        answers = plain.answers ∙ sym plain.asks;
      }

  level_right : (before now : List Entry) (cut : Bool) → IsLevel limits task before now cut
      → AreRight mode limits task before now
  level_right before now cut this =
      subst (AreRight mode limits task before) (sym this.is)
      (marked_right before this.rest entry.Level refl tt
      (batch_right (before ++ entry.Level ∷ []) this.rest this.list this.batch))

  fallback_right : (before : List Entry) (tried : List Instance) (now : List Entry) (cut : Bool)
      → IsFallback limits task before tried now cut → AreRight mode limits task before now
  fallback_right before tried now cut (reset first more) =
      marked_right before [] entry.Reset refl tt (none_right (before ++ entry.Reset ∷ []))
  fallback_right before tried now cut (level this) = level_right before now cut this

  batches_right : (real : ℕ) (entries : List dreams.SupposedEntry) (sent : List Sent) (before now : List Entry)
      (after : List Sent) (cut : Bool)
      → AreBatches limits task real entries sent before now after cut → AreRight mode limits task before now
  batches_right real entries sent before now after cut (finished none) = none_right before
  batches_right real entries sent before now after cut (last next is more batch) = batch_right before now _ batch
  batches_right real entries sent before now after cut
      (further {now = first} {rest = rest} next is some all batch more) =
      joined_right before first rest (batch_right before first _ batch)
      (batches_right real entries (sent ++ next) (before ++ first) rest after cut more)

  -- ---- turns

  module _ (dreams_too : ¬ (mode ≡ Incremental)) where
    dream_right : (asks : ℕ → List dreams.SupposedEntry → List Entry → List Entry → List Sent → Bool → Type 0)
        (tried : List Instance) (before now : List Entry) (next : List Instance) (cut : Bool)
        → ((real : ℕ) (entries : List dreams.SupposedEntry) (b n : List Entry) (s : List Sent) (c : Bool)
        → asks real entries b n s c
        → AreRight mode limits task b n)
        → IsDreamTurn limits task asks tried before now next cut → AreRight mode limits task before now
    dream_right asks tried before now next cut each this =
        subst (AreRight mode limits task before) (sym this.is)
        (marked_right before this.rest (entry.Dream this.uses this.steps) refl
        (dreams_too, tried, this.entries, this.dream)
        (each _ this.entries _ this.rest this.sent cut this.batches))

    empty_right : (tried : List Instance) (before now : List Entry) (next : List Instance) (cut : Bool)
        → IsEmptyTurn limits task tried before now next cut → AreRight mode limits task before now
    empty_right tried before now next cut this =
        subst (AreRight mode limits task before) (sym this.is)
        (marked_right before this.rest entry.Nothing refl tt
        (fallback_right (before ++ entry.Nothing ∷ []) tried this.rest cut this.fallback))

    retiring_right : (before : List Entry) (number : ℕ) (sent : List Sent) → number ≤ asks_of before + 1
        → AreRight mode limits task before (retiring number sent)
    retiring_right before number [] few = one_right before (entry.Retire number) refl (dreams_too, few)
    retiring_right before number (s ∷ sent) few = none_right before

    pick_right : (kept : Kept) (before now : List Entry) (next : Kept) (cut : Bool)
        → length kept.skeletons ≤ asks_of before + 1
        → IsPickTurn limits task kept before now next cut → AreRight mode limits task before now
    pick_right kept before now next cut few this =
        let number = this.place + 1 in
        let marked = before ++ entry.Pick number ∷ [] in
        let end = retiring number this.sent in
        let within = slice_get_within kept.skeletons this.place this.skeleton this.picked.there in
        subst (AreRight mode limits task before) (sym this.is)
        (marked_right before (this.batches ++ end) (entry.Pick number) refl (dreams_too, omega (arith, within, few))
        (joined_right marked this.batches end
        (batches_right this.skeleton.real this.skeleton.entries [] marked this.batches this.sent cut this.run)
        (retiring_right (marked ++ this.batches) number this.sent
        (omega (
          arith,
          within,
          few,
          asks_more marked this.batches,
          asks_more before (entry.Pick number ∷ []),
        )))))

    new_right : (kept : Kept) (before now : List Entry) (next : Kept) (cut : Bool)
        → length kept.skeletons ≤ asks_of before
        → IsNewSkeleton limits task kept before now next cut → AreRight mode limits task before now
    new_right kept before now next cut few this =
        let dream = entry.Dream this.uses this.steps in
        subst (AreRight mode limits task before) (sym this.is)
        (marked_right before this.rest dream refl (dreams_too, kept.tried, this.entries, this.dream)
        (pick_right _ (before ++ dream ∷ []) this.rest next cut
        (omega (
          arith,
          few,
          length-append kept.skeletons (skeleton_of task before this.entries ∷ []),
          asks_more before (dream ∷ []),
        )) this.pick))

    old_right : (kept : Kept) (before now : List Entry) (next : Kept) (cut : Bool)
        → length kept.skeletons ≤ asks_of before
        → IsOldSkeleton limits task kept before now next cut → AreRight mode limits task before now
    old_right kept before now next cut few this =
        subst (AreRight mode limits task before) (sym this.is)
        (marked_right before this.rest entry.Nothing refl tt
        (pick_right kept (before ++ entry.Nothing ∷ []) this.rest next cut
        (omega (arith, few, asks_more before (entry.Nothing ∷ []))) this.pick))

-- ---- turns of any mode

module _ (limits : Limits) (task : Task) where
  turn_right : (mode : Mode) (kept : Kept) (before now : List Entry) (next : Kept) (cut : Bool)
      → TurnOf mode limits task kept before now next cut → length kept.skeletons ≤ asks_of before
      → AreRight mode limits task before now
  turn_right Incremental kept before now next cut this few = level_right Incremental limits task before now cut this.0
  turn_right Focused kept before now next cut (inl this, same) few =
      dream_right Focused limits task (λ is. absurd (cc))
      (IsFirstBatch limits task) kept.tried before now next.tried cut
      (λ real entries b n s c first. batch_right Focused limits task b n _ first.batch) this
  turn_right Focused kept before now next cut (inr this, same) few =
      empty_right Focused limits task (λ is. absurd (cc)) kept.tried before now next.tried cut this
  turn_right Binding kept before now next cut (inl this, same) few =
      dream_right Binding limits task (λ is. absurd (cc))
      (λ real entries. AreBatches limits task real entries []) kept.tried
      before now next.tried cut
      (λ real entries b n s c run. batches_right Binding limits task real entries [] b n s c run) this
  turn_right Binding kept before now next cut (inr this, same) few =
      empty_right Binding limits task (λ is. absurd (cc)) kept.tried before now next.tried cut this
  turn_right Adaptive kept before now next cut (inl this) few =
      new_right Adaptive limits task (λ is. absurd (cc)) kept before now next cut few this
  turn_right Adaptive kept before now next cut (inr (inl this)) few =
      old_right Adaptive limits task (λ is. absurd (cc)) kept before now next cut few this
  turn_right Adaptive kept before now next cut (inr (inr this)) few =
      empty_right Adaptive limits task (λ is. absurd (cc)) kept.tried before now this.tried cut this.turn

  -- Turns none of which stops inside.
  pub turns_right : IsFit task → (mode : Mode) (kept : Kept) (before es : List Entry) (stage : Stage)
      → IsLegal limits.version task (before ++ es) → IsCarried kept before
      → AreTurns limits task (TurnOf mode limits task) kept before es stage → ¬ (stage ≡ inside)
      → AreRight mode limits task before es
  turns_right fit mode kept before es stage legal carried none_left resting = none_right mode limits task before
  turns_right fit mode kept before es stage legal carried (whole next {now = now} {rest = rest} may this more) resting =
      let all = subst (IsLegal limits.version task) (sym (append_assoc before now rest)) legal in
      let later =
      turn_carries limits task fit mode kept before now next
      (legal_front limits.version task (before ++ now) rest all) carried this in
      joined_right mode limits task before now rest (turn_right mode kept before now next false this carried.few)
      (turns_right fit mode next (before ++ now) rest stage all later more resting)
  turns_right fit mode kept before es stage legal carried (cut_off next may this) resting =
      turn_right mode kept before es next true this carried.few
  turns_right fit mode kept before es stage legal carried (stopped next more cut may this) resting =
      absurd (resting refl)
