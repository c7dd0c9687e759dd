-- Each request of whole turns, of any mode, goes to a child of the pools.
use Rattle.std.proofs.Common.{◌≡◌, ℕ, zero, suc, ◌+◌, ◌<◌, inl, inr, Bool, true, false, List, [], ◌∷◌, ◌++◌, map, length, take, length-append, refl, sym, ap, subst, ◌∙◌, Some, slice_get, arith}
use Rattle.std.proofs.Math.Seq.{take-append-add}
use Rattle.std.proofs.lemmas.List.{append-nil, length-take-le, take-append-le}
use Rattle.std.proofs.lemmas.Option.{slice_get_within}
use Rattle.lemmas.proofs.Members.{append_cases, from_take, get_at_length, take_next}
use Rattle.turn_laws.proofs.ModesLemmas.{as_family}
use Rattle.turn_laws.specs.Modes.{TurnOf, nothing_kept}
use Rattle.pools.specs.Pools.{AreFitPools, Workers, child_for, shares_of, workers_of}
use Rattle.round_run.proofs.DialogueRequestLemmas.{AreAsks, AreReplies, all_replies, closed_by, no_replies, replies_join, requests_front, requests_long, last_join, no_requests, requests_join}
use Rattle.round_run.specs.Calls.{answers_by}
use Rattle.round_run.specs.Dialogue.{Request, count_to, is_to, replies_of, called_stream, last_round, requests_after, requests_of, workers_in}
use Rattle.lemmas.proofs.Counts.{count_joined}
use Rattle.table_runs.proofs.AgreeLemmas.{answer_is}
use Rattle.table_runs.proofs.SentLemmas.{requests_ask, requests_many, NameStreams, Sends, legal_names, names_behind, names_front, none_to, not_again, sends_at, sent_one}
use Rattle.table_runs.specs.Asking.{AreAskedInTurn, GoToPools}
use Rattle.task_model.specs.Dreams as dreams
use Rattle.task_model.specs.Fit.{IsFit}
use Rattle.task_model.specs.declared.stream.Instance.{Instance}
use Rattle.task_model.specs.declared.task.Task.{Task}
use Rattle.transcript_model.specs.Dreaming.{Sent}
use Rattle.transcript_model.specs.Legal.{IsLegal, asks_of, is_answer, is_mark}
use Rattle.transcript_model.specs.Rounds as rounds
use Rattle.transcript_model.specs.Rounds.{AreAnswers, AreRounds, AreRoundsRun, IsBatch, Limits, calls_left, fits, limits_of, requests}
use Rattle.transcript_model.specs.Turns.{AreBatches, AreTurns, AreTurnsOf, IsDreamTurn, IsEmptyTurn, IsFallback, IsFirstBatch, IsLevel, IsPickTurn, Kept, Stage, cut_off, finished, further, inside, last, level, none_left, reset, retiring, stopped, whole}
use Rattle.transcript_model.specs.declared.entry.Call.{Call}
use Rattle.transcript_model.specs.declared.entry.Entry.{Entry}
use Rattle.transcript_model.specs.declared.entry.Entry.TheVariants as entry
use Rattle.transcript_model.specs.declared.head.Head.{Head}
use Rattle.transcript_model.specs.declared.head.Pool.{Pool}
use Rattle.transcript_model.specs.declared.head.Mode.{Mode}
use Rattle.transcript_model.specs.declared.head.Mode.TheVariants.{Incremental, Focused, Binding, Adaptive}

module _ (task : Task) (pools : List Workers) (fit : IsFit task) (able : AreFitPools task pools) where
  -- ---- parts of transcripts

  -- the requests go to children of the pools, and none stands at the end
  record AreServed (es : List Entry) : Type 0 where
    each : GoToPools task pools es
    closed : last_round task [] es ≡ []
    even : length (replies_of es) ≡ length (requests_of task pools es)
    in_turn : AreAskedInTurn task pools es

  none_served : AreServed []
  none_served = record {
    each = λ k r at. absurd (cc);
    closed = refl;
    even = refl;
    in_turn = λ k number turn call at. absurd (cc (at));
  }

  joined_served : (xs ys : List Entry) → AreServed xs → AreServed ys → AreServed (xs ++ ys)
  joined_served xs ys first second = record {
    each = both;
    closed = last_join task [] xs ys ∙ ap (λ round. last_round task round ys) first.closed ∙ second.closed;
    even = evens;
    in_turn = turns;
  }
    where
      parts : (t : List Entry) → requests_of task pools (xs ++ t) ≡ requests_of task pools xs ++ requests_of task pools t
      parts t =
          requests_join task pools [] xs t
          ∙ ap (λ round. requests_of task pools xs ++ requests_after task pools round t) first.closed

      evens : length (replies_of (xs ++ ys)) ≡ length (requests_of task pools (xs ++ ys))
      evens = omega (
        arith,
        ap length (replies_join xs ys),
        length-append (replies_of xs) (replies_of ys),
        ap length (parts ys),
        length-append (requests_of task pools xs) (requests_of task pools ys),
        first.even,
        second.even,
      )

      -- what went to a child behind the first entries, and what was answered
      behind : (t : List Entry) (c : ℕ) → count_to c (requests_of task pools t) ≡ answers_by task pools t c
          → count_to c (requests_of task pools (xs ++ t)) ≡ answers_by task pools (xs ++ t) c
      behind t c is =
          let many : length (replies_of (xs ++ t)) ≡ length (requests_of task pools xs) + length (replies_of t) =
          omega (arith, ap length (replies_join xs t), length-append (replies_of xs) (replies_of t), first.even) in
          ap (count_to c) (parts t) ∙ count_joined (is_to c) (requests_of task pools xs) (requests_of task pools t)
          ∙ ap (λ n. count_to c (requests_of task pools xs) + n) is
          ∙ sym (count_joined (is_to c) (requests_of task pools xs) (take (length (replies_of t)) (requests_of task pools t)))
          ∙ ap (count_to c) (sym (take-append-add (requests_of task pools xs) (requests_of task pools t) (length (replies_of t))))
          ∙ ap (λ rs. count_to c (take (length (requests_of task pools xs) + length (replies_of t)) rs)) (sym (parts t))
          ∙ ap (λ n. count_to c (take n (requests_of task pools (xs ++ t)))) (sym many)

      turns : AreAskedInTurn task pools (xs ++ ys)
      turns k number turn call at =
          elim (append_cases xs ys k (entry.Ask number turn call) at) [
            | inl early ↦
                let front : take k (xs ++ ys) ≡ take k xs =
                take-append-le k xs ys (let within = slice_get_within xs k (entry.Ask number turn call) early in omega (arith, within)) in
                subst (λ es. count_to (child_for pools (last_round task [] es) (called_stream task call)) (requests_of task pools es)
                ≡ answers_by task pools es (child_for pools (last_round task [] es) (called_stream task call))) (sym front)
                (first.in_turn k number turn call early)
            | inr later ↦
                let t : List Entry = take later.0 ys in
                let front : take k (xs ++ ys) ≡ xs ++ t =
                ap (λ n. take n (xs ++ ys)) later.1 ∙ take-append-add xs ys later.0 in
                let round : last_round task [] (xs ++ t) ≡ last_round task [] t =
                last_join task [] xs t ∙ ap (λ r. last_round task r t) first.closed in
                let c : ℕ = child_for pools (last_round task [] t) (called_stream task call) in
                let same : child_for pools (last_round task [] (xs ++ t)) (called_stream task call) ≡ c =
                ap (λ r. child_for pools r (called_stream task call)) round in
                subst (λ es. count_to (child_for pools (last_round task [] es) (called_stream task call)) (requests_of task pools es)
                ≡ answers_by task pools es (child_for pools (last_round task [] es) (called_stream task call))) (sym front)
                (subst (λ d. count_to d (requests_of task pools (xs ++ t)) ≡ answers_by task pools (xs ++ t) d) (sym same)
                (behind t c (second.in_turn later.0 number turn call later.2)))
          ]

      both : GoToPools task pools (xs ++ ys)
      both k r at =
          elim (append_cases (requests_of task pools xs) (requests_of task pools ys) k r (sym (ap (λ rs. slice_get rs k) (parts ys)) ∙ at)) [
            | inl early ↦ first.each k r early
            | inr later ↦ second.each later.0 r later.2
          ]

  lone_mark : (e : Entry) → is_mark e ≡ true → AreAskedInTurn task pools (e ∷ [])
  lone_mark e is zero number turn call at =
      let same : e ≡ entry.Ask number turn call = cc in
      absurd (let bad : false ≡ true = ap is_mark (sym same) ∙ is in cc)
  lone_mark e is (suc k) number turn call at = absurd (cc (at))

  mark_served : (e : Entry) → is_mark e ≡ true → AreServed (e ∷ [])
  mark_served (entry.Ask number turn call) is = absurd (cc)
  mark_served (entry.Got number tuples values) is = absurd (cc)
  mark_served (entry.Value number value) is = absurd (cc)
  mark_served (entry.End number) is = absurd (cc)
  mark_served e is = record { each = λ k r at. absurd (cc); closed = refl; even = refl; in_turn = lone_mark e is }

  marked_served : (e : Entry) (rest : List Entry) → is_mark e ≡ true → AreServed rest → AreServed (e ∷ rest)
  marked_served e rest is later = joined_served (e ∷ []) rest (mark_served e is) later

  answers_are : (n many : ℕ) (es : List Entry) → AreAnswers n many es → AreReplies es
  answers_are n zero [] are k e at = absurd (cc)
  answers_are n zero (x ∷ es) are k e at = absurd are
  answers_are n (suc many) [] are k e at = absurd are
  answers_are n (suc many) (x ∷ es) are zero e at = let same : x ≡ e = cc in ap is_answer (sym same) ∙ answer_is n x are.0
  answers_are n (suc many) (x ∷ es) are (suc k) e at = answers_are (n + 1) many es are.1 k e at

  answers_long : (n many : ℕ) (es : List Entry) → AreAnswers n many es → length es ≡ many
  answers_long n zero [] are = refl
  answers_long n zero (x ∷ es) are = absurd are
  answers_long n (suc many) [] are = absurd are
  answers_long n (suc many) (x ∷ es) are = ap suc (answers_long (n + 1) many es are.1)

  round_served : (before : List Entry) (list : List Instance) (answers : List Entry) → 0 < length list
      → fits (shares_of pools) list ≡ true → AreAnswers (asks_of before + 1) (length list) answers
      → NameStreams task (requests task before list ++ answers) → AreServed (requests task before list ++ answers)
  round_served before list answers some few right named =
      record { each = one; closed = closed; even = evens; in_turn = turns }
    where
      asks : List Entry
      asks = requests task before list

      replies : AreReplies answers
      replies = answers_are (asks_of before + 1) (length list) answers right

      only : requests_of task pools (asks ++ answers) ≡ requests_of task pools asks
      only =
          requests_join task pools [] asks answers
          ∙ ap (λ rs. requests_of task pools asks ++ rs) (no_requests task pools (last_round task [] asks) answers replies)
          ∙ append-nil (requests_of task pools asks)

      one : GoToPools task pools (asks ++ answers)
      one k r at =
          sent_one task pools fit able list k r.child few
          (sends_at task pools fit able before (asks_of before + 1) [] list (names_front task asks answers named) k r
          (sym (ap (λ rs. slice_get rs k) only) ∙ at))

      closed : last_round task [] (asks ++ answers) ≡ []
      closed =
          last_join task [] asks answers
          ∙ closed_by task (last_round task [] asks) answers replies
          (omega (arith, answers_long (asks_of before + 1) (length list) answers right, some))

      are_asks : AreAsks asks
      are_asks = requests_ask task before (asks_of before + 1) list

      evens : length (replies_of (asks ++ answers)) ≡ length (requests_of task pools (asks ++ answers))
      evens = omega (
        arith,
        ap length (replies_join asks answers ∙ ap (λ es. es ++ replies_of answers) (no_replies asks are_asks)),
        ap length (all_replies answers replies),
        answers_long (asks_of before + 1) (length list) answers right,
        ap length only,
        requests_long task pools [] asks are_asks,
        requests_many task before (asks_of before + 1) list,
      )

      turns : AreAskedInTurn task pools (asks ++ answers)
      turns k number turn call at =
          elim (append_cases asks answers k (entry.Ask number turn call) at) [
            | inl early ↦
                let within = slice_get_within asks k (entry.Ask number turn call) early in
                let front : take k (asks ++ answers) ≡ take k asks = take-append-le k asks answers (omega (arith, within)) in
                subst (λ es. count_to (child_for pools (last_round task [] es) (called_stream task call)) (requests_of task pools es)
                ≡ answers_by task pools es (child_for pools (last_round task [] es) (called_stream task call))) (sym front)
                (first_of_child k number turn call early)
            | inr later ↦
                absurd (let bad : is_answer (entry.Ask number turn call) ≡ true = replies later.0 (entry.Ask number turn call) later.2 in cc)
          ]
        where
          none_yet : (t : List Entry) → AreAsks t → (c : ℕ) → answers_by task pools t c ≡ 0
          none_yet t are c = ap (λ es. count_to c (take (length es) (requests_of task pools t))) (no_replies t are)

          requests_one : (m : ℕ) (r : Request) → slice_get (requests_of task pools asks) m ≡ Some r
              → (j : ℕ) × (q : Request) × (slice_get (requests_of task pools asks) j ≡ Some q) × (j ≡ m) × (q ≡ r)
          requests_one m r is = (m, r, is, refl, refl)

          sends : {m : ℕ} {r : Request}
              → ((j : ℕ) × (q : Request) × (slice_get (requests_of task pools asks) j ≡ Some q) × (j ≡ m) × (q ≡ r))
              → Sends task pools fit able [] list m r.child
          sends {m} {r} (j, q, is, place, own) =
              subst (λ n. Sends task pools fit able [] list n r.child) place
              (subst (λ (x : Request). Sends task pools fit able [] list j x.child) own
              (sends_at task pools fit able before (asks_of before + 1) [] list (names_front task asks answers named) j q is))

          there_at : (k number turn : ℕ) (call : Call) → slice_get asks k ≡ Some (entry.Ask number turn call)
              → slice_get (requests_of task pools asks) k
              ≡ Some (record {
                child = child_for pools (last_round task [] (take k asks)) (called_stream task call);
                number = number;
                turn = turn;
                call = call;
              })
          there_at k number turn call at =
              let next = take_next asks k (entry.Ask number turn call) at in
              let within = slice_get_within asks k (entry.Ask number turn call) at in
              let r : Request = record {
                child = child_for pools (last_round task [] (take k asks)) (called_stream task call);
                number = number;
                turn = turn;
                call = call;
              } in
              let fronts : AreAsks (take k asks) = λ m e there. are_asks m e (from_take asks k m e there).1 in
              let long : length (requests_of task pools (take k asks)) ≡ k =
              requests_long task pools [] (take k asks) fronts ∙ length-take-le k asks (omega (arith, within)) in
              let grew : take (suc k) (requests_of task pools asks) ≡ requests_of task pools (take k asks) ++ r ∷ [] =
              sym (requests_front task pools [] asks (suc k) are_asks) ∙ ap (requests_of task pools) next
              ∙ requests_join task pools [] (take k asks) (entry.Ask number turn call ∷ []) in
              (from_take (requests_of task pools asks) (suc k) k r
              (ap (λ rs. slice_get rs k) grew ∙ ap (slice_get (requests_of task pools (take k asks) ++ r ∷ [])) (sym long)
              ∙ get_at_length (requests_of task pools (take k asks)) r)).1

          apart_children : (k number turn : ℕ) (call : Call) → slice_get asks k ≡ Some (entry.Ask number turn call)
              → count_to (child_for pools (last_round task [] (take k asks)) (called_stream task call)) (requests_of task pools (take k asks)) ≡ 0
          apart_children k number turn call at =
              let c : ℕ = child_for pools (last_round task [] (take k asks)) (called_stream task call) in
              let own : slice_get (requests_of task pools asks) k
              ≡ Some (record { child = c; number = number; turn = turn; call = call }) = there_at k number turn call at in
              let front : requests_of task pools (take k asks) ≡ take k (requests_of task pools asks) =
              requests_front task pools [] asks k are_asks in
              none_to task pools fit able c (requests_of task pools (take k asks))
              (λ m r is same.
              let from = from_take (requests_of task pools asks) k m r (ap (λ rs. slice_get rs m) (sym front) ∙ is) in
              not_again task pools fit able list m k r.child few from.0 (sends (requests_one m r from.1)) (subst (Sends task pools fit able [] list k) (sym same)
              (sends (requests_one k (record { child = c; number = number; turn = turn; call = call }) own))))

          first_of_child : (k number turn : ℕ) (call : Call) → slice_get asks k ≡ Some (entry.Ask number turn call)
              → (let c : ℕ = child_for pools (last_round task [] (take k asks)) (called_stream task call) in
              count_to c (requests_of task pools (take k asks)) ≡ answers_by task pools (take k asks) c)
          first_of_child k number turn call at =
              let c : ℕ = child_for pools (last_round task [] (take k asks)) (called_stream task call) in
              apart_children k number turn call at ∙ sym (none_yet (take k asks) (λ m e there. are_asks m e (from_take asks k m e there).1) c)

  -- ---- batches

  module _ (limits : Limits) (shares : limits.pools ≡ shares_of pools) where
    rounds_served : (rounds : List (List Instance)) (list : List Instance) (before es : List Entry)
        → AreRounds limits.pools list rounds → AreRoundsRun task before rounds es → NameStreams task es → AreServed es
    rounds_served [] list before es none run named = subst AreServed (sym run) none_served
    rounds_served (round ∷ rounds) list before es
        (rest, parts, some, few, full, more) (now, later, es_is, (answers, now_is, right), run) named =
        let all = subst (NameStreams task) es_is named in
        let here = subst (NameStreams task) now_is (names_front task now later all) in
        subst AreServed (sym es_is)
        (joined_served now later
        (subst AreServed (sym now_is)
        (round_served before round answers some (sym (ap (λ ps. fits ps round) shares) ∙ few) right here))
        (rounds_served rounds rest (before ++ now) later more run (names_behind task now later all)))

    batch_served : (before now : List Entry) (list : List Instance) → IsBatch limits task before list now
        → NameStreams task now → AreServed now
    batch_served before now list batch named =
        rounds_served batch.rounds (take (calls_left limits before) list) before now batch.cut batch.run named

    -- behind a line
    behind_mark : (e : Entry) (rest now : List Entry) → now ≡ e ∷ rest → is_mark e ≡ true
        → (NameStreams task rest → AreServed rest) → NameStreams task now → AreServed now
    behind_mark e rest now is mark later named =
        subst AreServed (sym is)
        (marked_served e rest mark (later (names_behind task (e ∷ []) rest (subst (NameStreams task) is named))))

    level_served : (before now : List Entry) (cut : Bool) → IsLevel limits task before now cut → NameStreams task now → AreServed now
    level_served before now cut this =
        behind_mark entry.Level this.rest now this.is refl
        (batch_served (before ++ entry.Level ∷ []) this.rest this.list this.batch)

    fallback_served : (before : List Entry) (tried : List Instance) (now : List Entry) (cut : Bool)
        → IsFallback limits task before tried now cut → NameStreams task now → AreServed now
    fallback_served before tried now cut (reset first more) named = mark_served entry.Reset refl
    fallback_served before tried now cut (level this) named = level_served before now cut this named

    batches_served : (real : ℕ) (entries : List dreams.SupposedEntry) (sent : List Sent) (before now : List Entry) (after : List Sent) (cut : Bool)
        → AreBatches limits task real entries sent before now after cut → NameStreams task now → AreServed now
    batches_served real entries sent before now after cut (finished none) named = none_served
    batches_served real entries sent before now after cut (last next is more batch) named = batch_served before now _ batch named
    batches_served real entries sent before now after cut (further {now = first} {rest = rest} next is some all batch more) named =
        joined_served first rest (batch_served before first _ batch (names_front task first rest named))
        (batches_served real entries (sent ++ next) (before ++ first) rest after cut more (names_behind task first rest named))

    -- ---- turns

    dream_served : (asks : ℕ → List dreams.SupposedEntry → List Entry → List Entry → List Sent → Bool → Type 0)
        (tried : List Instance) (before now : List Entry) (next : List Instance) (cut : Bool)
        → ((real : ℕ) (entries : List dreams.SupposedEntry) (b n : List Entry) (s : List Sent) (c : Bool) → asks real entries b n s c
        → NameStreams task n → AreServed n)
        → IsDreamTurn limits task asks tried before now next cut → NameStreams task now → AreServed now
    dream_served asks tried before now next cut each this =
        behind_mark (entry.Dream this.uses this.steps) this.rest now this.is refl
        (each _ this.entries _ this.rest this.sent cut this.batches)

    empty_served : (tried : List Instance) (before now : List Entry) (next : List Instance) (cut : Bool)
        → IsEmptyTurn limits task tried before now next cut → NameStreams task now → AreServed now
    empty_served tried before now next cut this =
        behind_mark entry.Nothing this.rest now this.is refl
        (fallback_served (before ++ entry.Nothing ∷ []) tried this.rest cut this.fallback)

    retiring_served : (number : ℕ) (sent : List Sent) → AreServed (retiring number sent)
    retiring_served number [] = mark_served (entry.Retire number) refl
    retiring_served number (s ∷ sent) = none_served

    pick_served : (kept : Kept) (before now : List Entry) (next : Kept) (cut : Bool)
        → IsPickTurn limits task kept before now next cut → NameStreams task now → AreServed now
    pick_served kept before now next cut this =
        let end = retiring (this.place + 1) this.sent in
        behind_mark (entry.Pick (this.place + 1)) (this.batches ++ end) now this.is refl
        (λ named. joined_served this.batches end
        (batches_served this.skeleton.real this.skeleton.entries [] _ this.batches this.sent cut this.run
        (names_front task this.batches end named))
        (retiring_served (this.place + 1) this.sent))

    turn_served : (mode : Mode) (kept : Kept) (before now : List Entry) (next : Kept) (cut : Bool)
        → TurnOf mode limits task kept before now next cut → NameStreams task now → AreServed now
    turn_served Incremental kept before now next cut this = level_served before now cut this.0
    turn_served Focused kept before now next cut (inl this, same) =
        dream_served (IsFirstBatch limits task) kept.tried before now next.tried cut
        (λ real entries b n s c first. batch_served b n _ first.batch) this
    turn_served Focused kept before now next cut (inr this, same) = empty_served kept.tried before now next.tried cut this
    turn_served Binding kept before now next cut (inl this, same) =
        dream_served (λ real entries. AreBatches limits task real entries []) kept.tried before now next.tried cut
        (λ real entries b n s c run. batches_served real entries [] b n s c run) this
    turn_served Binding kept before now next cut (inr this, same) = empty_served kept.tried before now next.tried cut this
    turn_served Adaptive kept before now next cut (inl this) =
        behind_mark (entry.Dream this.uses this.steps) this.rest now this.is refl (pick_served _ _ this.rest next cut this.pick)
    turn_served Adaptive kept before now next cut (inr (inl this)) =
        behind_mark entry.Nothing this.rest now this.is refl (pick_served kept _ this.rest next cut this.pick)
    turn_served Adaptive kept before now next cut (inr (inr this)) = empty_served kept.tried before now this.tried cut this.turn

    turns_served : (mode : Mode) (kept : Kept) (before es : List Entry) (stage : Stage)
        → AreTurns limits task (TurnOf mode limits task) kept before es stage → ¬ (stage ≡ inside)
        → NameStreams task es → AreServed es
    turns_served mode kept before es stage none_left resting named = none_served
    turns_served mode kept before es stage (whole next {now = now} {rest = rest} may this more) resting named =
        joined_served now rest (turn_served mode kept before now next false this (names_front task now rest named))
        (turns_served mode next (before ++ now) rest stage more resting (names_behind task now rest named))
    turns_served mode kept before es stage (cut_off next may this) resting named =
        turn_served mode kept before es next true this named
    turns_served mode kept before es stage (stopped next more cut may this) resting named = absurd (resting refl)

-- the pools of the limits are those of the workers
shares_are : (ps : List Pool) → map rounds.share_of ps ≡ shares_of (map workers_of ps)
shares_are [] = refl
shares_are (p ∷ ps) = ap (λ qs. rounds.share_of p ∷ qs) (shares_are ps)

-- The requests of turns none of which stops inside: each stands behind the answers to all earlier ones of its child.
pub asked_in_turn : (task : Task) (head : Head) (entries : List Entry) (stage : Stage) → IsFit task → AreFitPools task (workers_in head)
    → IsLegal head.version task entries → AreTurnsOf head.mode (limits_of head) task entries stage → ¬ (stage ≡ inside)
    → AreAskedInTurn task (workers_in head) entries
asked_in_turn task head entries stage fit able legal turns resting =
    let served =
    turns_served task (workers_in head) fit able (limits_of head) (shares_are head.pools) head.mode nothing_kept [] entries stage
    (as_family head.mode (limits_of head) task entries stage turns) resting (legal_names task head.version entries legal) in
    served.in_turn

-- The requests of turns none of which stops inside.
pub go_to_pools : (task : Task) (head : Head) (entries : List Entry) (stage : Stage) → IsFit task → AreFitPools task (workers_in head)
    → IsLegal head.version task entries → AreTurnsOf head.mode (limits_of head) task entries stage → ¬ (stage ≡ inside)
    → GoToPools task (workers_in head) entries
go_to_pools task head entries stage fit able legal turns resting =
    let served =
    turns_served task (workers_in head) fit able (limits_of head) (shares_are head.pools) head.mode nothing_kept [] entries stage
    (as_family head.mode (limits_of head) task entries stage turns) resting (legal_names task head.version entries legal) in
    served.each
