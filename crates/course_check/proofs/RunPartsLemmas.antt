-- The batches of a dream, from their entries: up to where they are over, or to where the entries stop in them.
use Rattle.std.proofs.Common.{◌≡◌, ℕ, zero, suc, ◌<◌, ◌≤◌, inl, inr, All, Bool, true, false, List, [], ◌∷◌, ◌++◌, length, take, refl, sym, ap, subst, ◌∙◌, arith, append_assoc}
use Rattle.std.proofs.lemmas.Bool.{ltb-false, true≢false}
use Rattle.std.proofs.lemmas.List.{append-nil, length-append, length-map, map-append, take_all}
use Rattle.course_check.specs.Courses.{Course, Leads}
use Rattle.course_check.proofs.BatchesLemmas.{Parts, only_batches, over, over_run, parts, still, still_run}
use Rattle.course_check.proofs.OpensLemmas.{AreRun}
use Rattle.course_check.proofs.RunsLemmas.{at_rest, opens_none, phase_cut, phase_more, phase_none}
use Rattle.course_check.proofs.StepsLemmas.{nothing_more}
use Rattle.course_check.specs.Places.{AwaitsPhase, IsCutOff, LeadsOn, Phase, ModePlace, RunsNext, Settles, asked_next, is_repeated, joining, moves, repeated, resting, sent_next, stays, with_batch}
use Rattle.turn_laws.proofs.ModeBatchesLemmas.{batches_end}
use Rattle.task_model.specs.Dreams as dreams
use Rattle.task_model.specs.declared.stream.Instance.{Instance}
use Rattle.task_model.specs.declared.task.Task.{Task}
use Rattle.transcript_model.specs.Dreaming.{Sent, sent_instances}
use Rattle.transcript_model.specs.Rounds.{IsBatch, Limits, Share, calls_left}
use Rattle.transcript_model.specs.Turns.{AreBatches, Kept, finished, further, is_cut, last}
use Rattle.transcript_model.specs.declared.entry.Entry.{Entry}

rest_repeated : (real : ℕ) (entries : List dreams.SupposedEntry) (sent : List Sent) → resting ≡ repeated real entries sent → ⊥
rest_repeated real entries sent e = absurd (cc)

module _ (limits : Limits) (task : Task) where
  -- where no batch comes by itself, the place stays
  pub rest_stays : (p after : ModePlace) (before : List Entry) → p.phase ≡ resting → Settles limits task before p after → after ≡ p
  rest_stays p after before rests (stays s is) = is
  rest_stays p after before rests (moves real entries sent a r) =
      absurd (rest_repeated real entries sent (sym rests ∙ a.phase_is))

  -- where a batch of a dream is over, its next one begins
  pub repeated_moves : (p after : ModePlace) (before : List Entry) (real : ℕ) (entries : List dreams.SupposedEntry) (sent : List Sent)
      → AwaitsPhase p (repeated real entries sent) → Settles limits task before p after
      → RunsNext limits task resting real before entries sent p.kept after
  repeated_moves p after before real entries sent w (stays (inl some) is) =
      let none = w.answered in absurd (omega (arith, some, none))
  repeated_moves p after before real entries sent w (stays (inr other) is) =
      absurd (true≢false (sym (ap is_repeated w.phase_is) ∙ other))
  repeated_moves p after before real entries sent w (moves also others more a r) =
      let same : repeated also others more ≡ repeated real entries sent = sym a.phase_is ∙ w.phase_is in
      let reals : also ≡ real = cc in
      let lists : others ≡ entries = cc in
      let sents : more ≡ sent = cc in
      subst (λ (n : ℕ). RunsNext limits task resting n before entries sent p.kept after) reals
      (subst (λ (l : List dreams.SupposedEntry). RunsNext limits task resting also before l sent p.kept after) lists
      (subst (λ (l : List Sent). RunsNext limits task resting also before others l p.kept after) sents r))

  module _ (real : ℕ) (entries : List dreams.SupposedEntry) (base : Kept) where
    -- The entries run batches of the dream, of which these were asked: all of them, and others follow; all as far as calls
    -- are left; or they stop in them.
    pub data RunParts (sent : List Sent) (before es : List Entry) (q : ModePlace) : Type 0 where
      run_over : (now rest : List Entry) (after : List Sent) (end : Course) → es ≡ now ++ rest
          → AreBatches limits task real entries sent before now after false → end.answers ≡ 0 → end.is_cut ≡ false
          → LeadsOn limits task (at_rest end (joining base (sent_instances after))) (before ++ now) rest q
          → RunParts sent before es q
      run_cut : (after : List Sent) → AreBatches limits task real entries sent before es after true → IsCutOff q
          → RunParts sent before es q
      run_still : (more : List Entry) (after : List Sent) (cut : Bool)
          → AreBatches limits task real entries sent before (es ++ more) after cut → 0 < q.batch.answers
          → RunParts sent before es q

    -- one batch in front
    further_on : (sent next : List Sent) (before now rest es : List Entry) (q : ModePlace) → es ≡ now ++ rest
        → next ≡ sent_next task real before entries sent → 0 < length next → is_cut limits before next ≡ false
        → IsBatch limits task before (sent_instances next) now → RunParts (sent ++ next) (before ++ now) rest q
        → RunParts sent before es q
    further_on sent next before now rest es q is next_is some whole batch (run_over first later after end rest_is run none uncut leads) =
        run_over (now ++ first) later after end
        (is ∙ ap (λ xs. now ++ xs) rest_is ∙ sym (append_assoc now first later))
        (further next next_is some whole batch run) none uncut
        (subst (λ xs. LeadsOn limits task (at_rest end (joining base (sent_instances after))) xs later q)
        (append_assoc before now first) leads)
    further_on sent next before now rest es q is next_is some whole batch (run_cut after run cut) =
        run_cut after
        (subst (λ xs. AreBatches limits task real entries sent before xs after true) (sym is)
        (further next next_is some whole batch run)) cut
    further_on sent next before now rest es q is next_is some whole batch (run_still more after cut run open_yet) =
        run_still more after cut
        (subst (λ xs. AreBatches limits task real entries sent before xs after cut)
        (sym (ap (λ xs. xs ++ more) is ∙ append_assoc now rest more))
        (further next next_is some whole batch run)) open_yet

    module _ (workers : All (λ (s : Share). 1 ≤ s.workers) limits.pools) where
      -- that the batches of shorter lists of entries are parted so
      abbrev PartsShorter : ℕ → Type 0
      PartsShorter n =
          (sent : List Sent) (before es : List Entry) (p q : ModePlace) → length es < n
          → RunsNext limits task resting real before entries sent (joining base (sent_instances sent)) p
          → LeadsOn limits task p before es q → RunParts sent before es q

      module _ (sent : List Sent) (before es : List Entry) (p q : ModePlace)
          (r : RunsNext limits task resting real before entries sent (joining base (sent_instances sent)) p)
          (leads : LeadsOn limits task p before es q) where
        abbrev next : List Sent
        next = sent_next task real before entries sent

        abbrev list : List Instance
        list = asked_next limits task real before entries sent

        abbrev kept : Kept
        kept = joining (joining base (sent_instances sent)) list

        -- the batch as the definition of turns has it
        batch_of : (now : List Entry) → AreRun limits task before list now → IsBatch limits task before (sent_instances next) now
        batch_of now run = record { rounds = run.0; cut = run.1; run = run.2 }

        -- where calls are wanting
        cut_parts : is_cut limits before next ≡ true → p ≡ at_rest r.batch kept → RunParts sent before es q
        cut_parts own is =
            by (parts limits task (at_rest r.batch kept) before es q r.batch.answers (inr refl) refl
            (subst (λ (x : ModePlace). LeadsOn limits task x before es q) is leads))
          where
            by : Parts limits task (at_rest r.batch kept) before es q → RunParts sent before es q
            by (over now rest m after es_is run none settles later) =
                let o = over_run limits task workers before list (is_cut limits before next) r.batch r.opens now m run none in
                let at : ModePlace = at_rest m kept in
                let same : after ≡ at = rest_stays at after (before ++ now) refl settles in
                let end = nothing_more limits task at q (before ++ now) rest none (o.1 ∙ own)
                (subst (λ (x : ModePlace). LeadsOn limits task x (before ++ now) rest q) same later) in
                let all : now ≡ es = sym (es_is ∙ ap (λ xs. now ++ xs) end.0 ∙ append-nil now) in
                run_cut (sent ++ take (calls_left limits before) next)
                (subst (λ xs. AreBatches limits task real entries sent before xs
                (sent ++ take (calls_left limits before) next) true) all (last next refl own (batch_of now o.0)))
                (subst IsCutOff end.1 (record { phase_is = refl; answered = none; cut = o.1 ∙ own }))
            by (still run some) =
                let s = still_run limits task workers before list (is_cut limits before next) r.batch r.opens es q.batch run some in
                run_still s.0 (sent ++ take (calls_left limits before) next) true (last next refl own (batch_of (es ++ s.0) s.1)) some

        -- where nothing may be asked
        none_parts : next ≡ [] → p ≡ at_rest r.batch kept → RunParts sent before es q
        none_parts none is =
            let o = opens_none limits task real before entries sent r.batch r.opens none in
            let same : kept ≡ joining base (sent_instances sent) =
            ap (λ is. joining (joining base (sent_instances sent)) is) o.0
            ∙ (λ i. record { tried = append-nil (base.tried ++ sent_instances sent) i; skeletons = base.skeletons }) in
            run_over [] es sent r.batch refl (finished none) o.1 o.2
            (subst (λ xs. LeadsOn limits task (at_rest r.batch (joining base (sent_instances sent))) xs es q) (sym (append-nil before))
            (subst (λ (k : Kept). LeadsOn limits task (at_rest r.batch k) before es q) same
            (subst (λ (x : ModePlace). LeadsOn limits task x before es q) is leads)))

        -- where others may follow
        more_parts : (n : ℕ) → PartsShorter n → length es < suc n → 0 < length next → is_cut limits before next ≡ false
            → p ≡ record { batch = r.batch; phase = repeated real entries (sent ++ next); kept = kept }
            → RunParts sent before es q
        more_parts n shorter few some whole is =
            by (parts limits task begun before es q r.batch.answers (inl some_open) refl
            (subst (λ (x : ModePlace). LeadsOn limits task x before es q) is leads))
          where
            begun : ModePlace
            begun = record { batch = r.batch; phase = repeated real entries (sent ++ next); kept = kept }

            are : sent_instances next ≡ list
            are =
                let short = ltb-false (calls_left limits before) (length next) whole in
                sym (take_all (calls_left limits before) (sent_instances next)
                (omega (arith, short, length-map next (λ (s : Sent). s.instance))))

            some_open : 0 < r.batch.answers
            some_open =
                let long : 0 < length list =
                subst (λ (is : List Instance). 0 < length is) are
                (omega (arith, some, length-map next (λ (s : Sent). s.instance))) in
                let round = r.opens.some long in
                omega (arith, round, ap (λ (c : Course). c.answers) r.opens.is)

            kept_is : kept ≡ joining base (sent_instances (sent ++ next))
            kept_is =
                let tried : (base.tried ++ sent_instances sent) ++ list ≡ base.tried ++ sent_instances (sent ++ next) =
                append_assoc base.tried (sent_instances sent) list
                ∙ ap (λ l. base.tried ++ l)
                (ap (λ l. sent_instances sent ++ l) (sym are) ∙ sym (map-append (λ (s : Sent). s.instance) sent next)) in
                λ i. record { tried = tried i; skeletons = base.skeletons }

            -- the batch has entries
            long_now : (now : List Entry) (m : Course) → Leads (only_batches limits) task r.batch before now m → m.answers ≡ 0
                → 0 < length now
            long_now [] m run none =
                let open_yet = some_open in
                let same = ap (λ (c : Course). c.answers) run in
                absurd (omega (arith, open_yet, same, none))
            long_now (e ∷ now) m run none = omega arith

            by : Parts limits task begun before es q → RunParts sent before es q
            by (over now rest m after es_is run none settles later) =
                let o = over_run limits task workers before list (is_cut limits before next) r.batch r.opens now m run none in
                let runs = repeated_moves (with_batch begun m) after (before ++ now) real entries (sent ++ next)
                (record { phase_is = refl; answered = none; uncut = o.1 ∙ whole }) settles in
                let long = long_now now m run none in
                let short : length rest < n = omega (arith, few, ap length es_is, length-append now rest, long) in
                further_on sent next before now rest es q es_is refl some whole (batch_of now o.0)
                (shorter (sent ++ next) (before ++ now) rest after q short
                (subst (λ (k : Kept). RunsNext limits task resting real (before ++ now) entries (sent ++ next) k after) kept_is runs)
                later)
            by (still run open_yet) =
                let s = still_run limits task workers before list (is_cut limits before next) r.batch r.opens es q.batch run open_yet in
                let e = batches_end limits task real entries workers (sent ++ next) (before ++ (es ++ s.0)) in
                run_still (s.0 ++ e.now) e.after e.cut
                (subst (λ xs. AreBatches limits task real entries sent before xs e.after e.cut) (append_assoc es s.0 e.now)
                (further next refl some whole (batch_of (es ++ s.0) s.1) e.batches)) open_yet

        -- by what is asked next
        by_next : (n : ℕ) → PartsShorter n → length es < suc n → (l : List Sent) (b : Bool) → next ≡ l
            → is_cut limits before next ≡ b → RunParts sent before es q
        by_next n shorter few [] b none own =
            none_parts none
            (r.after_is ∙ ap (λ (f : Phase). record { batch = r.batch; phase = f; kept = kept })
            (phase_none (is_cut limits before next) real entries sent next none))
        by_next n shorter few (s ∷ l) true is own =
            cut_parts own
            (r.after_is ∙ ap (λ (f : Phase). record { batch = r.batch; phase = f; kept = kept })
            (phase_cut (is_cut limits before next) real entries sent next own))
        by_next n shorter few (s ∷ l) false is own =
            let some : 0 < length next = subst (λ (xs : List Sent). 0 < length xs) (sym is) (omega arith) in
            more_parts n shorter few some own
            (r.after_is ∙ ap (λ (f : Phase). record { batch = r.batch; phase = f; kept = kept })
            (phase_more (is_cut limits before next) real entries sent next own some))

      -- entries of which there are fewer than so many
      pub run_parts : (n : ℕ) (sent : List Sent) (before es : List Entry) (p q : ModePlace) → length es < n
          → RunsNext limits task resting real before entries sent (joining base (sent_instances sent)) p
          → LeadsOn limits task p before es q → RunParts sent before es q
      run_parts zero sent before es p q few r leads = absurd (omega (arith, few))
      run_parts (suc n) sent before es p q few r leads =
          by_next sent before es p q r leads n (run_parts n) few
          (sent_next task real before entries sent) (is_cut limits before (sent_next task real before entries sent)) refl refl
