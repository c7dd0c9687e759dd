-- A dream's batches, one after another, and what would go on as such.
use Rattle.std.proofs.Common.{◌≡◌, Contains, ℕ, ◌+◌, ◌<◌, ◌≤◌, arith, Bool, true, false, All, map, List, [], ◌++◌, length, drop, take, Option, Some, refl, sym, subst, ap, ◌∙◌, append_assoc}
use Rattle.std.proofs.lemmas.List.{append-nil, length-map, map-append}
use Rattle.std.proofs.lemmas.List.Prefix.{front_rest}
use Rattle.solve_run.specs.Batching.{Called, HasProgress, IsFrontOfBatches, RanBatches, RanSome, nexts}
use Rattle.dream_asks.proofs.NextLemmas.{sent_free}
use Rattle.dream_asks.proofs.ProgressLemmas.{numbered_instances, numbered_length}
use Rattle.dream_asks.specs.Next.{AreDuesOf, AreNext}
use Rattle.dream_asks.specs.Noting.{NotesAnswers}
use Rattle.dream_asks.specs.Progress.{IsProgress, Progress, numbered}
use Rattle.dream_asks.specs.declared.asks.DreamAsk.{DreamAsk}
use Rattle.instance_queue.specs.Level.{due_instances}
use Rattle.instance_queue.specs.declared.due.Due.{Due}
use Rattle.io_world.specs.Talks.{Event}
use Rattle.turn_run.proofs.TurnsLevelLemmas.{batch_cut}
use Rattle.turn_run.proofs.TurnsOutcomeLemmas.{all_known, notes_are}
use Rattle.turn_run.specs.Turns.{IsSure, cut_by}
use Rattle.lemmas.specs.Lists.{AreDistinct}
use Rattle.turn_laws.proofs.ModeBatchesLemmas.{batches_end}
use Rattle.round_run.specs.Batches.{EndsBatch}
use Rattle.round_run.specs.Resting.{RanBatch}
use Rattle.round_run.specs.Rolling.{IsFrontPart}
use Rattle.round_run.specs.declared.ending.Batch.{Batch}
use Rattle.round_run.specs.declared.ending.Batch.TheVariants.{CallsSpent, Done}
use Rattle.session_core.specs.Ready.{AreReady}
use Rattle.session_core.specs.Session.{IsLearnt, IsSession}
use Rattle.session_core.specs.State.{State}
use Rattle.task_model.specs.Dreams as dreams
use Rattle.task_model.specs.Known.{Known}
use Rattle.task_model.specs.Streams.{Note, yields_of}
use Rattle.task_model.specs.declared.stream.Instance.{Instance}
use Rattle.task_model.specs.declared.task.Task.{Task}
use Rattle.transcript_model.specs.Dreaming.{Sent, sent_instances}
use Rattle.transcript_model.specs.Legal.{IsLegal, asks_of}
use Rattle.transcript_model.specs.Rounds.{IsBatch, Share, calls_left, limits_of, share_of}
use Rattle.transcript_model.specs.Transcript.{names_of}
use Rattle.transcript_model.specs.Turns.{AreBatches, finished, further, is_cut, last}
use Rattle.transcript_model.specs.declared.entry.Entry.{Entry}
use Rattle.transcript_model.specs.declared.head.Head.{Head}
use Rattle.transcript_model.specs.declared.outcome.LimitKind.TheVariants.{Calls}
use Rattle.transcript_model.specs.declared.outcome.Outcome.TheVariants as outcome

-- ---- fronts

module _ (head : Head) (task : Task) (real : ℕ) (entries : List dreams.SupposedEntry)
    (work : All (λ (p : Share). 1 ≤ p.workers) (map share_of head.pools)) where
  -- no entry of them came yet
  pub front_here : (sent : List Sent) (before : List Entry) → IsFrontOfBatches head task real entries sent before before
  front_here sent before =
      let end = batches_end (limits_of head) task real entries work sent before in
      record { part = []; rest = end.now; is = sym (append-nil before); whole = (end.after, end.cut, end.batches) }

  module _ (sent : List Sent) (before : List Entry) (some : 0 < length (nexts task before real entries sent)) where
    abbrev next : List Sent
    next = nexts task before real entries sent

    -- some entries of the next batch came
    pub front_batch : (es : List Entry)
        → IsFrontPart before (IsBatch (limits_of head) task before (sent_instances (nexts task before real entries sent))) es
        → IsFrontOfBatches head task real entries sent before es
    front_batch es f = by (is_cut (limits_of head) before next) refl
      where
        by : (b : Bool) → is_cut (limits_of head) before (nexts task before real entries sent) ≡ b
            → IsFrontOfBatches head task real entries sent before es
        by true cut = record { part = f.part; rest = f.rest; is = f.is; whole = (_, true, last next refl cut f.whole) }
        by false whole =
            let end = batches_end (limits_of head) task real entries work (sent ++ next) (before ++ (f.part ++ f.rest)) in
            record {
              part = f.part;
              rest = f.rest ++ end.now;
              is = f.is;
              whole = (
                end.after,
                end.cut,
                subst (λ now. AreBatches (limits_of head) task real entries sent before now end.after end.cut)
                    (append_assoc f.part f.rest end.now) (further next refl some whole f.whole end.batches),
              );
            }

    -- the next batch came, and some entries of the others
    pub front_further : (now es : List Entry) → is_cut (limits_of head) before (nexts task before real entries sent) ≡ false
        → IsBatch (limits_of head) task before (sent_instances (nexts task before real entries sent)) now
        → IsFrontOfBatches head task real entries (sent ++ nexts task before real entries sent) (before ++ now) es
        → IsFrontOfBatches head task real entries sent before es
    front_further now es whole batch f = record {
      part = now ++ f.part;
      rest = f.rest;
      is = f.is ∙ append_assoc before now f.part;
      whole = (
        f.whole.0,
        f.whole.1,
        subst (λ xs. AreBatches (limits_of head) task real entries sent before xs f.whole.0 f.whole.1)
            (sym (append_assoc now f.part f.rest)) (further next refl some whole batch f.whole.2),
      );
    }

-- the same where the batches behind make a longer list whole
pub front_wider : (head : Head) (task : Task) (real : ℕ) (entries : List dreams.SupposedEntry) (sent first : List Sent)
    (start done before : List Entry)
    → before ≡ start ++ done
    → ((rest : List Entry) (after : List Sent) (cut : Bool)
    → AreBatches (limits_of head) task real entries sent before rest after cut
    → AreBatches (limits_of head) task real entries first start (done ++ rest) after cut)
    → (es : List Entry) → IsFrontOfBatches head task real entries sent before es → IsFrontOfBatches head task real entries first start es
front_wider head task real entries sent first start done before is goes_on es f = record {
  part = done ++ f.part;
  rest = f.rest;
  is = f.is ∙ ap (λ xs. xs ++ f.part) is ∙ append_assoc start done f.part;
  whole = (
    f.whole.0,
    f.whole.1,
    subst (λ now. AreBatches (limits_of head) task real entries first start now f.whole.0 f.whole.1)
        (sym (append_assoc done f.part f.rest)) (goes_on (f.part ++ f.rest) f.whole.0 f.whole.1 f.whole.2),
  );
}

-- ---- what is asked next

-- by what is known and noted these are asked next
pub record IsChosen (task : Task) (s : State) (p : Progress) (entries : List dreams.SupposedEntry) (asks : List DreamAsk) : Type 0 where
  pub known : Known
  pub notes : List Note
  pub known_is : known ≡ s.known
  pub notes_is : notes ≡ s.notes
  pub next : AreNext task known notes p entries asks

module _ (task : Task) (s : State) (works : s.failed ≡ false) (learnt : IsLearnt s) (h : IsSession task s)
    (p : Progress) (entries : List dreams.SupposedEntry) (asks : List DreamAsk) (chosen : IsChosen task s p entries asks) where
  next_of : (sent : List Sent) → IsProgress task s.entries p sent
      → numbered (asks_of s.entries + 1) asks ≡ nexts task s.entries p.real entries sent
  next_of sent is =
      chosen.next s.entries sent (asks_of s.entries + 1) (all_known task s works learnt h chosen.known chosen.known_is)
      (chosen.notes_is ∙ notes_are task s works learnt h) is

  nexts_long : (sent : List Sent) → IsProgress task s.entries p sent → length (nexts task s.entries p.real entries sent) ≡ length asks
  nexts_long sent is = ap length (sym (next_of sent is)) ∙ numbered_length asks (asks_of s.entries + 1)

  pub none_next : asks ≡ [] → (sent : List Sent) → IsProgress task s.entries p sent → nexts task s.entries p.real entries sent ≡ []
  none_next none sent is = sym (next_of sent is) ∙ ap (numbered (asks_of s.entries + 1)) none

  -- where these are the asks with their turns
  module _ (notes : List Note) (dues : List Due) (notes_is : notes ≡ s.notes) (of : AreDuesOf notes asks dues) where
    nexts_instances : (sent : List Sent) → IsProgress task s.entries p sent
        → sent_instances (nexts task s.entries p.real entries sent) ≡ due_instances dues
    nexts_instances sent is =
        ap sent_instances (sym (next_of sent is)) ∙ numbered_instances asks (asks_of s.entries + 1) ∙ sym of.instances

    dues_long : length dues ≡ length asks
    dues_long = omega (
      arith,
      ap length of.instances,
      length-map dues (λ (d : Due). d.instance),
      length-map asks (λ (a : DreamAsk). a.instance),
    )

    pub ready_next : HasProgress task s.entries p → AreReady task s.entries dues
    ready_next (sent, is) =
        let free = sent_free task s.entries p.real sent (asks_of s.entries + 1) (sent_instances sent) entries in
        let same = nexts_instances sent is in
        record {
          due = λ i m. (free.each i (subst (λ list. Contains list i) (sym same) m)).due;
          turns = subst (λ ns. All (λ (d : Due). d.turn ≡ yields_of ns d.instance) dues)
              (notes_is ∙ notes_are task s works learnt h) of.turns;
          distinct = subst AreDistinct same free.distinct;
        }

    module _ (head : Head) (some : 0 < length asks) (sent : List Sent) (is : IsProgress task s.entries p sent) where
      pub some_next : 0 < length (nexts task s.entries p.real entries sent)
      some_next = omega (arith, some, nexts_long sent is)

      -- the batch's front is one of the dream's batches
      pub front_next : (work : All (λ (q : Share). 1 ≤ q.workers) (map share_of head.pools)) (es : List Entry)
          → IsFrontPart s.entries (IsBatch (limits_of head) task s.entries (due_instances dues)) es
          → IsFrontOfBatches head task p.real entries sent s.entries es
      front_next work es f =
          front_batch head task p.real entries work sent s.entries some_next es
          (subst (λ list. IsFrontPart s.entries (IsBatch (limits_of head) task s.entries list) es) (sym (nexts_instances sent is)) f)

      module _ (new : State) (later : Progress) (tried joined : List Instance) (b : Batch) (ran : RanBatch task head dues s new b) where
        pub ran_next : length s.asked ≤ head.calls → later.real ≡ p.real
            → (b ≡ Done → IsProgress task new.entries later (sent ++ nexts task s.entries p.real entries sent))
            → (b ≡ Done → joined ≡ tried ++ due_instances dues)
            → RanSome head task p.real entries s new later tried joined sent b
        ran_next within stays noted joins = record {
          some = some_next;
          stays = stays;
          now = ran.more;
          pushed = ran.pushed;
          batch = subst (λ list. IsBatch (limits_of head) task s.entries list ran.more) (sym (nexts_instances sent is)) ran.batch;
          cut = batch_cut head task s.entries new.entries (length s.asked) (length new.asked) (length dues)
              (nexts task s.entries p.real entries sent) b h.counted within (nexts_long sent is ∙ sym dues_long) ran.ends;
          noted = noted;
          joins = λ e. joins e ∙ ap (λ is. tried ++ is) (sym (nexts_instances sent is));
        }

        -- memory is wanting behind a whole batch
        pub front_done : (work : All (λ (q : Share). 1 ≤ q.workers) (map share_of head.pools)) → length s.asked ≤ head.calls → b ≡ Done
            → IsFrontOfBatches head task p.real entries sent s.entries new.entries
        front_done work within done =
            let next = nexts task s.entries p.real entries sent in
            let cut = batch_cut head task s.entries new.entries (length s.asked) (length new.asked) (length dues) next b h.counted within
            (nexts_long sent is ∙ sym dues_long) ran.ends in
            subst (IsFrontOfBatches head task p.real entries sent s.entries) (sym ran.pushed)
            (front_further head task p.real entries work sent s.entries some_next ran.more (s.entries ++ ran.more)
            (sym cut ∙ ap cut_by done)
            (subst (λ list. IsBatch (limits_of head) task s.entries list ran.more) (sym (nexts_instances sent is)) ran.batch)
            (front_here head task p.real entries work (sent ++ next) (s.entries ++ ran.more)))

        -- what was answered is noted
        pub noted_next : (names : List (List ℕ)) (first from : ℕ) → b ≡ Done → IsLegal head.version task new.entries
            → length new.asked ≡ asks_of new.entries → names ≡ names_of task new.entries → first ≡ length s.asked + 1
            → from ≡ length s.entries → NotesAnswers names (drop from new.entries) first asks p later
            → IsProgress task new.entries later (sent ++ nexts task s.entries p.real entries sent)
        noted_next names first from done legal counted names_are first_is from_is notes_them =
            let behind : drop from new.entries ≡ ran.more =
            ap (λ n. drop n new.entries) from_is ∙ front_rest new.entries s.entries ran.more ran.pushed in
            let all : s.entries ++ drop from new.entries ≡ new.entries = ap (λ es. s.entries ++ es) behind ∙ sym ran.pushed in
            let ends = subst (EndsBatch task new.entries (length s.asked) (length new.asked) head.calls (length dues)) done ran.ends in
            let number : first ≡ asks_of s.entries + 1 = first_is ∙ ap (λ n. n + 1) h.counted in
            let there = notes_them head.version task s.entries sent (record {
              fit = h.fit;
              legal = subst (IsLegal head.version task) (sym all) legal;
              closed = h.none_open;
              first = number;
              many = omega (arith, ap asks_of all, counted, ends.0, h.counted, dues_long);
              names = names_are ∙ ap (names_of task) (sym all);
            }) is in
            subst (λ es. IsProgress task es later (sent ++ nexts task s.entries p.real entries sent)) all
            (subst (λ more. IsProgress task (s.entries ++ drop from new.entries) later (sent ++ more))
            (ap (λ n. numbered n asks) number ∙ next_of sent is) there)

      -- so many requests were made
      pub asks_next : (new : State) (was now : Option (List Event)) (b : Batch) → RanBatch task head dues s new b
          → length s.asked ≤ head.calls → (b ≡ CallsSpent → IsSure head task new.entries (outcome.Limit Calls))
          → Called head task s new was now (Some b)
      asks_next new was now Done ran within sure = (omega (arith, ran.ends.0, some, dues_long), ran.ends.1)
      asks_next new was now CallsSpent ran within sure =
          (omega (arith, ran.ends.0, within), λ left. omega (arith, ran.ends.0, left), sure refl)

-- ---- so far

-- These batches were run, behind which others make all of them whole.
pub record SoFar (head : Head) (task : Task) (real : ℕ) (entries : List dreams.SupposedEntry) (start now : State) (p : Progress)
    (tried joined : List Instance) : Type 0 where
  pub sent : List Sent
  pub progress : IsProgress task now.entries p sent
  pub done : List Entry
  pub pushed : now.entries ≡ start.entries ++ done
  pub on : (rest : List Entry) (after : List Sent) (cut : Bool)
      → AreBatches (limits_of head) task real entries sent now.entries rest after cut
      → AreBatches (limits_of head) task real entries [] start.entries (done ++ rest) after cut
  pub joins : joined ≡ tried ++ sent_instances sent

module _ (head : Head) (task : Task) (real : ℕ) (entries : List dreams.SupposedEntry) where
  pub so_far_none : (s : State) (p : Progress) (tried : List Instance) → IsProgress task s.entries p []
      → SoFar head task real entries s s p tried tried
  so_far_none s p tried none = record {
    sent = [];
    progress = none;
    done = [];
    pushed = sym (append-nil s.entries);
    on = λ rest after cut batches. batches;
    joins = sym (append-nil tried);
  }

  module _ (start now new : State) (p later : Progress) (tried before joined : List Instance)
      (so : SoFar head task real entries start now p tried before) where
    pub so_far_next : RanSome head task real entries now new later before joined so.sent Done
        → SoFar head task real entries start new later tried joined
    so_far_next ran = record {
      sent = so.sent ++ nexts task now.entries real entries so.sent;
      progress = ran.noted refl;
      done = so.done ++ ran.now;
      pushed = ran.pushed ∙ ap (λ es. es ++ ran.now) so.pushed ∙ append_assoc start.entries so.done ran.now;
      on = λ rest after cut batches.
          subst (λ es. AreBatches (limits_of head) task real entries [] start.entries es after cut)
          (sym (append_assoc so.done ran.now rest))
          (so.on (ran.now ++ rest) after cut
          (further (nexts task now.entries real entries so.sent) refl ran.some (sym ran.cut) ran.batch
          (subst (λ es. AreBatches (limits_of head) task real entries
          (so.sent ++ nexts task now.entries real entries so.sent) es rest after cut)
          ran.pushed batches)));
      joins = ran.joins refl ∙ ap (λ is. is ++ sent_instances (nexts task now.entries real entries so.sent)) so.joins
          ∙ append_assoc tried (sent_instances so.sent) (sent_instances (nexts task now.entries real entries so.sent))
          ∙ ap (λ is. tried ++ is)
          (sym (map-append (λ (x : Sent). x.instance) so.sent (nexts task now.entries real entries so.sent)));
    }

    -- nothing is left to ask
    pub ran_all : nexts task now.entries real entries so.sent ≡ [] → new ≡ now → joined ≡ before
        → RanBatches head task real entries start new tried joined Done
    ran_all none same same_tried = record {
      now = so.done ++ [];
      pushed = ap (λ (s : State). s.entries) same ∙ so.pushed ∙ ap (λ es. start.entries ++ es) (sym (append-nil so.done));
      after = so.sent;
      batches = so.on [] so.sent false (finished none);
      joins = λ e. same_tried ∙ so.joins;
      sure = λ e. absurd (let bad : Done ≡ CallsSpent = e in cc);
    }

    -- calls were wanting
    pub ran_cut : RanSome head task real entries now new later before joined so.sent CallsSpent
        → IsSure head task new.entries (outcome.Limit Calls) → RanBatches head task real entries start new tried joined CallsSpent
    ran_cut ran sure = record {
      now = so.done ++ ran.now;
      pushed = ran.pushed ∙ ap (λ es. es ++ ran.now) so.pushed ∙ append_assoc start.entries so.done ran.now;
      after = so.sent ++ take (calls_left (limits_of head) now.entries) (nexts task now.entries real entries so.sent);
      batches = so.on ran.now _ true (last (nexts task now.entries real entries so.sent) refl (sym ran.cut) ran.batch);
      joins = λ e. absurd (let bad : CallsSpent ≡ Done = e in cc);
      sure = λ e. sure;
    }
