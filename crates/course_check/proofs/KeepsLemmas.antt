-- What holds of a dream whose batches are run, entry by entry.
use Rattle.std.proofs.Common.{◌≡◌, ◌⊎◌, ℕ, ◌+◌, ◌<◌, ◌≤◌, inl, inr, nat_lt, Bool, true, false, List, [], ◌∷◌, ◌++◌, length, take, refl, sym, ap, subst, ◌∙◌, arith}
use Rattle.std.proofs.Math.Seq.{take-length}
use Rattle.std.proofs.lemmas.Bool.{and_parts, cases_lt, ltb-false, true≢false}
use Rattle.std.proofs.lemmas.List.{length-append, length-drop, length-map, length-take, nil_from_length, take-append-le}
use Rattle.dream_asks.specs.Next.{asked_instances}
use Rattle.dream_asks.specs.Progress.{numbered}
use Rattle.dream_asks.specs.declared.asks.DreamAsk.{DreamAsk}
use Rattle.lemmas.proofs.Bools.{zero_and_not}
use Rattle.course_check.specs.BatchAgendas.{Agenda, IsAnswered, Starts, is_over, with_answer, with_asked}
use Rattle.course_check.proofs.NextLemmas.{sent_more}
use Rattle.course_check.proofs.OpensLemmas.{asks_asked}
use Rattle.course_check.specs.Agendas.{BeginsNext, HasPicked, HasSettled, KeepsRun, ModeAgenda, MovesOn, RunsBehind, is_to_settle, left_behind, with_agenda, with_run}
use Rattle.course_check.specs.Places.{Phase, is_repeated, phase_behind, repeated, resting, unasked}
use Rattle.course_check.specs.Running.{Run, made_by, sent_of}
use Rattle.pools.specs.Pools.{HaveWorkers}
use Rattle.task_model.specs.Dreams as dreams
use Rattle.task_model.specs.Known.{Known}
use Rattle.task_model.specs.Streams.{Note}
use Rattle.task_model.specs.declared.stream.Instance.{Instance}
use Rattle.task_model.specs.declared.task.Task.{Task}
use Rattle.transcript_model.proofs.LegalNumberLemmas.{asks_marked}
use Rattle.transcript_model.specs.Dreaming.{Sent}
use Rattle.transcript_model.specs.Legal.{HasNoneOpen, asks_of, is_ask}
use Rattle.transcript_model.specs.Rounds.{Share}
use Rattle.transcript_model.specs.Turns.{Skeleton}
use Rattle.transcript_model.specs.declared.entry.Entry.{Entry}

-- a further batch may come only where this one has some and isn't cut
phase_repeats : (over : Phase) (cut : Bool) (real : ℕ) (entries : List dreams.SupposedEntry) (sent next : List Sent)
    → is_repeated over ≡ false → is_repeated (phase_behind over cut real entries sent next) ≡ true
    → (cut ≡ false) × (phase_behind over cut real entries sent next ≡ repeated real entries (sent ++ next))
phase_repeats over cut real entries sent [] not_over is = absurd (true≢false (sym is ∙ not_over))
phase_repeats over true real entries sent (s ∷ next) not_over is = absurd (cc)
phase_repeats over false real entries sent (s ∷ next) not_over is = (refl, refl)

-- ---- a round that begins

module _ (pools : List Share) (list : List Instance) (number : ℕ) (cut : Bool) (b : Agenda) (st : Starts pools list number cut b) where
  pub starts_long : length b.to_ask + length b.later ≡ length list
  starts_long =
      let here = ap (λ (x : Agenda). length x.to_ask) st.is in
      let later = ap (λ (x : Agenda). length x.later) st.is in
      let all = ap length st.parts ∙ length-append st.round st.rest in
      omega (arith, here, later, all)

  -- where it wants no answer, the whole list is empty
  starts_whole : HaveWorkers pools → b.answers ≡ 0 → (b.to_ask ≡ []) × (b.later ≡ [])
  starts_whole workers none =
      let answers = ap (λ (x : Agenda). x.answers) st.is in
      let empty : length list ≤ 0 = by answers (cases_lt 0 (length list)) in
      let long = starts_long in (
        nil_from_length b.to_ask (omega (arith, long, empty)),
        nil_from_length b.later (omega (arith, long, empty)),
      )
    where
      by : b.answers ≡ length st.round → (0 < length list) ⊎ (length list ≤ 0) → length list ≤ 0
      by answers (inl some) = let round = st.some workers some in absurd (omega (arith, round, answers, none))
      by answers (inr empty) = empty

-- ---- entries of a batch

module _ (calls : ℕ) (entries : List Entry) (e : Entry) (a : ModeAgenda) (r : RunsBehind calls entries a) where
  front_same : take a.run.from (entries ++ e ∷ []) ≡ take a.run.from entries
  front_same = take-append-le a.run.from entries (e ∷ []) r.from

  entry_more : (b : Agenda) → b.is_cut ≡ false
      → asks_of (entries ++ e ∷ []) + length b.to_ask + length b.later ≡ made_by a.run
      → (b.answers ≡ 0 → (b.to_ask ≡ []) × (b.later ≡ [])) → RunsBehind calls (entries ++ e ∷ []) (with_agenda a b)
  entry_more b uncut made whole =
      let from = r.from in
      record {
        phase_is = r.phase_is;
        uncut = uncut;
        from = omega (arith, from, length-append entries (e ∷ []));
        closed = subst HasNoneOpen (sym front_same) r.closed;
        before = r.before ∙ ap asks_of (sym front_same);
        made = made;
        left = r.left;
        whole = whole;
      }

  pub run_asked : is_ask e ≡ true → 0 < length a.batch.to_ask → 0 < a.batch.answers
      → RunsBehind calls (entries ++ e ∷ []) (with_agenda a (with_asked a.batch))
  run_asked ask some waits =
      let made = r.made in
      entry_more (with_asked a.batch) r.uncut
      (omega (arith, asks_asked entries e ask, length-drop 1 a.batch.to_ask, some, made))
      (λ none. absurd (omega (arith, none, waits)))

  pub run_answered : (pools : List Share) (b : Agenda) → HaveWorkers pools → is_ask e ≡ false → a.batch.to_ask ≡ []
      → 0 < a.batch.answers → IsAnswered pools a.batch b → RunsBehind calls (entries ++ e ∷ []) (with_agenda a b)
  run_answered pools b workers mark asked some h = by (cases_lt 1 a.batch.answers)
    where
      same : asks_of (entries ++ e ∷ []) ≡ asks_of entries
      same = asks_marked entries e mark

      by : (1 < a.batch.answers) ⊎ (a.batch.answers ≤ 1) → RunsBehind calls (entries ++ e ∷ []) (with_agenda a b)
      by (inl more) =
          let made = r.made in
          subst (λ (x : Agenda). RunsBehind calls (entries ++ e ∷ []) (with_agenda a x)) (sym (h.more more))
          (entry_more (with_answer a.batch) r.uncut (omega (arith, same, made)) (λ none. absurd (omega (arith, none, more))))
      by (inr low) =
          let st = h.last (omega (arith, low, some)) in
          let made = r.made in
          let long = starts_long pools a.batch.later (a.batch.next + 1) a.batch.is_cut b st in
          entry_more b (ap (λ (x : Agenda). x.is_cut) st.is ∙ r.uncut)
          (omega (arith, same, made, long, ap length asked))
          (starts_whole pools a.batch.later (a.batch.next + 1) a.batch.is_cut b st workers)

-- ---- a batch that begins

module _ (pools : List Share) (workers : HaveWorkers pools) (calls : ℕ) (entries : List Entry) where
  run_begun : (over : Phase) (asks : List DreamAsk) (old new : ModeAgenda) → is_repeated over ≡ false
      → old.run.from ≤ length entries → HasNoneOpen (take old.run.from entries)
      → old.run.before ≡ asks_of (take old.run.from entries) → asks_of entries ≡ made_by old.run → made_by old.run ≤ calls
      → BeginsNext pools over asks calls old new → KeepsRun calls entries new
  run_begun over asks old new not_over from closed before made left begins repeats =
      let n = left_behind calls old.run in
      let list = take n (asked_instances asks) in
      let cut = nat_lt n (length asks) in
      let next = numbered (made_by old.run + 1) asks in
      let is = phase_repeats over cut old.run.real old.run.entries (sent_of old.run) next not_over
      (sym (ap is_repeated begins.phase_is) ∙ repeats) in
      let st = begins.batch in
      let short = ltb-false n (length asks) is.0 in
      let long = starts_long pools list (made_by old.run + 1) cut new.batch st in
      let taken = length-take n (asked_instances asks) in
      let mapped = length-map asks (λ (x : DreamAsk). x.instance) in
      let joined = length-append old.run.asks asks in
      subst (λ (r : Run). RunsBehind calls entries
      (record { batch = new.batch; phase = new.phase; kept = new.kept; run = r })) (sym begins.run_is)
      (record {
        phase_is = begins.phase_is ∙ is.1 ∙ ap (repeated old.run.real old.run.entries) (sym (sent_more old.run asks));
        uncut = ap (λ (x : Agenda). x.is_cut) st.is ∙ is.0;
        from = from;
        closed = closed;
        before = before;
        made = omega (arith, made, long, taken, mapped, short, joined);
        left = omega (arith, left, short, joined);
        whole = starts_whole pools list (made_by old.run + 1) cut new.batch st workers;
      })

  module _ (task : Task) (known : Known) (notes : List Note) where
    -- the place has moved on by itself, where it had to
    pub run_settled : (a new : ModeAgenda) → KeepsRun calls entries a
        → HasSettled task known notes entries pools calls a new → KeepsRun calls entries new
    run_settled a new keeps h = by (is_to_settle a) refl
      where
        by : (b : Bool) → is_to_settle a ≡ b → KeepsRun calls entries new
        by false is = subst (KeepsRun calls entries) (sym (h.stays is)) keeps
        by true is =
            let both = and_parts (is_over a.batch) (is_repeated a.phase) is in
            let over = zero_and_not a.batch.answers a.batch.is_cut both.0 in
            let r = keeps both.1 in
            let none = r.whole over.0 in
            let made = r.made in
            let moves = h.moves is in
            run_begun resting moves.asks a new refl r.from r.closed r.before
            (omega (arith, made, ap length none.0, ap length none.1)) r.left moves.begins

    module _ (closed : HasNoneOpen entries) (left : asks_of entries ≤ calls) where
      begins_here : (over : Phase) (a new : ModeAgenda) (needs : List dreams.SupposedEntry) (real : ℕ) → is_repeated over ≡ false
          → MovesOn task known notes [] pools over calls (with_run a needs real (length entries) (asks_of entries)) new
          → KeepsRun calls entries new
      begins_here over a new needs real not_over m =
          let whole = take-length entries in
          run_begun over m.asks (with_run a needs real (length entries) (asks_of entries)) new not_over (omega arith)
          (subst HasNoneOpen (sym whole) closed) (ap asks_of (sym whole)) (omega arith) (omega (arith, left)) m.begins

      -- the batches of a dream begin, whose line is the last entry
      pub run_followed : (a new : ModeAgenda) (needs : List dreams.SupposedEntry) (real : ℕ)
          → MovesOn task known notes [] pools resting calls (with_run a needs real (length entries) (asks_of entries)) new
          → KeepsRun calls entries new
      run_followed a new needs real m = begins_here resting a new needs real refl m

      -- the batches of a skeleton begin, whose pick is the last entry
      pub run_picked : (a new : ModeAgenda) (place : ℕ) (s : Skeleton)
          → HasPicked task known notes pools place s (length entries) (asks_of entries) calls a new → KeepsRun calls entries new
      run_picked a new place s h repeats =
          let r = begins_here (unasked place) a h.middle s.entries s.real refl h.moves (ap is_repeated (sym h.phase_is) ∙ repeats) in
          subst (λ (x : Run). RunsBehind calls entries
          (record { batch = new.batch; phase = new.phase; kept = new.kept; run = x })) (sym h.run_is)
          (subst (λ (x : Phase). RunsBehind calls entries
          (record { batch = new.batch; phase = x; kept = new.kept; run = h.middle.run })) (sym h.phase_is)
          (subst (λ (x : Agenda). RunsBehind calls entries
          (record { batch = x; phase = h.middle.phase; kept = new.kept; run = h.middle.run })) (sym h.batch_is)
          (record {
            phase_is = r.phase_is;
            uncut = r.uncut;
            from = r.from;
            closed = r.closed;
            before = r.before;
            made = r.made;
            left = r.left;
            whole = r.whole;
          })))
