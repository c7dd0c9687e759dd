-- The judge of a transcript goes on behind an entry that is neither a request nor an answer.
use Rattle.std.proofs.Common.{◌≡◌, ℕ, ◌+◌, ◌-◌, ◌≤◌, Bool, true, false, List, [], ◌∷◌, ◌++◌, take, length, nat_lt, cond, count_by, refl, sym, ap, subst, ◌∙◌, arith}
use Rattle.std.proofs.lemmas.Bool.{true≢false, false_from_ne_true}
use Rattle.std.proofs.lemmas.List.{length-take, nil_from_length}
use Rattle.dream_asks.specs.Next.{asked_instances}
use Rattle.dream_asks.specs.Progress.{numbered}
use Rattle.instance_queue.specs.Level.{due_instances}
use Rattle.instance_queue.specs.declared.due.Due.{Due}
use Rattle.course_check.specs.BatchAgendas.{Agenda, Starts}
use Rattle.course_check.proofs.StepsLemmas.{phases_differ}
use Rattle.course_check.specs.Agendas.{BeginsBatch, KeepsRun, ModeAgenda, MovesOn, is_undreamt, left_behind, mode_place_in, with_run}
use Rattle.course_check.specs.Places.{AwaitsPhase, IsModeStep, Phase, is_repeated, undreamt}
use Rattle.course_check.specs.Running.{made_by, sent_of}
use Rattle.lemmas.proofs.Counts.{count_joined, count_one}
use Rattle.task_model.specs.Dreams as dreams
use Rattle.task_model.specs.Known.{Known}
use Rattle.task_model.specs.Streams.{AreDue, Note}
use Rattle.task_model.specs.declared.stream.Instance.{Instance}
use Rattle.task_model.specs.declared.task.Task.{Task}
use Rattle.learning.specs.Knowledge.{IsKnowledge}
use Rattle.learning.specs.declared.knowledge.Knowledge.{Knowledge}
use Rattle.transcript_model.proofs.LegalLemmas.{grows, mark_answers, mark_follows}
use Rattle.transcript_model.proofs.LegalPrefixLemmas.{asked-kept}
use Rattle.transcript_model.proofs.LegalStepLemmas.{mark_adds}
use Rattle.transcript_model.specs.Laws.{AddsMark}
use Rattle.transcript_model.specs.Legal.{HasNoneOpen, asks_of, is_answer, is_mark, is_open}
use Rattle.transcript_model.specs.Rounds.{Limits}
use Rattle.transcript_model.specs.Transcript.{known_of, notes_of}
use Rattle.transcript_model.specs.Turns.{Kept, MayBegin}
use Rattle.transcript_model.specs.declared.entry.Entry.{Entry}
use Rattle.replay_check.proofs.StandingsAnswerLemmas.{behind_dreams, starts_counted}
use Rattle.replay_check.proofs.StandingsAskLemmas.{one_step}
use Rattle.replay_check.specs.Standings.{StandsBehind}

module _ (limits : Limits) (task : Task) (entries : List Entry) (l : Knowledge) (a : ModeAgenda)
    (s : StandsBehind limits task entries l a) (e : Entry) (mark : is_mark e ≡ true) where
  pub adds : AddsMark task entries (entries ++ e ∷ [])
  adds = mark_adds limits.version task entries s.knowledge.fit.problem.objects.names.distinct s.knowledge.legal e mark

  -- it tells nothing
  pub mark_knowledge : IsKnowledge limits.version task (entries ++ e ∷ []) l
  mark_knowledge =
      let h = s.knowledge in
      record {
        fit = h.fit;
        legal = (grows limits.version task entries).next e h.legal (mark_follows limits.version task entries e mark);
        known = h.known ∙ sym adds.same.known;
        notes = h.notes ∙ sym adds.same.notes;
        counted = h.counted ∙ sym adds.asks;
        asks = λ k i at. let r = h.asks k i at in
            record {
              stream = r.stream;
              streamed = r.streamed;
              asks = asked-kept task entries (e ∷ []) (k + 1) (record { stream = r.stream; instance = i }) r.asks;
            };
        unanswered = λ m. h.unanswered m ∙ sym (adds.waiting m);
        answered = let was = h.answered in
            let same = adds.asks in
            let joined : count_by is_answer (entries ++ e ∷ []) ≡ count_by is_answer entries + 0 =
            count_joined is_answer entries (e ∷ [])
            ∙ ap (λ n. count_by is_answer entries + n) (count_one is_answer e ∙ ap (λ b. cond b 1 0) (mark_answers e mark)) in
            omega (arith, was, same, joined);
      }

  -- where a turn could begin, it still can
  pub may_behind : MayBegin limits task entries → MayBegin limits task (entries ++ e ∷ [])
  may_behind may =
      let same = adds.asks in
      let left = may.left in
      record {
        list = may.list;
        due = subst (λ (k : Known). AreDue task k (notes_of task (entries ++ e ∷ [])) may.list) (sym adds.same.known)
            (subst (λ (ns : List Note). AreDue task (known_of task entries) ns may.list) (sym adds.same.notes) may.due);
        some = may.some;
        few = may.few;
        left = omega (arith, same, left);
      }

  -- where nothing was open, nothing is
  none_waits : {A : Type 0} → a.batch.answers ≡ 0 → (m : ℕ) → is_open (entries ++ e ∷ []) m ≡ true → A
  none_waits idle m waits =
      let r = s.counts.answered m (sym (adds.waiting m) ∙ waits) in
      let count = s.counts.count in
      let few = s.counts.some in
      absurd (omega (arith, r.0, r.1, count, idle, few))

  pub closed_behind : a.batch.answers ≡ 0 → HasNoneOpen (entries ++ e ∷ [])
  closed_behind idle m = false_from_ne_true (is_open (entries ++ e ∷ []) m) (λ waits. none_waits idle m waits)

  module _ (b : ModeAgenda) (idle : a.batch.answers ≡ 0)
      (step : IsModeStep limits task entries (mode_place_in task entries a) e (mode_place_in task (entries ++ e ∷ []) b)) where
    -- a batch begins behind it
    pub batch_onward : (list : List Instance) (number : ℕ) (cut : Bool) → Starts limits.pools list number cut b.batch
        → number ≡ asks_of entries + 1 → asks_of entries + length list ≤ limits.calls → KeepsRun limits.calls (entries ++ e ∷ []) b
        → (b.phase ≡ undreamt → ⊥) → StandsBehind limits task (entries ++ e ∷ []) l b
    batch_onward list number cut begins next bound run dreams =
        let same = adds.asks in
        record {
          knowledge = mark_knowledge;
          leads = one_step limits task entries l a s e (mode_place_in task (entries ++ e ∷ []) b) step;
          counts = starts_counted limits.pools limits.calls (entries ++ e ∷ []) list number cut b.batch begins
              (omega (arith, next, same)) (omega (arith, bound, same)) (λ m waits. none_waits idle m waits);
          run = run;
          dreamless = λ is. absurd (dreams is);
        }

    -- a batch begins behind it, behind which comes the next turn
    pub begun_onward : (dues : List Due) (kept : Kept) → BeginsBatch limits.pools dues (asks_of entries) limits.calls kept b
        → StandsBehind limits task (entries ++ e ∷ []) l b
    begun_onward dues kept begins =
        let most = limits.calls - asks_of entries in
        let bound = s.counts.left in
        let taken = length-take most (due_instances dues) in
        batch_onward (take most (due_instances dues)) (asks_of entries + 1) (nat_lt most (length dues)) begins.batch refl
        (omega (arith, bound, taken)) (λ repeats. absurd (true≢false (sym repeats ∙ ap is_repeated begins.phase_is)))
        (λ is. phases_differ (sym begins.phase_is ∙ is))

    -- a batch of a dream begins behind it
    pub moves_onward : (known : Known) (notes : List Note) (over : Phase) (needs : List dreams.SupposedEntry) (real from before : ℕ)
        (middle : ModeAgenda) → is_undreamt over ≡ false → before ≡ asks_of entries
        → MovesOn task known notes [] limits.pools over limits.calls (with_run a needs real from before) middle
        → b.batch ≡ middle.batch → b.phase ≡ middle.phase → KeepsRun limits.calls (entries ++ e ∷ []) b
        → StandsBehind limits task (entries ++ e ∷ []) l b
    moves_onward known notes over needs real from before middle other counted m batch phase run =
        let old = (with_run a needs real from before).run in
        let most = left_behind limits.calls old in
        let list = take most (asked_instances m.asks) in
        let cut = nat_lt most (length m.asks) in
        let bound = s.counts.left in
        let taken = length-take most (asked_instances m.asks) in
        batch_onward list (made_by old + 1) cut
        (subst (λ (x : Agenda). Starts limits.pools list (made_by old + 1) cut x) (sym batch) m.begins.batch)
        (omega (arith, counted)) (omega (arith, bound, taken, counted)) run
        (λ is. true≢false (sym (ap is_undreamt (sym m.begins.phase_is ∙ sym phase ∙ is))
        ∙ behind_dreams over cut old.real old.entries (sent_of old) (numbered (made_by old + 1) m.asks) other))

    -- none begins behind it
    pub mark_onward : b.batch ≡ a.batch → is_repeated b.phase ≡ false
        → (b.phase ≡ undreamt
        → AwaitsPhase (mode_place_in task (entries ++ e ∷ []) b) undreamt × MayBegin limits task (entries ++ e ∷ []))
        → StandsBehind limits task (entries ++ e ∷ []) l b
    mark_onward batch no_run dreamless =
        let same = adds.asks in
        let count = s.counts.count in
        let bound = s.counts.left in
        let few = s.counts.some in
        let b_next = ap (λ (x : Agenda). x.next) batch in
        let b_answers = ap (λ (x : Agenda). x.answers) batch in
        let b_asks = ap (λ (x : Agenda). length x.to_ask) batch in
        let b_later = ap (λ (x : Agenda). length x.later) batch in
        record {
          knowledge = mark_knowledge;
          leads = one_step limits task entries l a s e (mode_place_in task (entries ++ e ∷ []) b) step;
          counts = record {
            count = omega (arith, b_next, b_answers, b_asks, same, count);
            left = omega (arith, b_asks, b_later, same, bound);
            some = omega (arith, b_asks, b_answers, few);
            waiting = λ m from upto. absurd (omega (arith, from, upto, b_next, same, count, idle, few));
            answered = λ m waits. none_waits idle m waits;
          };
          run = λ repeats. absurd (true≢false (sym repeats ∙ no_run));
          dreamless = dreamless;
        }

  -- nothing is to be asked where nothing is open
  pub idle_asks : a.batch.answers ≡ 0 → a.batch.to_ask ≡ []
  idle_asks idle = let few = s.counts.some in nil_from_length a.batch.to_ask (omega (arith, few, idle))
