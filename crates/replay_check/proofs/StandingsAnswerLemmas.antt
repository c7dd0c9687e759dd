-- The judge of a transcript goes on behind an answer.
use Rattle.std.proofs.Common.{◌≡◌, ℕ, zero, suc, ◌+◌, ◌-◌, ◌<◌, ◌≤◌, ◌==◌, ◌⊎◌, inl, inr, nat_lt, Bool, true, false, not, ◌&&◌, List, [], ◌∷◌, ◌++◌, length, take, refl, sym, ap, subst, ◌∙◌, Some, arith, eq-eqb}
use Rattle.std.proofs.lemmas.Bool.{and_parts, cases_lt, true≢false, ne_eqb}
use Rattle.std.proofs.lemmas.List.{length-append, length-take}
use Rattle.dream_asks.specs.Next.{asked_instances}
use Rattle.dream_asks.specs.Progress.{numbered}
use Rattle.lemmas.proofs.Bools.{and_not_parts, zero_and_not}
use Rattle.course_check.specs.BatchAgendas.{Agenda, IsAnswered, Starts, is_over, place_in}
use Rattle.course_check.specs.Courses.{GivesAnswer}
use Rattle.course_check.proofs.KeepsLemmas.{run_answered, run_settled}
use Rattle.course_check.proofs.MovesLemmas.{settle_made, starts_open}
use Rattle.course_check.specs.Agendas.{HasSettled, KeepsRun, ModeAgenda, is_to_settle, is_undreamt, left_behind, mode_place_in, with_agenda}
use Rattle.course_check.specs.Places.{LeadsOn, Phase, at_start, goes_on, is_repeated, phase_behind, resting, undreamt}
use Rattle.course_check.specs.Running.{made_by, sent_of}
use Rattle.pools.specs.Pools.{HaveWorkers}
use Rattle.learning.proofs.LearningLemmas.{answers_to}
use Rattle.task_model.specs.Dreams as dreams
use Rattle.task_model.specs.declared.stream.Instance.{Instance}
use Rattle.task_model.specs.declared.task.Task.{Task}
use Rattle.learning.proofs.KnowledgeLemmas.{asked_here}
use Rattle.learning.specs.Knowledge.{IsKnowledge}
use Rattle.learning.specs.declared.knowledge.Knowledge.{Knowledge}
use Rattle.transcript_model.proofs.LegalStepLemmas.{answer_adds}
use Rattle.transcript_model.specs.Dreaming.{Sent}
use Rattle.transcript_model.specs.Laws.{AddsAnswer}
use Rattle.transcript_model.specs.Legal.{MayFollow, answered_number, asks_of, is_answer_to, is_ask, is_open}
use Rattle.transcript_model.specs.Rounds.{Limits, Share, requests_from}
use Rattle.transcript_model.specs.Transcript.{Asked, asked}
use Rattle.transcript_model.specs.declared.entry.Entry.{Entry}
use Rattle.transcript_model.specs.declared.entry.Entry.TheVariants as entry
use Rattle.replay_check.proofs.StandingsAskLemmas.{not_dreamless, one_step}
use Rattle.replay_check.specs.Standings.{IsCounted, StandsBehind}

-- an answer isn't a request
no_request : (e : Entry) (n : ℕ) → answered_number e ≡ Some n → is_ask e ≡ false
no_request (entry.Got m tuples values) n is = refl
no_request (entry.Value m value) n is = refl
no_request (entry.End m) n is = refl
no_request (entry.Ask m turn call) n is = absurd (cc)
no_request entry.Level n is = absurd (cc)
no_request (entry.Dream uses steps) n is = absurd (cc)
no_request entry.Nothing n is = absurd (cc)
no_request entry.Reset n is = absurd (cc)
no_request (entry.Pick m) n is = absurd (cc)
no_request (entry.Retire m) n is = absurd (cc)

-- ---- a round that begins

-- where nothing is open, and no more are to come than calls are left
pub starts_counted : (pools : List Share) (calls : ℕ) (es : List Entry) (list : List Instance) (number : ℕ) (cut : Bool) (b : Agenda)
    → Starts pools list number cut b → number ≡ asks_of es + 1 → asks_of es + length list ≤ calls
    → ((m : ℕ) → is_open es m ≡ true → ⊥) → IsCounted calls es b
starts_counted pools calls es list number cut b st next bound none =
    let b_next : b.next ≡ number = ap (λ (x : Agenda). x.next) st.is in
    let answers : b.answers ≡ length st.round = ap (λ (x : Agenda). x.answers) st.is in
    let here : length b.to_ask ≡ length st.round = ap (λ (x : Agenda). length x.to_ask) st.is in
    let later : length b.later ≡ length st.rest = ap (λ (x : Agenda). length x.later) st.is in
    let all : length list ≡ length st.round + length st.rest = ap length st.parts ∙ length-append st.round st.rest in
    record {
      count = omega (arith, b_next, answers, here, next);
      left = omega (arith, here, later, all, bound);
      some = omega (arith, answers, here);
      waiting = λ m from upto. absurd (omega (arith, from, upto, b_next, next));
      answered = λ m waits. absurd (none m waits);
    }

-- where the want of a dream doesn't come behind a dream's last batch, it comes behind none
pub behind_dreams : (over : Phase) (cut : Bool) (real : ℕ) (entries : List dreams.SupposedEntry) (sent next : List Sent)
    → is_undreamt over ≡ false → is_undreamt (phase_behind over cut real entries sent next) ≡ false
behind_dreams over cut real entries sent [] other = other
behind_dreams over true real entries sent (s ∷ next) other = refl
behind_dreams over false real entries sent (s ∷ next) other = refl

-- ---- one answer more

module _ (limits : Limits) (task : Task) (entries : List Entry) (l : Knowledge) (a : ModeAgenda) (s : StandsBehind limits task entries l a)
    (n : ℕ) (e : Entry) (is : answered_number e ≡ Some n) (next : n ≡ a.batch.next) (none : a.batch.to_ask ≡ [])
    (some : 0 < a.batch.answers) (may : MayFollow limits.version task entries e) (workers : HaveWorkers limits.pools)
    (few : limits.calls ≤ 100000) where
  abbrev after : List Entry
  after = entries ++ e ∷ []

  no_more : length a.batch.to_ask ≡ 0
  no_more = ap length none

  few_asked : length l.asked.items ≤ 100000
  few_asked =
      let counted = s.knowledge.counted in let left = s.counts.left in omega (arith, counted, left, few)

  here : (r : Asked) × (asked task entries n ≡ Some r)
  here = asked_here limits.version task entries l e n s.knowledge few_asked is may

  gives : AddsAnswer task entries e n here.0
  gives = answer_adds limits.version task entries s.knowledge.fit.problem.objects.names.distinct s.knowledge.legal n here.0 here.1 e
      (answers_to e n is)

  still_waits : (m : ℕ) → a.batch.next + 1 ≤ m → m ≤ asks_of after → is_open after m ≡ true
  still_waits m from upto =
      let same = gives.asks in
      let was : is_open entries m ≡ true = s.counts.waiting m (omega (arith, from)) (omega (arith, upto, same)) in
      let other : (m == n) ≡ false = ne_eqb m n (λ is_n. omega (arith, is_n, next, from)) in
      gives.waiting m ∙ (λ k. was k && not (other k))

  waits_yet : (m : ℕ) → is_open after m ≡ true → (a.batch.next + 1 ≤ m) × (m ≤ asks_of after)
  waits_yet m waits =
      let parts = and_not_parts (is_open entries m) (m == n) (sym (gives.waiting m) ∙ waits) in
      let was = s.counts.answered m parts.0 in
      let same = gives.asks in
      let later : a.batch.next + 1 ≤ m = by (cases_lt a.batch.next m) parts.1 was.0 in
      (later, omega (arith, was.1, same))
    where
      by : (a.batch.next < m) ⊎ (m ≤ a.batch.next) → (m == n) ≡ false → a.batch.next ≤ m → a.batch.next + 1 ≤ m
      by (inl lt) other from = omega (arith, lt)
      by (inr le) other from =
          let is_n : m ≡ n = omega (arith, le, from, next) in
          absurd (true≢false (sym (eq-eqb m n is_n) ∙ other))

  answer_is : is_answer_to a.batch.next e ≡ true
  answer_is = subst (λ m. is_answer_to m e ≡ true) next (answers_to e n is)

  -- the number of the next request, behind the last answer of a round
  last_number : a.batch.answers ≡ 1 → a.batch.next + 1 ≡ asks_of after + 1
  last_number one =
      let count = s.counts.count in let same = gives.asks in omega (arith, count, same, one, no_more)

  -- ---- where the batch is then

  module _ (b : Agenda) (answered : IsAnswered limits.pools a.batch b) where
    more_gives : 1 < a.batch.answers → GivesAnswer limits task entries (place_in task entries a.batch) e (place_in task after b)
    more_gives many =
        let left = less many in
        subst (λ (x : Agenda). GivesAnswer limits task entries (place_in task entries a.batch) e (place_in task after x))
        (sym (answered.more many))
        (record {
          asked = ap (requests_from task entries (asks_of entries + 1)) none;
          left = suc left.0;
          answers = left.1;
          to = answer_is;
          behind = λ k. record {
            asks = requests_from task after (asks_of after + 1) (none k);
            next = a.batch.next + 1;
            answers = one_less left.0 left.1 k;
            later = a.batch.later;
            is_cut = a.batch.is_cut;
          };
        })
      where
        less : 1 < a.batch.answers → (k : ℕ) × (a.batch.answers ≡ suc (suc k))
        less lt = from a.batch.answers lt
          where
            from : (m : ℕ) → 1 < m → (k : ℕ) × (m ≡ suc (suc k))
            from zero lt = absurd (omega (arith, lt))
            from (suc zero) lt = absurd (omega (arith, lt))
            from (suc (suc k)) lt = (k, refl)

        one_less : (k : ℕ) → a.batch.answers ≡ suc (suc k) → a.batch.answers - 1 ≡ suc k
        one_less k e = omega (arith, e)

    last_gives : a.batch.answers ≡ 1 → GivesAnswer limits task entries (place_in task entries a.batch) e (place_in task after b)
    last_gives one =
        record {
          asked = ap (requests_from task entries (asks_of entries + 1)) none;
          left = 0;
          answers = one;
          to = answer_is;
          behind = starts_open limits task after a.batch.later (a.batch.next + 1) a.batch.is_cut b workers (last_number one)
              (answered.last one);
        }

    gives_answer : GivesAnswer limits task entries (place_in task entries a.batch) e (place_in task after b)
    gives_answer = by (cases_lt 1 a.batch.answers)
      where
        by : (1 < a.batch.answers) ⊎ (a.batch.answers ≤ 1)
            → GivesAnswer limits task entries (place_in task entries a.batch) e (place_in task after b)
        by (inl lt) = more_gives lt
        by (inr le) = last_gives (omega (arith, le, some))

    counts : IsCounted limits.calls after b
    counts = by (cases_lt 1 a.batch.answers)
      where
        by : (1 < a.batch.answers) ⊎ (a.batch.answers ≤ 1) → IsCounted limits.calls after b
        by (inl lt) =
            let count = s.counts.count in
            let same = gives.asks in
            let bound = s.counts.left in
            subst (λ (x : Agenda). IsCounted limits.calls after x) (sym (answered.more lt))
            (record {
              count = omega (arith, count, same, lt);
              left = omega (arith, bound, same);
              some = omega (arith, no_more);
              waiting = still_waits;
              answered = waits_yet;
            })
        by (inr le) =
            let one : a.batch.answers ≡ 1 = omega (arith, le, some) in
            let number = last_number one in
            let same = gives.asks in
            let bound = s.counts.left in
            starts_counted limits.pools limits.calls after a.batch.later (a.batch.next + 1) a.batch.is_cut b (answered.last one) number
            (omega (arith, bound, same, no_more))
            (λ m waits. let r = waits_yet m waits in omega (arith, r.0, r.1, number))

    pub keeps : KeepsRun limits.calls after (with_agenda a b)
    keeps repeats =
        run_answered limits.calls entries e a (s.run repeats) limits.pools b workers (no_request e n is) none some answered

    -- ---- where the place has moved on by itself

    module _ (new : Knowledge) (c : ModeAgenda) (knowledge : IsKnowledge limits.version task after new)
        (settled : HasSettled task new.facts.known new.queue after limits.pools limits.calls (with_agenda a b) c) where
      settled_leads : LeadsOn limits task at_start [] after (mode_place_in task after c)
      settled_leads =
          one_step limits task entries l a s e (mode_place_in task after c)
          (goes_on (place_in task after b) (inr gives_answer)
          (settle_made limits task after (with_agenda a b) c limits.version new.facts.known new.queue knowledge.fit knowledge.legal
          knowledge.known knowledge.notes keeps workers settled))

      -- nothing is open where the next batch begins
      moved_counts : is_to_settle (with_agenda a b) ≡ true → IsCounted limits.calls after c.batch
      moved_counts settles =
          let both = and_parts (is_over b) (is_repeated a.phase) settles in
          let over = zero_and_not b.answers b.is_cut both.0 in
          let r = keeps both.1 in
          let empty = r.whole over.0 in
          let made = r.made in
          let left = r.left in
          let m = settled.moves settles in
          let most = left_behind limits.calls a.run in
          let list = take most (asked_instances m.asks) in
          let taken = length-take most (asked_instances m.asks) in
          let all : asks_of after ≡ made_by a.run = omega (arith, made, ap length empty.0, ap length empty.1) in
          starts_counted limits.pools limits.calls after list (made_by a.run + 1) (nat_lt most (length m.asks)) c.batch m.begins.batch
          (omega (arith, all)) (omega (arith, all, left, taken))
          (λ m waits.
          let within = counts.answered m waits in
          let count = counts.count in
          omega (arith, within.0, within.1, count, over.0, ap length empty.0))

      settled_counts : IsCounted limits.calls after c.batch
      settled_counts = by (is_to_settle (with_agenda a b)) refl
        where
          by : (x : Bool) → is_to_settle (with_agenda a b) ≡ x → IsCounted limits.calls after c.batch
          by false rests = subst (λ (x : ModeAgenda). IsCounted limits.calls after x.batch) (sym (settled.stays rests)) counts
          by true settles = moved_counts settles

      settled_dreams : c.phase ≡ undreamt → ⊥
      settled_dreams dreamless = by (is_to_settle (with_agenda a b)) refl
        where
          by : (x : Bool) → is_to_settle (with_agenda a b) ≡ x → ⊥
          by false rests =
              not_dreamless limits task entries l a s some (sym (ap (λ (x : ModeAgenda). x.phase) (settled.stays rests)) ∙ dreamless)
          by true settles =
              let m = settled.moves settles in
              let most = left_behind limits.calls a.run in
              true≢false (sym (ap is_undreamt (sym m.begins.phase_is ∙ dreamless))
              ∙ behind_dreams resting (nat_lt most (length m.asks)) a.run.real a.run.entries (sent_of a.run)
              (numbered (made_by a.run + 1) m.asks) refl)

      pub answer_onward : StandsBehind limits task after new c
      answer_onward =
          record {
            knowledge = knowledge;
            leads = settled_leads;
            counts = settled_counts;
            run = run_settled limits.pools workers limits.calls after task new.facts.known new.queue (with_agenda a b) c keeps settled;
            dreamless = λ dreamless. absurd (settled_dreams dreamless);
          }
