-- The judge of a transcript goes on behind a request.
use Rattle.std.proofs.Common.{◌≡◌, ℕ, ◌+◌, ◌<◌, ◌≤◌, ◌==◌, ◌⊎◌, inl, inr, true, false, ◌||◌, List, [], ◌∷◌, ◌++◌, drop, length, refl, sym, ap, ◌∙◌, Some, slice_get, arith, eq-eqb, eqb-true}
use Rattle.std.proofs.lemmas.Bool.{cases_lt, or_cases}
use Rattle.std.specs.List.{list_any}
use Rattle.lemmas.proofs.Bools.{or_true}
use Rattle.course_check.specs.BatchAgendas.{place_in, with_asked}
use Rattle.course_check.proofs.KeepsLemmas.{run_asked}
use Rattle.course_check.proofs.StepsLemmas.{leads_on_then}
use Rattle.course_check.specs.Agendas.{ModeAgenda, mode_place_in, nothing_begun, with_agenda}
use Rattle.course_check.specs.Places.{IsModeStep, LeadsOn, ModePlace, at_start, goes_on, stays, undreamt}
use Rattle.task_model.specs.Known.{Known}
use Rattle.task_model.specs.Streams.{yields_of}
use Rattle.task_model.specs.declared.stream.Instance.{Instance}
use Rattle.task_model.specs.declared.task.Task.{Task}
use Rattle.learning.specs.Knowledge.{IsKnowledge}
use Rattle.learning.specs.declared.knowledge.Knowledge.{Knowledge}
use Rattle.transcript_model.proofs.LegalNumberLemmas.{next_is_fresh}
use Rattle.transcript_model.proofs.LegalStepLemmas.{request_adds}
use Rattle.transcript_model.specs.Laws.{AddsRequest}
use Rattle.transcript_model.specs.Legal.{IsRightAsk, asks_of, is_ask_of, is_open}
use Rattle.transcript_model.specs.Names.{call_of_instance}
use Rattle.transcript_model.specs.Rounds.{Limits, requests_from}
use Rattle.transcript_model.specs.Transcript.{names_of, notes_of}
use Rattle.transcript_model.specs.declared.entry.Call.{Call}
use Rattle.transcript_model.specs.declared.entry.Entry.{Entry}
use Rattle.transcript_model.specs.declared.entry.Entry.TheVariants as entry
use Rattle.replay_check.specs.Standings.{IsCounted, IsNextRequest, StandsBehind}

-- ---- lists

head_is : {A : Type 0} (xs : List A) (x : A) → slice_get xs 0 ≡ Some x → xs ≡ x ∷ drop 1 xs
head_is [] x at = absurd (cc)
head_is (y ∷ ys) x at = let same : y ≡ x = cc in ap (λ z. z ∷ ys) same

-- ---- requests of the open round

-- the requests are the same where the names and the notes are
requests_same : (task : Task) (before after : List Entry) (number : ℕ) (is : List Instance)
    → names_of task after ≡ names_of task before
    → notes_of task after ≡ notes_of task before → requests_from task after number is ≡ requests_from task before number is
requests_same task before after number [] names notes = refl
requests_same task before after number (i ∷ is) names notes =
    let rest = requests_same task before after (number + 1) is names notes in
    λ k. entry.Ask number (yields_of (notes k) i) (call_of_instance task (names k) i) ∷ rest k

-- ---- before the first entry

pub stands_first : (limits : Limits) (task : Task) (l : Knowledge) → IsKnowledge limits.version task [] l
    → StandsBehind limits task [] l nothing_begun
stands_first limits task l knowledge =
    record {
      knowledge = knowledge;
      leads = refl;
      counts = record {
        count = refl;
        left = omega arith;
        some = omega arith;
        waiting = λ n from upto. absurd (omega (arith, from, upto));
        answered = λ n waits. absurd (cc);
      };
      run = λ is. absurd (cc);
      dreamless = λ is. absurd (cc);
    }

-- ---- one entry more

module _ (limits : Limits) (task : Task) (entries : List Entry) (l : Knowledge) (a : ModeAgenda)
    (s : StandsBehind limits task entries l a) where
  pub one_step : (e : Entry) (after : ModePlace) → IsModeStep limits task entries (mode_place_in task entries a) e after
      → LeadsOn limits task at_start [] (entries ++ e ∷ []) after
  one_step e after step =
      leads_on_then limits task at_start [] entries (e ∷ []) (mode_place_in task entries a) after s.leads (after, step, refl)

  -- while something of the batch is open, the want of a dream isn't the last entry
  pub not_dreamless : {A : Type 0} → 0 < a.batch.answers → a.phase ≡ undreamt → A
  not_dreamless some is =
      let none = (s.dreamless is).0.answered in absurd (omega (arith, some, none))

  module _ (number turn : ℕ) (call : Call) (n : IsNextRequest task l a.batch number turn call)
      (right : IsRightAsk task entries number turn call) where
    abbrev request : Entry
    request = entry.Ask number turn call

    head_asked : a.batch.to_ask ≡ n.instance ∷ drop 1 a.batch.to_ask
    head_asked = head_is a.batch.to_ask n.instance n.head

    is_longer : length a.batch.to_ask ≡ length (drop 1 a.batch.to_ask) + 1
    is_longer =
        let e : length a.batch.to_ask ≡ length (n.instance ∷ drop 1 a.batch.to_ask) = ap length head_asked in omega (arith, e)

    request_is : request
        ≡ entry.Ask (asks_of entries + 1) (yields_of (notes_of task entries) n.instance)
        (call_of_instance task (names_of task entries) n.instance)
    request_is =
        n.is
        ∙ (λ k. entry.Ask (s.knowledge.counted k + 1)
        (yields_of (s.knowledge.notes k) n.instance) (call_of_instance task (s.knowledge.known k).names n.instance))

    adds : AddsRequest task entries (entries ++ request ∷ []) number
        (record { stream = right.due.stream; instance = right.instance })
    adds =
        let fresh : list_any (is_ask_of number) entries ≡ false =
        ap (λ m. list_any (is_ask_of m) entries) right.next ∙ next_is_fresh limits.version task entries s.knowledge.legal in
        request_adds limits.version task entries s.knowledge.fit.problem.objects.names.distinct s.knowledge.legal number turn call
        right.due.stream right.instance right fresh right.named right.due.named

    some_answer : 0 < a.batch.answers
    some_answer = let few = s.counts.some in omega (arith, few, is_longer)

    ask_leads : LeadsOn limits task at_start [] (entries ++ request ∷ [])
        (mode_place_in task (entries ++ request ∷ []) (with_agenda a (with_asked a.batch)))
    ask_leads =
        let after = entries ++ request ∷ [] in
        let rest = requests_from task entries (asks_of entries + 1 + 1) (drop 1 a.batch.to_ask) in
        let asks : requests_from task entries (asks_of entries + 1) a.batch.to_ask ≡ request ∷ rest =
        ap (requests_from task entries (asks_of entries + 1)) head_asked ∙ ap (λ e. e ∷ rest) (sym request_is) in
        let later : requests_from task after (asks_of after + 1) (drop 1 a.batch.to_ask) ≡ rest =
        ap (λ m. requests_from task after (m + 1) (drop 1 a.batch.to_ask)) adds.asks
        ∙ requests_same task entries after (asks_of entries + 1 + 1) (drop 1 a.batch.to_ask)
        (ap (λ (k : Known). k.names) adds.same.known) adds.same.notes in
        one_step request (mode_place_in task after (with_agenda a (with_asked a.batch)))
        (goes_on (place_in task after (with_asked a.batch)) (inl (record {
          more = some_answer;
          rest = rest;
          asks = asks;
          is = λ k. record {
            asks = later k;
            next = a.batch.next;
            answers = a.batch.answers;
            later = a.batch.later;
            is_cut = a.batch.is_cut;
          };
        })) (stays (inl some_answer) refl))

    ask_waits : (m : ℕ) → a.batch.next ≤ m → m ≤ asks_of (entries ++ request ∷ [])
        → is_open (entries ++ request ∷ []) m ≡ true
    ask_waits m from upto = by (cases_lt (asks_of entries) m)
      where
        by : (asks_of entries < m) ⊎ (m ≤ asks_of entries) → is_open (entries ++ request ∷ []) m ≡ true
        by (inl past) =
            let same : m ≡ number = let next = right.next in let more = adds.asks in omega (arith, past, upto, next, more) in
            adds.waiting m ∙ ap (λ b. is_open entries m || b) (eq-eqb m number same) ∙ or_true (is_open entries m)
        by (inr below) = adds.waiting m ∙ ap (λ b. b || (m == number)) (s.counts.waiting m from below)

    ask_answered : (m : ℕ) → is_open (entries ++ request ∷ []) m ≡ true
        → (a.batch.next ≤ m) × (m ≤ asks_of (entries ++ request ∷ []))
    ask_answered m waits =
        by (or_cases (is_open entries m) (m == number) (sym (adds.waiting m) ∙ waits))
      where
        by : (is_open entries m ≡ true) ⊎ ((m == number) ≡ true)
            → (a.batch.next ≤ m) × (m ≤ asks_of (entries ++ request ∷ []))
        by (inl was) =
            let r = s.counts.answered m was in let more = adds.asks in (r.0, omega (arith, r.1, more))
        by (inr here) =
            let same = eqb-true m number here in
            let next = right.next in
            let more = adds.asks in
            let count = s.counts.count in
            let few = s.counts.some in
            (omega (arith, same, next, count, few), omega (arith, same, next, more))

    ask_counts : IsCounted limits.calls (entries ++ request ∷ []) (with_asked a.batch)
    ask_counts =
        let more = adds.asks in
        let count = s.counts.count in
        let left = s.counts.left in
        let few = s.counts.some in
        record {
          count = omega (arith, more, count, is_longer);
          left = omega (arith, more, left, is_longer);
          some = omega (arith, few, is_longer);
          waiting = ask_waits;
          answered = ask_answered;
        }

    pub ask_onward : (new : Knowledge)
        → IsKnowledge limits.version task (entries ++ entry.Ask number turn call ∷ []) new
        → StandsBehind limits task (entries ++ entry.Ask number turn call ∷ []) new (with_agenda a (with_asked a.batch))
    ask_onward new knowledge =
        record {
          knowledge = knowledge;
          leads = ask_leads;
          counts = ask_counts;
          run = λ is. run_asked limits.calls entries request a (s.run is) refl (omega (arith, is_longer)) some_answer;
          dreamless = not_dreamless some_answer;
        }
