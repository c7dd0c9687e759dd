-- A whole round that is closed.
use Rattle.std.proofs.Common.{◌≡◌, ℕ, zero, suc, ◌+◌, ◌≤◌, ◌<◌, true, inl, inr, List, [], ◌∷◌, ◌++◌, length, take, refl, sym, ap, subst, ◌∙◌, None, Some, slice_get, arith, count_by, append_assoc, length-append}
use Rattle.std.proofs.lemmas.List.{take-append-le, length-map}
use Rattle.std.proofs.lemmas.List.Sums.{count_by-le-length}
use Rattle.std.specs.List.{cons_option}
use Rattle.lemmas.proofs.Members.{append_cases}
use Rattle.instance_queue.specs.Level.{due_instances}
use Rattle.instance_queue.specs.declared.due.Due.{Due}
use Rattle.task_model.specs.declared.stream.Instance.{Instance}
use Rattle.task_model.specs.declared.task.Task.{Task}
use Rattle.transcript_model.proofs.LegalPrefixLemmas.{asked-kept}
use Rattle.transcript_model.specs.Legal.{is_open, is_answer}
use Rattle.transcript_model.specs.Transcript.{asked, names_of, known_of, notes_of}
use Rattle.transcript_model.specs.declared.entry.Entry.{Entry}
use Rattle.lemmas.proofs.Counts.{count_joined, count_one}
use Rattle.learning.specs.Learning.{Asks}
use Rattle.session_core.specs.Session.{IsSession, AreSlotsFor}
use Rattle.session_core.specs.Slots.{Slot, ask_for, asks_from, answers_of, all_answered}
use Rattle.session_core.specs.State.{State, after_close}
use Rattle.session_core.proofs.RoundCloseLemmas.{AllWait, Requested, answered_all, no_both, requested}

-- ---- the whole round

wait_at : (task : Task) (before : List Entry) (n : ℕ) (dues : List Due) (j : ℕ) (i : Instance)
    → AllWait task before n dues
    → slice_get (due_instances dues) j ≡ Some i → Asks task before (n + j) i
wait_at task before n [] j i w at = absurd (cc)
wait_at task before n (d ∷ ds) zero i w at =
    let same : d.instance ≡ i = cc in
    let here : n ≡ n + 0 = omega arith in
    subst (λ m. Asks task before m i) here (subst (Asks task before n) same w.1)
wait_at task before n (d ∷ ds) (suc j) i w at =
    let there : (n + 1) + j ≡ n + suc j = omega arith in
    subst (λ m. Asks task before m i) there (wait_at task before (n + 1) ds j i w.2 at)

no_answers : (task : Task) (names : List (List ℕ)) (n : ℕ) (dues : List Due)
    → count_by is_answer (asks_from task names n dues) ≡ 0
no_answers task names n [] = refl
no_answers task names n (d ∷ ds) =
    count_joined is_answer (ask_for task names n d ∷ []) (asks_from task names (n + 1) ds)
    ∙ (λ k. count_one is_answer (ask_for task names n d) k + no_answers task names (n + 1) ds k)

few_answers : (slots : List Slot) → length (answers_of slots) ≤ length slots
few_answers [] = omega arith
few_answers (s ∷ ss) =
    elim s.answer as (λ o. length (cons_option o (answers_of ss)) ≤ suc (length ss)) [
      | None ↦ omega (arith, few_answers ss)
      | Some e ↦ omega (arith, few_answers ss)
    ]

as_many : (task : Task) (version n : ℕ) (dues : List Due) (slots : List Slot)
    → AreSlotsFor task version n dues slots
    → length slots ≡ length dues
as_many task version n [] [] h = refl
as_many task version n [] (s ∷ ss) h = absurd h
as_many task version n (d ∷ ds) [] h = absurd h
as_many task version n (d ∷ ds) (s ∷ ss) h = ap suc (as_many task version (n + 1) ds ss h.1)

pub close_kept : (task : Task) (s : State) → s.is_open ≡ true → all_answered s.slots ≡ true
    → IsSession task s
    → IsSession task (after_close s)
close_kept task s open_now answered h =
    let r = h.round open_now in
    let first = length s.asked + 1 in
    let none : (m : ℕ) → is_open s.entries m ≡ true → ⊥ = λ m o. no_both (is_open s.entries m) o (h.none_open m) in
    let q = subst (λ xs. Requested s.version task h.fit s.entries h.legal s.entries (s.entries ++ xs) first r.dues) (sym r.asks)
    (requested s.version task h.fit s.entries h.legal r.dues s.entries first h.legal refl refl
    (ap (λ k. k + 1) h.counted) r.ready.due r.ready.turns r.ready.distinct (λ m a is o. absurd (none m o))) in
    let mid = s.entries ++ s.asks in
    let within : (m : ℕ) → is_open mid m ≡ true → (first ≤ m) × (m < first + length r.dues) =
    λ m o. elim (q.only m o) [ inl old ↦ absurd (none m old) | inr bounds ↦ bounds ] in
    let a = answered_all s.version task h.fit r.dues s.slots mid first q.ok_after q.waits r.slots answered within in
    let answers = answers_of s.slots in
    let all = mid ++ answers in
    let many : length s.instances ≡ length r.dues = ap length r.instances ∙ length-map r.dues (λ (d : Due). d.instance) in
    let slots : length s.slots ≡ length r.dues = as_many task s.version first r.dues s.slots r.slots in
    let count_mid : count_by is_answer mid ≡ count_by is_answer s.entries + 0 =
    count_joined is_answer s.entries s.asks
    ∙ ap (λ n. count_by is_answer s.entries + n)
    (ap (count_by is_answer) r.asks ∙ no_answers task (names_of task s.entries) first r.dues) in
    let count_all : count_by is_answer all ≡ count_by is_answer mid + count_by is_answer answers = count_joined is_answer mid answers in
    let in_answers : count_by is_answer answers ≤ length answers = count_by-le-length is_answer answers in
    let front : take s.learnt all ≡ take s.learnt s.entries =
    ap (take s.learnt) (append_assoc s.entries s.asks answers) ∙ take-append-le s.learnt s.entries (s.asks ++ answers) h.learnt in
    record {
      fit = h.fit;
      version = h.version;
      some_version = h.some_version;
      calls = h.calls;
      pools = h.pools;
      legal = a.legal;
      none_open = a.none_open;
      counted = omega (arith, length-append s.asked s.instances, many, a.asks, q.count);
      asked = λ k i at.
          elim (append_cases s.asked s.instances k i at) [
            | inl old ↦
                let was = h.asked k i old in
                record {
                  stream = was.stream;
                  streamed = was.streamed;
                  asks = a.requests (k + 1) ∙ asked-kept task s.entries s.asks (k + 1) _ was.asks;
                }
            | inr new ↦
                let here = wait_at task mid first r.dues new.0 i q.waits (ap (λ xs. slice_get xs new.0) (sym r.instances) ∙ new.2) in
                let place : first + new.0 ≡ k + 1 = omega (arith, new.1) in
                record {
                  stream = here.stream;
                  streamed = here.streamed;
                  asks = a.requests (k + 1) ∙ ap (asked task mid) (sym place) ∙ here.asks;
                }
          ];
      answered = omega (arith, count_all, count_mid, in_answers, few_answers s.slots, slots, h.answered, a.asks, q.count, h.counted);
      learnt = omega (arith, h.learnt, length-append mid answers, length-append s.entries s.asks);
      known = λ works. h.known works ∙ sym (ap (known_of task) front);
      notes = λ works. h.notes works ∙ sym (ap (notes_of task) front);
      round = λ e. absurd (cc);
    }
