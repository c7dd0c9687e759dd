-- What is printed of a round: it is legal, and a front of the round.
use Rattle.std.proofs.Common.{◌≡◌, ℕ, ◌+◌, true, All, drop, List, [], ◌∷◌, ◌++◌, map, length, take, Option, Some, None, refl, sym, subst, ap, ◌∙◌, append_assoc, slice_get, unwrap_or, eq-eqb}
use Rattle.std.proofs.Math.ListN.{take-append-drop}
use Rattle.std.proofs.lemmas.List.Elements.{All-head, All-tail}
use Rattle.gen_lines.specs.Reply as reply
use Rattle.gen_lines.specs.Reply.{Reply, reply_of}
use Rattle.gen_lines.specs.declared.answer.Wanted.{Wanted}
use Rattle.gen_lines.specs.declared.answer.Wanted.TheVariants as wanted
use Rattle.instance_queue.specs.Level.{due_instances}
use Rattle.instance_queue.specs.declared.due.Due.{Due}
use Rattle.task_model.specs.declared.task.Task.{Task}
use Rattle.transcript_model.proofs.LegalLemmas.{grows}
use Rattle.task_model.specs.Streams.{yields_of}
use Rattle.transcript_model.specs.Legal.{IsLegal, is_open, is_answer_to, asks_of}
use Rattle.transcript_model.specs.Names.{call_of_instance}
use Rattle.transcript_model.specs.Rounds.{AreAnswers, IsRound, requests, requests_from}
use Rattle.transcript_model.specs.Transcript.{names_of, notes_of}
use Rattle.transcript_model.specs.declared.entry.Entry.{Entry}
use Rattle.transcript_model.specs.declared.entry.Entry.TheVariants as entry
use Rattle.session_core.proofs.RoundWholeLemmas.{close_kept}
use Rattle.session_core.specs.Session.{IsSession, AreSlotsFor, round_begun}
use Rattle.session_core.specs.Slots.{Slot, replied_entry, answers_of, all_answered, asks_from}
use Rattle.session_core.specs.State.{State, with_slots}
use Rattle.round_run.specs.Rolling.{IsFrontPart, finished_round}
use Rattle.lemmas.proofs.Members.{next_taken}

-- ---- what is printed of a round is legal

abbrev complete : Slot → Slot
complete t = record {
  number = t.number;
  child = t.child;
  request = t.request;
  wanted = t.wanted;
  sent = t.sent;
  answer = Some (unwrap_or t.answer (entry.End t.number));
}

complete_answers : (slots : List Slot) → answers_of (map complete slots) ≡ finished_round slots
complete_answers [] = refl
complete_answers (t ∷ ts) =
    ap (λ es. unwrap_or t.answer (entry.End t.number) ∷ es) (complete_answers ts)

complete_all : (slots : List Slot) → all_answered (map complete slots) ≡ true
complete_all [] = refl
complete_all (t ∷ ts) = complete_all ts

-- the line `end` ends
end_said : (number : ℕ) (w : Wanted)
    → replied_entry number (reply_of (101 ∷ 110 ∷ 100 ∷ []) w) ≡ Some (entry.End number)
end_said number (wanted.Outputs width several) = refl
end_said number wanted.Number = refl

complete_right : (t : Slot) (e : Entry)
    → ((x : Entry) → t.answer ≡ Some x → (line : List ℕ) × (replied_entry t.number (reply_of line t.wanted) ≡ Some x)) → (o : Option Entry)
    → t.answer ≡ o → Some (unwrap_or o (entry.End t.number)) ≡ Some e
    → (line : List ℕ) × (replied_entry t.number (reply_of line t.wanted) ≡ Some e)
complete_right t e right None is same = (101 ∷ 110 ∷ 100 ∷ [], end_said t.number t.wanted ∙ same)
complete_right t e right (Some x) is same = let r = right x is in (r.0, r.1 ∙ same)

complete_slots : (task : Task) (version n : ℕ) (dues : List Due) (slots : List Slot)
    → AreSlotsFor task version n dues slots
    → AreSlotsFor task version n dues (map complete slots)
complete_slots task version n [] [] h = tt
complete_slots task version n [] (t ∷ ts) h = absurd h
complete_slots task version n (d ∷ ds) [] h = absurd h
complete_slots task version n (d ∷ ds) (t ∷ ts) h = (
  record { numbered = h.0.numbered; wanted = h.0.wanted; right = λ e is. complete_right t e h.0.right t.answer refl is },
  complete_slots task version (n + 1) ds ts h.1,
)

pub round_legal : (task : Task) (s : State) → s.is_open ≡ true → IsSession task s
    → IsLegal s.version task (s.entries ++ s.asks ++ finished_round s.slots)
round_legal task s round_begun h =
    let r = h.round round_begun in
    let whole : IsSession task (with_slots s (map complete s.slots) s.failed) = record {
      fit = h.fit;
      version = h.version;
      some_version = h.some_version;
      calls = h.calls;
      pools = h.pools;
      legal = h.legal;
      none_open = h.none_open;
      counted = h.counted;
      asked = h.asked;
      answered = h.answered;
      learnt = h.learnt;
      known = h.known;
      notes = h.notes;
      round = λ _. record {
        dues = r.dues;
        ready = r.ready;
        instances = r.instances;
        asks = r.asks;
        slots = complete_slots task s.version (length s.asked + 1) r.dues s.slots r.slots;
      };
    } in
    let closed = close_kept task (with_slots s (map complete s.slots) s.failed) round_begun (complete_all s.slots) whole in
    subst (λ es. IsLegal s.version task (s.entries ++ s.asks ++ es)) (complete_answers s.slots) closed.legal

-- the front of a legal transcript
pub front_legal : (version : ℕ) (task : Task) (xs ys : List Entry) → IsLegal version task (xs ++ ys)
    → IsLegal version task xs
front_legal version task xs ys legal = (grows version task xs).front ys legal

-- the requests so far are legal
pub asks_legal : (version : ℕ) (task : Task) (es asks rest : List Entry) (n : ℕ)
    → IsLegal version task (es ++ asks ++ rest)
    → IsLegal version task (es ++ take n asks)
asks_legal version task es asks rest n legal =
    front_legal version task (es ++ take n asks) (drop n asks ++ rest) (subst (IsLegal version task) (sym whole) legal)
  where
    whole : (es ++ take n asks) ++ (drop n asks ++ rest) ≡ es ++ asks ++ rest
    whole =
        sym (append_assoc (es ++ take n asks) (drop n asks) rest)
        ∙ ap (λ xs. xs ++ rest) (append_assoc es (take n asks) (drop n asks) ∙ ap (λ xs. es ++ xs) (take-append-drop n asks))

-- and so are the answers so far
pub answers_legal : (version : ℕ) (task : Task) (es asks rest : List Entry) (n : ℕ)
    → IsLegal version task (es ++ asks ++ rest)
    → IsLegal version task (es ++ asks ++ take n rest)
answers_legal version task es asks rest n legal =
    front_legal version task (es ++ asks ++ take n rest) (drop n rest)
    (subst (IsLegal version task)
    (sym (append_assoc (es ++ asks) (take n rest) (drop n rest) ∙ ap (λ xs. es ++ asks ++ xs) (take-append-drop n rest))) legal)

-- one entry more
pub one_more : (es rest : List Entry) (n : ℕ) (e : Entry) → slice_get rest n ≡ Some e
    → es ++ take (n + 1) rest ≡ (es ++ take n rest) ++ e ∷ []
one_more es rest n e at =
    ap (λ xs. es ++ xs) (next_taken rest n e at) ∙ sym (append_assoc es (take n rest) (e ∷ []))

-- a request that waits for its answer is open
pub open_there : (version : ℕ) (task : Task) (es asks rest : List Entry) (n number : ℕ)
    → IsLegal version task (es ++ asks ++ rest)
    → slice_get rest n ≡ Some (entry.End number) → is_open (es ++ asks ++ take n rest) number ≡ true
open_there version task es asks rest n number legal at =
    (grows version task (es ++ asks ++ take n rest)).last (entry.End number)
    (subst (IsLegal version task) (one_more (es ++ asks) rest n (entry.End number) at)
    (answers_legal version task es asks rest (n + 1) legal))

-- ---- the round in the transcript

asks_are : (task : Task) (before : List Entry) (n : ℕ) (dues : List Due)
    → All (λ (d : Due). d.turn ≡ yields_of (notes_of task before) d.instance) dues
    → asks_from task (names_of task before) n dues ≡ requests_from task before n (due_instances dues)
asks_are task before n [] turns = refl
asks_are task before n (d ∷ ds) turns =
    λ i. entry.Ask n (All-head (λ (u : Due). u.turn ≡ yields_of (notes_of task before) u.instance) d ds turns i)
    (call_of_instance task (names_of task before) d.instance)
    ∷ asks_are task before (n + 1) ds (All-tail (λ (u : Due). u.turn ≡ yields_of (notes_of task before) u.instance) d ds turns) i

-- an entry that a reply to a request makes answers it
pub answers_number : (n : ℕ) (r : Reply) (e : Entry) → replied_entry n r ≡ Some e → is_answer_to n e ≡ true
answers_number n (reply.yields tuples values) e is =
    let same : entry.Got n tuples values ≡ e = cc in ap (is_answer_to n) (sym same) ∙ eq-eqb n n refl
answers_number n (reply.number value) e is =
    let same : entry.Value n value ≡ e = cc in ap (is_answer_to n) (sym same) ∙ eq-eqb n n refl
answers_number n reply.ends e is =
    let same : entry.End n ≡ e = cc in ap (is_answer_to n) (sym same) ∙ eq-eqb n n refl
answers_number n (reply.bad why) e is = absurd (cc)

answer_right : (t : Slot) (n : ℕ) → t.number ≡ n
    → ((x : Entry) → t.answer ≡ Some x → (line : List ℕ) × (replied_entry t.number (reply_of line t.wanted) ≡ Some x)) → (o : Option Entry)
    → t.answer ≡ o → is_answer_to n (unwrap_or o (entry.End t.number)) ≡ true
answer_right t n is right None e = eq-eqb n t.number (sym is)
answer_right t n is right (Some x) e =
    let r = right x e in ap (λ m. is_answer_to m x) (sym is) ∙ answers_number t.number (reply_of r.0 t.wanted) x r.1

are_answers : (task : Task) (version n : ℕ) (dues : List Due) (slots : List Slot)
    → AreSlotsFor task version n dues slots
    → AreAnswers n (length (due_instances dues)) (finished_round slots)
are_answers task version n [] [] h = tt
are_answers task version n [] (t ∷ ts) h = absurd h
are_answers task version n (d ∷ ds) [] h = absurd h
are_answers task version n (d ∷ ds) (t ∷ ts) h =
    (answer_right t n h.0.numbered h.0.right t.answer refl, are_answers task version (n + 1) ds ts h.1)

pub round_is : (task : Task) (s : State) → s.is_open ≡ true → IsSession task s
    → IsRound task s.entries s.instances (s.asks ++ finished_round s.slots)
round_is task s round_begun h =
    let r = h.round round_begun in
    let first : length s.asked + 1 ≡ asks_of s.entries + 1 = ap (λ n. n + 1) h.counted in
    let asks : s.asks ≡ requests task s.entries s.instances =
    r.asks ∙ asks_are task s.entries (length s.asked + 1) r.dues r.ready.turns
    ∙ (λ i. requests_from task s.entries (first i) (sym r.instances i)) in
    let answers : AreAnswers (asks_of s.entries + 1) (length s.instances) (finished_round s.slots) =
    subst (λ n. AreAnswers n (length s.instances) (finished_round s.slots)) first
    (subst (λ is. AreAnswers (length s.asked + 1) (length is) (finished_round s.slots))
    (sym r.instances) (are_answers task s.version (length s.asked + 1) r.dues s.slots r.slots)) in
    (finished_round s.slots, ap (λ es. es ++ finished_round s.slots) asks, answers)

-- ---- fronts of the round

-- the requests so far are the first of a round
pub front_asks : (task : Task) (s : State) (n : ℕ) → s.is_open ≡ true → IsSession task s
    → IsFrontPart s.entries (IsRound task s.entries s.instances) (s.entries ++ take n s.asks)
front_asks task s n round_begun h = record {
  part = take n s.asks;
  rest = drop n s.asks ++ finished_round s.slots;
  is = refl;
  whole = subst (IsRound task s.entries s.instances)
      (sym (sym (append_assoc (take n s.asks) (drop n s.asks) (finished_round s.slots))
      ∙ ap (λ xs. xs ++ finished_round s.slots) (take-append-drop n s.asks))) (round_is task s round_begun h);
}

-- and so are all requests and the answers so far
pub front_answers : (task : Task) (s : State) (n : ℕ) → s.is_open ≡ true → IsSession task s
    → IsFrontPart s.entries (IsRound task s.entries s.instances) (s.entries ++ s.asks ++ take n (finished_round s.slots))
front_answers task s n round_begun h = record {
  part = s.asks ++ take n (finished_round s.slots);
  rest = drop n (finished_round s.slots);
  is = append_assoc s.entries s.asks (take n (finished_round s.slots));
  whole = subst (IsRound task s.entries s.instances)
      (sym (append_assoc s.asks (take n (finished_round s.slots)) (drop n (finished_round s.slots))
      ∙ ap (λ xs. s.asks ++ xs) (take-append-drop n (finished_round s.slots)))) (round_is task s round_begun h);
}
