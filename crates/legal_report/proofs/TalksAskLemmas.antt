-- Whether a request may be made, by the tests of what is known.
use Rattle.std.proofs.Common.{◌≡◌, ℕ, suc, ◌+◌, ◌-◌, ◌≤◌, ◌==◌, Bool, true, false, not, ◌&&◌, ◌||◌, List, [], ◌∷◌, take, drop, length, refl, sym, ap, subst, ◌∙◌, arith, Option, Some, None, slice_get, eqb-true, eq-eqb, nat_eq}
use Rattle.std.proofs.Math.ListN.{take-append-drop}
use Rattle.std.specs.Cmp.{first_so, second_so}
use Rattle.std.specs.List.{list_any}
use Rattle.lemmas.proofs.Counts.{count_joined}
use Rattle.task_model.proofs.StreamsLemmas.{due_holds, due_passes, instances_same}
use Rattle.task_model.specs.Known.{same_numbers}
use Rattle.task_model.specs.Streams.{IsDue, is_due, same_instance, yields_of}
use Rattle.task_model.specs.declared.stream.Instance.{Instance}
use Rattle.task_model.specs.declared.task.Task.{Task}
use Rattle.transcript_model.proofs.LegalPrefixLemmas.{first_request}
use Rattle.transcript_model.specs.Legal.{IsLegal, HasNoRequestOpen, IsRightAsk, asks_of, is_answer_to, is_ask, is_ask_of, is_open}
use Rattle.transcript_model.specs.Names.{instance_of}
use Rattle.transcript_model.specs.Transcript.{Asked, asked, known_of, names_of, notes_of}
use Rattle.transcript_model.specs.declared.entry.Call.{Call}
use Rattle.transcript_model.specs.declared.entry.Entry.{Entry}
use Rattle.transcript_model.specs.declared.entry.Entry.TheVariants as entry
use Rattle.learning.specs.Knowledge.{IsKnowledge, asked_it, is_waiting}
use Rattle.lemmas.specs.Lists.{has_number}
use Rattle.legal_report.specs.Talks.{may_ask}
use Rattle.learning.specs.declared.knowledge.Knowledge.{Knowledge}
use Rattle.std.proofs.lemmas.Bool.{and_from, not-true, not_from_false, false≢true}
use Rattle.std.proofs.lemmas.Map.Keys.{any_passes_from_place}
use Rattle.lemmas.proofs.Options.{same_some}
use Rattle.lemmas.proofs.ListTests.{get_there}
use Rattle.lemmas.proofs.Members.{next_taken}

-- ---- open requests

-- an open request was made
pub opened : (version : ℕ) (task : Task) (before : List Entry) (n : ℕ) → IsLegal version task before
    → is_open before n ≡ true
    → (1 ≤ n) × (n ≤ asks_of before)
opened version task before n legal waits =
    let made = first_request before n (first_so (list_any (is_ask_of n) before) (not (list_any (is_answer_to n) before)) waits) in
    let e = entry.Ask n made.1 made.2 in
    let right : IsRightAsk task (take made.0 before) n made.1 made.2 = legal made.0 e made.3 in
    let parts : asks_of before ≡ asks_of (take (made.0 + 1) before) + asks_of (drop (made.0 + 1) before) =
    ap asks_of (sym (take-append-drop (made.0 + 1) before))
    ∙ count_joined is_ask (take (made.0 + 1) before) (drop (made.0 + 1) before) in
    let front : asks_of (take (made.0 + 1) before) ≡ asks_of (take made.0 before) + 1 =
    ap asks_of (next_taken before made.0 e made.3) ∙ count_joined is_ask (take made.0 before) (e ∷ []) in
    let number = right.next in
    (omega (arith, number), omega (arith, number, parts, front))

pub record HasSuch {A : Type 0} (p : A → Bool) (xs : List A) : Type 0 where
  pub place : ℕ
  pub member : A
  pub at : slice_get xs place ≡ Some member
  pub passes_it : p member ≡ true

such : {A : Type 0} (p : A → Bool) (xs : List A) → list_any p xs ≡ true → HasSuch p xs
such p [] e = absurd (false≢true e)
such p (y ∷ ys) e = by (p y) refl e (such p ys)
  where
    by : (b : Bool) → p y ≡ b → (b || list_any p ys) ≡ true → (list_any p ys ≡ true → HasSuch p ys)
        → HasSuch p (y ∷ ys)
    by true is e rest = record { place = 0; member = y; at = refl; passes_it = is }
    by false is e rest = let r = rest e in record { place = suc r.place; member = r.member; at = r.at; passes_it = r.passes_it }

asked_yes : (asked_all : List Instance) (i j : Instance) (n : ℕ)
    → slice_get asked_all (n - 1) ≡ Some j → j ≡ i
    → asked_it asked_all i n ≡ true
asked_yes asked_all i j n at same = let r : same_instance j i ≡ true = itself in rw at r
  where
    numbers : (xs : List ℕ) → same_numbers xs xs ≡ true
    numbers [] = refl
    numbers (x ∷ xs) = and_from (nat_eq x x) (same_numbers xs xs) (eq-eqb x x refl) (numbers xs)

    itself : same_instance j i ≡ true
    itself =
        ap (λ (k : Instance). same_instance k i) same
        ∙ and_from (i.stream == i.stream) (same_numbers i.inputs i.inputs) (eq-eqb i.stream i.stream refl) (numbers i.inputs)

asked_is : (asked_all : List Instance) (i : Instance) (n : ℕ) (o : Option Instance)
    → slice_get asked_all (n - 1) ≡ o
    → asked_it asked_all i n ≡ true → (j : Instance) × (slice_get asked_all (n - 1) ≡ Some j) × (j ≡ i)
asked_is asked_all i n None at e = let r : false ≡ true = rw at at e in absurd (false≢true r)
asked_is asked_all i n (Some j) at e =
    let r : same_instance j i ≡ true = rw at at e in (j, at, instances_same j i r)

-- ---- the tests

module _ (version : ℕ) (task : Task) (before : List Entry) (l : Knowledge) (h : IsKnowledge version task before l) (number turn : ℕ)
    (call : Call) (i : Instance) (named : instance_of task (names_of task before) call ≡ Some i) where
  -- the tests, one by one
  abbrev next_test : Bool
  next_test = number == length l.asked.items + 1

  abbrev turn_test : Bool
  turn_test = turn == yields_of l.queue i

  abbrev due_test : Bool
  due_test = is_due task l.facts.known l.queue i

  abbrev idle_test : Bool
  idle_test = not (is_waiting l.asked.items l.unanswered.items i)

  idle : is_waiting l.asked.items l.unanswered.items i ≡ false → HasNoRequestOpen task before i
  idle none n a was same = by (is_open before n) refl
    where
      by : (b : Bool) → is_open before n ≡ b → b ≡ false
      by false e = refl
      by true e =
          let within = opened version task before n h.legal e in
          let there = get_there l.asked.items (n - 1) (omega (arith, within.0, within.1, h.counted)) in
          let its = h.asks (n - 1) there.0 there.1 in
          let back : n ≡ n - 1 + 1 = omega (arith, within.0) in
          let known : asked task before n ≡ Some (record { stream = its.stream; instance = there.0 }) =
          ap (asked task before) back ∙ its.asks in
          let is : there.0 ≡ i =
          ap (λ (x : Asked). x.instance)
          (same_some (asked task before n) (record { stream = its.stream; instance = there.0 }) a known was)
          ∙ same in
          let among : has_number l.unanswered.items n ≡ true = h.unanswered n ∙ e in
          let it = such (λ m. n == m) l.unanswered.items among in
          let number_is : it.member ≡ n = sym (eqb-true n it.member it.passes_it) in
          let passes_it : asked_it l.asked.items i it.member ≡ true =
          ap (asked_it l.asked.items i) number_is ∙ asked_yes l.asked.items i there.0 n there.1 is in
          absurd (false≢true
          (sym none ∙ any_passes_from_place (asked_it l.asked.items i) l.unanswered.items it.place it.member it.at passes_it))

  waits_not : HasNoRequestOpen task before i → is_waiting l.asked.items l.unanswered.items i ≡ false
  waits_not closed = by (is_waiting l.asked.items l.unanswered.items i) refl
    where
      by : (b : Bool) → is_waiting l.asked.items l.unanswered.items i ≡ b → b ≡ false
      by false e = refl
      by true e =
          let it = such (asked_it l.asked.items i) l.unanswered.items e in
          let n = it.member in
          let was = asked_is l.asked.items i n (slice_get l.asked.items (n - 1)) refl it.passes_it in
          let here : is_open before n ≡ true =
          sym (h.unanswered n) ∙ any_passes_from_place (λ m. n == m) l.unanswered.items it.place n it.at (eq-eqb n n refl) in
          let within = opened version task before n h.legal here in
          let its = h.asks (n - 1) was.0 was.1 in
          let back : n ≡ n - 1 + 1 = omega (arith, within.0) in
          absurd (false≢true
          (sym (closed n (record { stream = its.stream; instance = was.0 }) (ap (asked task before) back ∙ its.asks) was.2) ∙ here))

  pub passes : may_ask task l number turn i ≡ true → IsRightAsk task before number turn call
  passes e =
      let after_next = second_so next_test (turn_test && (due_test && idle_test)) e in
      let after_turn = second_so turn_test (due_test && idle_test) after_next in
      let due : IsDue task l.facts.known l.queue i = due_holds task l.facts.known l.queue i (first_so due_test idle_test after_turn) in
      record {
        next =
            eqb-true number (length l.asked.items + 1) (first_so next_test (turn_test && (due_test && idle_test)) e)
            ∙ ap (λ m. m + 1) h.counted;
        instance = i;
        named = named;
        due = subst (λ k. IsDue task k (notes_of task before) i) h.known (subst (λ ns. IsDue task l.facts.known ns i) h.notes due);
        closed = idle (not-true (is_waiting l.asked.items l.unanswered.items i) (second_so due_test idle_test after_turn));
        turned =
            eqb-true turn (yields_of l.queue i) (first_so turn_test (due_test && idle_test) after_next) ∙ ap (λ ns. yields_of ns i) h.notes;
      }

  pub must_pass : IsRightAsk task before number turn call → may_ask task l number turn i ≡ true
  must_pass right =
      let same : right.instance ≡ i = same_some (instance_of task (names_of task before) call) right.instance i right.named named in
      let due : IsDue task l.facts.known l.queue i =
      subst (λ k. IsDue task k l.queue i) (sym h.known)
      (subst (λ ns. IsDue task (known_of task before) ns i)
      (sym h.notes) (subst (λ j. IsDue task (known_of task before) (notes_of task before) j) same right.due)) in
      let closed : HasNoRequestOpen task before i = subst (HasNoRequestOpen task before) same right.closed in
      and_from next_test (turn_test && (due_test && idle_test))
      (eq-eqb number (length l.asked.items + 1) (right.next ∙ ap (λ m. m + 1) (sym h.counted)))
      (and_from turn_test (due_test && idle_test)
      (eq-eqb turn (yields_of l.queue i)
      (right.turned ∙ ap (yields_of (notes_of task before)) same ∙ ap (λ ns. yields_of ns i) (sym h.notes)))
      (and_from due_test idle_test (due_passes task l.facts.known l.queue i due)
      (not_from_false (is_waiting l.asked.items l.unanswered.items i) (waits_not closed))))
