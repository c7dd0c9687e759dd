-- The knowledge of entries, and of one entry more.
use Rattle.std.proofs.Common.{◌≡◌, ℕ, zero, suc, ◌+◌, ◌-◌, ◌≤◌, ◌==◌, ◌⊎◌, inl, inr, Bool, true, false, not, ◌&&◌, ◌||◌, cond, List, [], ◌∷◌, ◌++◌, length, refl, sym, ap, subst, ◌∙◌, arith, Some, Result, Ok, Err, OnOk, slice_get, count_by, eqb-true, eq-eqb, length-append}
use Rattle.std.proofs.lemmas.List.Filters.{length-filter_both}
use Rattle.std.proofs.lemmas.List.Sums.{length-filter}
use Rattle.std.specs.List.{list_any}
use Rattle.learning.proofs.LearningLemmas.{answer_at, answers_to}
use Rattle.lemmas.proofs.Counts.{count_joined, count_one}
use Rattle.learning.specs.Learning.{Asks, CanLearn}
use Rattle.task_model.specs.declared.stream.Instance.{Instance}
use Rattle.task_model.specs.declared.stream.Stream.{Stream}
use Rattle.task_model.specs.declared.task.Task.{Task}
use Rattle.transcript_model.proofs.LegalLemmas.{grows}
use Rattle.transcript_model.proofs.LegalPrefixLemmas.{asked-kept}
use Rattle.transcript_model.proofs.LegalNumberLemmas.{next_is_fresh}
use Rattle.transcript_model.proofs.LegalStepLemmas.{answer_adds, request_adds}
use Rattle.transcript_model.specs.Legal.{IsRightAsk, MayFollow, asks_of, is_ask, is_ask_of, is_open, is_answer, answered_number}
use Rattle.transcript_model.specs.Names.{instance_of}
use Rattle.transcript_model.specs.Transcript.{Asked, asked, known_of, names_of, notes_of}
use Rattle.transcript_model.specs.declared.entry.Call.{Call}
use Rattle.transcript_model.specs.declared.entry.Entry.{Entry}
use Rattle.transcript_model.specs.declared.entry.Entry.TheVariants as entry
use Rattle.learning.specs.Knowledge.{IsKnowledge}
use Rattle.lemmas.specs.Lists.{has_number}
use Rattle.learning.specs.Numbers.{without}
use Rattle.learning.specs.declared.knowledge.Knowledge.{Knowledge}
use Rattle.std.proofs.lemmas.Bool.{true≢false}
use Rattle.lemmas.proofs.Bools.{or_false, and_false, or_assoc}
use Rattle.lemmas.proofs.Options.{same_some}
use Rattle.lemmas.proofs.Members.{get_at_length}

-- ---- lists

any_push : {A : Type 0} (p : A → Bool) (xs : List A) (x : A)
    → list_any p (xs ++ x ∷ []) ≡ (list_any p xs || p x)
any_push p [] x = or_false (p x)
any_push p (y ∷ ys) x = ap (λ b. p y || b) (any_push p ys x) ∙ or_assoc (p y) (list_any p ys) (p x)

at_push : {A : Type 0} (xs : List A) (x y : A) (k : ℕ) → slice_get (xs ++ x ∷ []) k ≡ Some y
    → (slice_get xs k ≡ Some y) ⊎ ((k ≡ length xs) × (x ≡ y))
at_push [] x y zero at = inr (refl, (let same : x ≡ y = cc in same))
at_push [] x y (suc k) at = absurd (cc)
at_push (z ∷ zs) x y zero at = inl at
at_push (z ∷ zs) x y (suc k) at = by (at_push zs x y k at)
  where
    by : (slice_get zs k ≡ Some y) ⊎ ((k ≡ length zs) × (x ≡ y))
        → (slice_get zs k ≡ Some y) ⊎ ((suc k ≡ suc (length zs)) × (x ≡ y))
    by (inl e) = inl e
    by (inr (e, same)) = inr (ap suc e, same)

not_same : (n k m : ℕ) → (n == m) ≡ true → (k == m) ≡ true → (k == n) ≡ true
not_same n k m e f = eq-eqb k n (eqb-true k m f ∙ sym (eqb-true n m e))

-- by the three tests
abbrev Without : ℕ → ℕ → ℕ → List ℕ → Bool → Bool → Bool → Type 0
Without n k m ms first here same =
    has_number (without n ms) k ≡ (has_number ms k && not same)
    → has_number (cond (not first) (m ∷ without n ms) (without n ms)) k ≡ ((here || has_number ms k) && not same)

without_by : (n k m : ℕ) (ms : List ℕ) (first here same : Bool) → (n == m) ≡ first → (k == m) ≡ here
    → (k == n) ≡ same
    → Without n k m ms first here same
without_by n k m ms true true true e f g rest = rest ∙ and_false (has_number ms k)
without_by n k m ms true true false e f g rest = absurd (true≢false (sym (not_same n k m e f) ∙ g))
without_by n k m ms true false same e f g rest = rest
without_by n k m ms false true true e f g rest =
    absurd (true≢false (sym (eq-eqb n m (sym (eqb-true k n g) ∙ eqb-true k m f)) ∙ e))
without_by n k m ms false true false e f g rest = ap (λ b. b || has_number (without n ms) k) f
without_by n k m ms false false same e f g rest =
    ap (λ b. b || has_number (without n ms) k) f ∙ rest

among_without : (n k : ℕ) (ms : List ℕ)
    → has_number (without n ms) k ≡ (has_number ms k && not (k == n))
among_without n k [] = refl
among_without n k (m ∷ ms) =
    without_by n k m ms (n == m) (k == m) (k == n) refl refl refl (among_without n k ms)

some_count : {A : Type 0} (p : A → Bool) (xs : List A) → list_any p xs ≡ true → 1 ≤ count_by p xs
some_count p [] e = absurd (true≢false (sym e))
some_count p (x ∷ xs) e =
    omega (arith, count_joined p (x ∷ []) xs, count_one p x, by (p x) (some_count p xs) e)
  where
    by : (b : Bool) → (list_any p xs ≡ true → 1 ≤ count_by p xs) → (b || list_any p xs) ≡ true
        → 1 ≤ cond {A = ℕ} b 1 0 + count_by p xs
    by true rest e = omega arith
    by false rest e = omega (arith, rest e)

-- a number that is there is left out
fewer : (n : ℕ) (ms : List ℕ) → has_number ms n ≡ true → length (without n ms) + 1 ≤ length ms
fewer n ms there =
    omega (
      arith,
      length-filter_both (λ m. not (n == m)) (λ m. n == m) twice ms,
      length-filter (λ m. n == m) ms,
      some_count (λ m. n == m) ms there,
    )
  where
    twice : (m : ℕ) → (n == m) ≡ not (not (n == m))
    twice m = by (n == m)
      where
        by : (b : Bool) → b ≡ not (not b)
        by true = refl
        by false = refl

-- ---- a request

pub ask_kept : (version turn : ℕ) (task : Task) (before : List Entry) (call : Call) (l new : Knowledge) (i : Instance)
    → IsKnowledge version task before l → IsRightAsk task before (length l.asked.items + 1) turn call
    → instance_of task (names_of task before) call ≡ Some i → new.facts.known ≡ l.facts.known → new.queue ≡ l.queue
    → new.asked.items ≡ l.asked.items ++ i ∷ [] → new.unanswered.items ≡ l.unanswered.items ++ (length l.asked.items + 1) ∷ []
    → IsKnowledge version task (before ++ entry.Ask (length l.asked.items + 1) turn call ∷ []) new
ask_kept version turn task before call l new i h right named facts queue asked_is unanswered_is =
    let number = length l.asked.items + 1 in
    let e = entry.Ask number turn call in
    let same : right.instance ≡ i = same_some (instance_of task (names_of task before) call) right.instance i right.named named in
    let streamed : slice_get task.streams i.stream ≡ Some right.due.stream =
    ap (λ (j : Instance). slice_get task.streams j.stream) (sym same) ∙ right.due.named in
    let distinct = h.fit.problem.objects.names.distinct in
    let fresh : list_any (is_ask_of number) before ≡ false =
    ap (λ n. list_any (is_ask_of n) before) right.next ∙ next_is_fresh version task before h.legal in
    let adds = request_adds version task before distinct h.legal number turn call right.due.stream i right fresh named streamed in
    record {
      fit = h.fit;
      legal = (grows version task before).next e h.legal right;
      known = facts ∙ h.known ∙ sym adds.same.known;
      notes = queue ∙ h.notes ∙ sym adds.same.notes;
      counted =
          ap length asked_is
          ∙ (let e : length (l.asked.items ++ i ∷ []) ≡ asks_of (before ++ entry.Ask number turn call ∷ []) =
          omega (arith, length-append l.asked.items (i ∷ []), h.counted, adds.asks) in
          e);
      asks = λ k j at. asks_by k j (at_push l.asked.items i j k (ap (λ is. slice_get is k) (sym asked_is) ∙ at)) right.due.stream streamed
          adds.here;
      unanswered =
          λ n. ap (λ ms. has_number ms n) unanswered_is ∙ any_push (λ m. n == m) l.unanswered.items number
          ∙ (λ t. h.unanswered n t || (n == number)) ∙ sym (adds.waiting n);
      answered = omega (
        arith,
        ap length unanswered_is,
        length-append l.unanswered.items (number ∷ []),
        h.answered,
        adds.asks,
        count_joined is_answer before (e ∷ []),
        count_one is_answer e,
      );
    }
  where
    asks_by : (k : ℕ) (j : Instance)
        → (slice_get l.asked.items k ≡ Some j) ⊎ ((k ≡ length l.asked.items) × (i ≡ j))
        → (stream : Stream)
        → slice_get task.streams i.stream ≡ Some stream
        → asked task (before ++ entry.Ask (length l.asked.items + 1) turn call ∷ []) (length l.asked.items + 1)
        ≡ Some (record { stream = stream; instance = i })
        → Asks task (before ++ entry.Ask (length l.asked.items + 1) turn call ∷ []) (k + 1) j
    asks_by k j (inl at) stream streamed here =
        let a = h.asks k j at in
        record {
          stream = a.stream;
          streamed = a.streamed;
          asks = asked-kept task before (entry.Ask (length l.asked.items + 1) turn call ∷ [])
              (k + 1) (record { stream = a.stream; instance = j }) a.asks;
        }
    asks_by k j (inr (last, is)) stream streamed here =
        subst (λ x. Asks task (before ++ entry.Ask (length l.asked.items + 1) turn call ∷ []) (k + 1) x) is
        (record {
          stream = stream;
          streamed = streamed;
          asks = ap (λ n. asked task (before ++ entry.Ask (length l.asked.items + 1) turn call ∷ []) (n + 1)) last ∙ here;
        })

-- ---- an answer

is_answer_so : (e : Entry) (n : ℕ) → answered_number e ≡ Some n → is_answer e ≡ true
is_answer_so (entry.Got m tuples values) n e = refl
is_answer_so (entry.Value m value) n e = refl
is_answer_so (entry.End m) n e = refl
is_answer_so (entry.Ask m turn call) n e = absurd (cc)
is_answer_so entry.Level n e = absurd (cc)
is_answer_so (entry.Dream uses steps) n e = absurd (cc)
is_answer_so entry.Nothing n e = absurd (cc)
is_answer_so entry.Reset n e = absurd (cc)
is_answer_so (entry.Pick m) n e = absurd (cc)
is_answer_so (entry.Retire m) n e = absurd (cc)

waits_for : (version : ℕ) (task : Task) (before : List Entry) (e : Entry) (n : ℕ)
    → answered_number e ≡ Some n
    → MayFollow version task before e → is_open before n ≡ true
waits_for version task before (entry.Got m tuples values) n e may =
    let same : m ≡ n = cc in ap (is_open before) (sym same) ∙ may.waiting
waits_for version task before (entry.Value m value) n e may =
    let same : m ≡ n = cc in ap (is_open before) (sym same) ∙ may.waiting
waits_for version task before (entry.End m) n e may =
    let same : m ≡ n = cc in ap (is_open before) (sym same) ∙ may
waits_for version task before (entry.Ask m turn call) n e may = absurd (cc)
waits_for version task before entry.Level n e may = absurd (cc)
waits_for version task before (entry.Dream uses steps) n e may = absurd (cc)
waits_for version task before entry.Nothing n e may = absurd (cc)
waits_for version task before entry.Reset n e may = absurd (cc)
waits_for version task before (entry.Pick m) n e may = absurd (cc)
waits_for version task before (entry.Retire m) n e may = absurd (cc)

no_ask : (e : Entry) (n : ℕ) → answered_number e ≡ Some n → count_by is_ask (e ∷ []) ≡ 0
no_ask (entry.Got m tuples values) n e = refl
no_ask (entry.Value m value) n e = refl
no_ask (entry.End m) n e = refl
no_ask (entry.Ask m turn call) n e = absurd (cc)
no_ask entry.Level n e = refl
no_ask (entry.Dream uses steps) n e = refl
no_ask entry.Nothing n e = refl
no_ask entry.Reset n e = refl
no_ask (entry.Pick m) n e = refl
no_ask (entry.Retire m) n e = refl

module _ (version : ℕ) (task : Task) (before : List Entry) (l : Knowledge) (e : Entry) (n : ℕ) (h : IsKnowledge version task before l)
    (few : length l.asked.items ≤ 100000) (answers : answered_number e ≡ Some n) (may : MayFollow version task before e) where
  open_here : is_open before n ≡ true
  open_here = waits_for version task before e n answers may

  same_asks : asks_of (before ++ e ∷ []) ≡ asks_of before
  same_asks = omega (arith, count_joined is_ask before (e ∷ []), no_ask e n answers)

  one_more : count_by is_answer (before ++ e ∷ []) ≡ count_by is_answer before + 1
  one_more =
      count_joined is_answer before (e ∷ [])
      ∙ ap (λ m. count_by is_answer before + m) (count_one is_answer e ∙ (λ i. cond (is_answer_so e n answers i) 1 0))

  left : length (without n l.unanswered.items) + 1 ≤ length l.unanswered.items
  left = fewer n l.unanswered.items (h.unanswered n ∙ open_here)

  pub can : CanLearn task l.asked.items (before ++ e ∷ [])
  can = record {
    version = version;
    fit = h.fit;
    legal = (grows version task before).next e h.legal may;
    counted = h.counted ∙ sym same_asks;
    asks = λ k i at. let a = h.asks k i at in
        record {
          stream = a.stream;
          streamed = a.streamed;
          asks = asked-kept task before (e ∷ []) (k + 1) (record { stream = a.stream; instance = i }) a.asks;
        };
    answered = omega (arith, h.answered, one_more, same_asks, left);
    few = few;
  }

  pub asked_here : (a : Asked) × (asked task before n ≡ Some a)
  asked_here =
      let w = answer_at task l.asked.items (before ++ e ∷ []) can (length before) n e (get_at_length before e) answers in
      let a = h.asks (n - 1) w.request.instance w.is in
      let same : n ≡ n - 1 + 1 = omega (arith, w.some) in
      (record { stream = a.stream; instance = w.request.instance }, ap (asked task before) same ∙ a.asks)

  pub answer_kept : (new : Knowledge) (a : Asked) → asked task before n ≡ Some a
      → new.facts.known ≡ known_of task (before ++ e ∷ [])
      → new.queue ≡ notes_of task (before ++ e ∷ []) → new.asked.items ≡ l.asked.items → new.unanswered.items ≡ without n l.unanswered.items
      → IsKnowledge version task (before ++ e ∷ []) new
  answer_kept new a was known notes asked_is unanswered_is =
      let adds = answer_adds version task before h.fit.problem.objects.names.distinct h.legal n a was e (answers_to e n answers) in
      record {
        fit = h.fit;
        legal = (grows version task before).next e h.legal may;
        known = known;
        notes = notes;
        counted = ap length asked_is ∙ can.counted;
        asks = λ k i at. can.asks k i (ap (λ is. slice_get is k) (sym asked_is) ∙ at);
        unanswered =
            λ k. ap (λ ms. has_number ms k) unanswered_is ∙ among_without n k l.unanswered.items ∙ (λ t. h.unanswered k t && not (k == n))
            ∙ sym (adds.waiting k);
        answered = omega (arith, ap length unanswered_is, left, h.answered, one_more, same_asks);
      }

-- ---- results

pub on_both : {T E : Type 0} (r : Result T E) {A B C : Type 0} → OnOk r A → OnOk r B → (A → B → C)
    → OnOk r C
on_both (Ok t) a b f = f a b
on_both (Err e) a b f = tt
