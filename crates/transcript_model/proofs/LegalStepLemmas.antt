-- What one entry more changes of a legal transcript.
use Rattle.std.proofs.Common.{◌≡◌, ℕ, Bool, true, false, cond, ◌&&◌, ◌||◌, ◌==◌, not, List, [], ◌∷◌, ◌++◌, map, replicate, refl, sym, subst, ap, ◌∙◌, None, Some, slice_get, eqb-true, eq-eqb}
use Rattle.std.proofs.lemmas.List.{append-nil}
use Rattle.std.proofs.lemmas.List.Folds.{list_any-append}
use Rattle.std.specs.List.{list_any, flat_map}
use Rattle.std.specs.Option.{option_or}
use Rattle.lemmas.proofs.Bools.{or_false}
use Rattle.task_model.specs.Initial.{declared_names}
use Rattle.task_model.specs.Known.{Known, with_facts, with_values, with_names}
use Rattle.lemmas.specs.Lists.{AreDistinct}
use Rattle.task_model.specs.Streams.{Yielded, Ended, worth_by}
use Rattle.task_model.specs.declared.stream.Instance.{Instance}
use Rattle.task_model.specs.declared.stream.Stream.{Stream}
use Rattle.task_model.specs.declared.task.Task.{Task}
use Rattle.transcript_model.specs.Laws.{ChangesNothing, AddsRequest, AddsAnswer, AddsMark}
use Rattle.transcript_model.specs.Legal.{IsLegal, IsRightAsk, is_ask, is_ask_of, is_answer_to, is_open, is_mark}
use Rattle.transcript_model.specs.Names.{generated, instance_of}
use Rattle.transcript_model.specs.Transcript.{Asked, asked, call_in, call_of, objects_in, names_of, known_of, notes_of, certified, told_value, note_of, yield_facts}
use Rattle.transcript_model.specs.declared.entry.Call.{Call}
use Rattle.transcript_model.specs.declared.entry.Entry.{Entry}
use Rattle.transcript_model.specs.declared.entry.Entry.TheVariants as entry
use Rattle.transcript_model.proofs.LegalNumberLemmas.{asks_marked, asks_more, answer_asked}
use Rattle.transcript_model.proofs.LegalPrefixLemmas.{longer, asked-kept, request_known}

-- ---- parts

call_of-then : (xs ys : List Entry) (n : ℕ)
    → call_of (xs ++ ys) n ≡ option_or (call_of xs n) (call_of ys n)
call_of-then [] ys n = refl
call_of-then (x ∷ xs) ys n =
    elim (call_in n x) as (λ o. option_or o (call_of (xs ++ ys) n) ≡ option_or (option_or o (call_of xs n)) (call_of ys n)) [
      | None ↦ call_of-then xs ys n
      | Some c ↦ refl
    ]

-- a number that no request has, has no call
no_call : (xs : List Entry) (n : ℕ) → list_any (is_ask_of n) xs ≡ false → call_of xs n ≡ None
no_call [] n e = refl
no_call (entry.Ask number turn call ∷ xs) n e =
    elim (n == number) as (λ b. (b || list_any (is_ask_of n) xs) ≡ false → option_or (cond b (Some call) None) (call_of xs n) ≡ None) [
      | true ↦ λ h. absurd (cc)
      | false ↦ λ h. no_call xs n h
    ] e
no_call (x ∷ xs) n e = no_call xs n e

no_true_false : {A : Type 0} (b : Bool) → b ≡ true → b ≡ false → A
no_true_false b t f = absurd (cc)

-- a mark is no request
pub mark_no_ask : (e : Entry) → is_mark e ≡ true → is_ask e ≡ false
mark_no_ask (entry.Ask number turn call) m = absurd (cc)
mark_no_ask e m = refl

module _ (version : ℕ) (task : Task) (before : List Entry)
    (distinct : AreDistinct (declared_names task)) (legal : IsLegal version task before) where
  -- ---- marks

  same_known : (e : Entry) → objects_in e ≡ [] → certified task (before ++ e ∷ []) e ≡ []
      → told_value task (before ++ e ∷ []) e ≡ []
      → note_of task (before ++ e ∷ []) e ≡ [] → ChangesNothing task before (before ++ e ∷ [])
  same_known e names facts values notes =
      let c = longer version task before (e ∷ []) distinct legal in
      let same_names : names_of task (before ++ e ∷ []) ≡ names_of task before =
      c.names ∙ ap (λ ns. with_names (names_of task before) (ns ++ [])) names in
      let same_facts : (known_of task (before ++ e ∷ [])).facts ≡ (known_of task before).facts =
      c.facts ∙ ap (λ fs. with_facts (known_of task before).facts (fs ++ [])) facts in
      let same_values : (known_of task (before ++ e ∷ [])).values ≡ (known_of task before).values =
      c.values ∙ ap (λ vs. with_values (known_of task before).values (vs ++ [])) values in
      record {
        known = λ i. record { names = same_names i; facts = same_facts i; values = same_values i };
        notes =
            c.notes ∙ ap (λ ns. notes_of task before ++ (ns ++ [])) notes
            ∙ append-nil (notes_of task before);
      }

  -- where no call is new, what was asked is the same
  same_asked : (e : Entry) (n : ℕ) → call_in n e ≡ None
      → asked task (before ++ e ∷ []) n ≡ asked task before n
  same_asked e n none =
      elim (list_any (is_ask_of n) before) as
      (λ b. list_any (is_ask_of n) before ≡ b → asked task (before ++ e ∷ []) n ≡ asked task before n) [
        | true ↦ λ there. let a = request_known version task before n legal there in asked-kept task before (e ∷ []) n a.0 a.1 ∙ sym a.1
        | false ↦ λ absent. let old = no_call before n absent in
            let new : call_of (before ++ e ∷ []) n ≡ None = rw (call_of-then before (e ∷ []) n, old, none) refl in rw (new, old) refl
      ] refl

  mark_open : (e : Entry) (n : ℕ) → is_ask_of n e ≡ false → is_answer_to n e ≡ false
      → is_open (before ++ e ∷ []) n ≡ is_open before n
  mark_open e n ask answer =
      rw (
        list_any-append (is_ask_of n) before (e ∷ []),
        list_any-append (is_answer_to n) before (e ∷ []),
        ask,
        answer,
        or_false (list_any (is_ask_of n) before),
        or_false (list_any (is_answer_to n) before),
      ) refl

  pub mark_adds : (e : Entry) → is_mark e ≡ true → AddsMark task before (before ++ e ∷ [])
  mark_adds e mark =
      record {
        same = same_known e (mark_objects e mark) (mark_facts e mark) (mark_values e mark) (mark_notes e mark);
        asks = asks_marked before e (mark_no_ask e mark);
        requests = λ n. same_asked e n (mark_call e n mark);
        waiting = λ n. mark_open e n (mark_ask_of e n mark) (mark_answer e n mark);
      }
    where
      mark_objects : (e : Entry) → is_mark e ≡ true → objects_in e ≡ []
      mark_objects (entry.Got n tuples values) m = absurd (cc)
      mark_objects e m = refl

      mark_facts : (e : Entry) → is_mark e ≡ true → certified task (before ++ e ∷ []) e ≡ []
      mark_facts (entry.Got n tuples values) m = absurd (cc)
      mark_facts e m = refl

      mark_values : (e : Entry) → is_mark e ≡ true → told_value task (before ++ e ∷ []) e ≡ []
      mark_values (entry.Value n value) m = absurd (cc)
      mark_values e m = refl

      mark_notes : (e : Entry) → is_mark e ≡ true → note_of task (before ++ e ∷ []) e ≡ []
      mark_notes (entry.Got n tuples values) m = absurd (cc)
      mark_notes (entry.Value n value) m = absurd (cc)
      mark_notes (entry.End n) m = absurd (cc)
      mark_notes e m = refl

      mark_call : (e : Entry) (n : ℕ) → is_mark e ≡ true → call_in n e ≡ None
      mark_call (entry.Ask number turn call) n m = absurd (cc)
      mark_call e n m = refl

      mark_ask_of : (e : Entry) (n : ℕ) → is_mark e ≡ true → is_ask_of n e ≡ false
      mark_ask_of (entry.Ask number turn call) n m = absurd (cc)
      mark_ask_of e n m = refl

      mark_answer : (e : Entry) (n : ℕ) → is_mark e ≡ true → is_answer_to n e ≡ false
      mark_answer (entry.Got number tuples values) n m = absurd (cc)
      mark_answer (entry.Value number value) n m = absurd (cc)
      mark_answer (entry.End number) n m = absurd (cc)
      mark_answer e n m = refl

  -- ---- requests

  pub request_adds : (number turn : ℕ) (call : Call) (stream : Stream) (i : Instance)
      → IsRightAsk task before number turn call
      → list_any (is_ask_of number) before ≡ false → instance_of task (names_of task before) call ≡ Some i
      → slice_get task.streams i.stream ≡ Some stream
      → AddsRequest task before (before ++ entry.Ask number turn call ∷ []) number (record { stream = stream; instance = i })
  request_adds number turn call stream i right fresh named there =
      let e = entry.Ask number turn call in
      let same = same_known e refl refl refl refl in
      let names : names_of task (before ++ e ∷ []) ≡ names_of task before = ap (λ (k : Known). k.names) same.known in
      let itself : (number == number) ≡ true = eq-eqb number number refl in
      let new_call : call_of (before ++ e ∷ []) number ≡ Some call =
      rw (call_of-then before (e ∷ []) number, no_call before number fresh, itself) refl in
      record {
        same = same;
        asks = asks_more before (e ∷ []);
        here = rw (new_call, names, named, there) refl;
        others = λ n other. same_asked e n (not_this n other);
        waiting = λ n. asked_open n;
      }
    where
      not_this : (n : ℕ) → ¬ (n ≡ number) → call_in n (entry.Ask number turn call) ≡ None
      not_this n other =
          elim (n == number) as (λ b. (n == number) ≡ b → cond b (Some call) None ≡ None) [
            | true ↦ λ same. absurd (other (eqb-true n number same))
            | false ↦ λ _. refl
          ] refl

      -- an answer to a number that no request has
      asked_open : (n : ℕ)
          → is_open (before ++ entry.Ask number turn call ∷ []) n ≡ (is_open before n || (n == number))
      asked_open n =
          rw (
            list_any-append (is_ask_of n) before (entry.Ask number turn call ∷ []),
            list_any-append (is_answer_to n) before (entry.Ask number turn call ∷ []),
            or_false (n == number),
            or_false (list_any (is_answer_to n) before),
          )
          (open_or (list_any (is_ask_of n) before) (list_any (is_answer_to n) before) (n == number) unanswered)
        where
          unanswered : (n == number) ≡ true → list_any (is_answer_to n) before ≡ false
          unanswered same =
              elim (list_any (is_answer_to n) before) as (λ b. list_any (is_answer_to n) before ≡ b → b ≡ false) [
                | true ↦ λ there. no_true_false _ (answer_asked version task before n legal there)
                    (ap (λ m. list_any (is_ask_of m) before) (eqb-true n number same) ∙ fresh)
                | false ↦ λ _. refl
              ] refl

          open_or : (ask answer this : Bool) → (this ≡ true → answer ≡ false)
              → ((ask || this) && not answer) ≡ ((ask && not answer) || this)
          open_or true true true only = no_true_false _ (sym (only refl)) refl
          open_or true true false only = refl
          open_or true false true only = refl
          open_or true false false only = refl
          open_or false true true only = no_true_false _ refl (only refl)
          open_or false true false only = refl
          open_or false false true only = refl
          open_or false false false only = refl

  -- ---- answers

  answer_open : (e : Entry) (n number : ℕ) → is_ask_of n e ≡ false
      → is_answer_to n e ≡ (n == number)
      → is_open (before ++ e ∷ []) n ≡ (is_open before n && not (n == number))
  answer_open e n number ask answer =
      rw (
        list_any-append (is_ask_of n) before (e ∷ []),
        list_any-append (is_answer_to n) before (e ∷ []),
        ask,
        answer,
        or_false (list_any (is_ask_of n) before),
        or_false (n == number),
      )
      (open_not (list_any (is_ask_of n) before) (list_any (is_answer_to n) before) (n == number))
    where
      open_not : (ask answer this : Bool)
          → (ask && not (answer || this)) ≡ ((ask && not answer) && not this)
      open_not true true this = refl
      open_not true false this = refl
      open_not false answer this = refl

  module _ (number : ℕ) (a : Asked) (was : asked task before number ≡ Some a) where
    got_adds : (tuples : ℕ) (values : List (List ℕ))
        → AddsAnswer task before (entry.Got number tuples values) number a
    got_adds tuples values =
        let e = entry.Got number tuples values in
        let c = longer version task before (e ∷ []) distinct legal in
        let names : names_of task (before ++ e ∷ []) ≡ with_names (names_of task before) (map generated values) =
        c.names ∙ ap (with_names (names_of task before)) (append-nil (map generated values)) in
        let new = asked-kept task before (e ∷ []) number a was in
        let certifies : flat_map (certified task (before ++ e ∷ []))
        (e ∷ []) ≡ yield_facts task (with_names (names_of task before) (map generated values)) a tuples values =
        append-nil (certified task (before ++ e ∷ []) e) ∙ rw new (ap (λ ns. yield_facts task ns a tuples values) names) in
        let facts : (known_of task (before ++ e ∷ [])).facts ≡ with_facts
        (known_of task before).facts (yield_facts task (with_names (names_of task before) (map generated values)) a tuples values) =
        c.facts ∙ ap (with_facts (known_of task before).facts) certifies in
        let noted : note_of task (before ++ e ∷ []) e ≡ replicate tuples (Yielded a.instance) = rw new refl in
        record {
          known = λ i. record { names = names i; facts = facts i; values = c.values i };
          notes =
              c.notes
              ∙ ap (λ ns. notes_of task before ++ ns) (append-nil (note_of task (before ++ e ∷ []) e) ∙ noted);
          asks = asks_marked before e refl;
          requests = λ n. same_asked e n refl;
          waiting = λ n. answer_open e n number refl refl;
        }

    value_adds : (value : ℕ) → AddsAnswer task before (entry.Value number value) number a
    value_adds value =
        let e = entry.Value number value in
        let c = longer version task before (e ∷ []) distinct legal in
        let new = asked-kept task before (e ∷ []) number a was in
        let told : told_value task (before ++ e ∷ []) e ≡ worth_by a.stream a.instance.inputs value = rw new refl in
        let values : (known_of task (before ++ e ∷ [])).values ≡ with_values
        (known_of task before).values (worth_by a.stream a.instance.inputs value) =
        c.values ∙ ap (with_values (known_of task before).values) (append-nil (told_value task (before ++ e ∷ []) e) ∙ told) in
        let noted : note_of task (before ++ e ∷ []) e ≡ Ended a.instance ∷ [] = rw new refl in
        record {
          known = λ i. record { names = c.names i; facts = c.facts i; values = values i };
          notes =
              c.notes
              ∙ ap (λ ns. notes_of task before ++ ns) (append-nil (note_of task (before ++ e ∷ []) e) ∙ noted);
          asks = asks_marked before e refl;
          requests = λ n. same_asked e n refl;
          waiting = λ n. answer_open e n number refl refl;
        }

    end_adds : AddsAnswer task before (entry.End number) number a
    end_adds =
        let e = entry.End number in
        let c = longer version task before (e ∷ []) distinct legal in
        let new = asked-kept task before (e ∷ []) number a was in
        let noted : note_of task (before ++ e ∷ []) e ≡ Ended a.instance ∷ [] = rw new refl in
        record {
          known = λ i. record { names = c.names i; facts = c.facts i; values = c.values i };
          notes =
              c.notes
              ∙ ap (λ ns. notes_of task before ++ ns) (append-nil (note_of task (before ++ e ∷ []) e) ∙ noted);
          asks = asks_marked before e refl;
          requests = λ n. same_asked e n refl;
          waiting = λ n. answer_open e n number refl refl;
        }

    pub answer_adds : (e : Entry) → is_answer_to number e ≡ true → AddsAnswer task before e number a
    answer_adds (entry.Got n tuples values) same =
        subst (λ m. AddsAnswer task before (entry.Got m tuples values) number a) (eqb-true number n same) (got_adds tuples values)
    answer_adds (entry.Value n value) same =
        subst (λ m. AddsAnswer task before (entry.Value m value) number a) (eqb-true number n same) (value_adds value)
    answer_adds (entry.End n) same =
        subst (λ m. AddsAnswer task before (entry.End m) number a) (eqb-true number n same) end_adds
    answer_adds e same = absurd (cc)
