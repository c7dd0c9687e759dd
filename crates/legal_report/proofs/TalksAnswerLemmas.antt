-- Whether an answer may be given, by the tests of what is known.
use Rattle.std.proofs.Common.{◌≡◌, ℕ, ◌+◌, ◌-◌, ◌*◌, ◌==◌, Bool, true, false, not, List, [], ◌∷◌, length, refl, sym, ap, subst, ◌∙◌, arith, Some, slice_get, is_none, All, eqb-true, eq-eqb}
use Rattle.std.proofs.lemmas.List.Elements.{All-head, All-tail}
use Rattle.std.specs.Cmp.{first_so, second_so}
use Rattle.std.specs.List.{list_all}
use Rattle.gen_lines.specs.Reply.{is_value, IsRight}
use Rattle.task_model.specs.declared.task.Task.{Task}
use Rattle.report_text.specs.Forms.{AreTuples, IsFormedEntry}
use Rattle.transcript_model.specs.Legal.{MayFollow, has_several, is_open, answered_number}
use Rattle.transcript_model.specs.Transcript.{Asked, asked}
use Rattle.transcript_model.specs.declared.entry.Entry.{Entry}
use Rattle.transcript_model.specs.declared.entry.Entry.TheVariants as entry
use Rattle.legal_report.proofs.TalksAskLemmas.{opened}
use Rattle.learning.specs.Knowledge.{IsKnowledge}
use Rattle.lemmas.specs.Lists.{has_number}
use Rattle.legal_report.specs.Talks.{may_answer, may_give}
use Rattle.learning.specs.declared.knowledge.Knowledge.{Knowledge}
use Rattle.std.proofs.lemmas.Bool.{and_from, not-true, false≢true}
use Rattle.lemmas.proofs.Options.{same_some}
use Rattle.lemmas.proofs.ListTests.{get_there}

all_pass : (p : List ℕ → Bool) (xs : List (List ℕ)) → All (λ v. p v ≡ true) xs
    → list_all p xs ≡ true
all_pass p [] every = refl
all_pass p (x ∷ xs) every =
    and_from (p x) (list_all p xs) (All-head (λ v. p v ≡ true) x xs every) (all_pass p xs (All-tail (λ v. p v ≡ true) x xs every))

not_several : (version : ℕ) → has_several version ≡ false → version ≡ 1
not_several version e = by (version == 1) refl e
  where
    by : (b : Bool) → (version == 1) ≡ b → not b ≡ false → version ≡ 1
    by true is e = eqb-true version 1 is
    by false is e = absurd (false≢true (sym e))

-- tuples of a formed yield that are as wide as the stream says
right : (version tuples width : ℕ) (values : List (List ℕ)) → AreTuples version tuples values
    → length values ≡ tuples * width
    → IsRight width (has_several version) tuples values
right version tuples width values formed count = record {
  some = formed.some;
  few = formed.few;
  one = λ e. formed.one (not_several version e);
  test = λ none. formed.empty (count ∙ ap (λ w. tuples * w) none ∙ (let e : tuples * 0 ≡ 0 = omega arith in e));
  count = count;
  valid = all_pass is_value values formed.each;
}

module _ (version : ℕ) (task : Task) (before : List Entry) (l : Knowledge) (h : IsKnowledge version task before l) where
  -- what an open request asks, as the knowledge has it
  pub record Found (n : ℕ) : Type 0 where
    pub request : Asked
    pub at : slice_get l.asked.items (n - 1) ≡ Some request.instance
    pub streamed : slice_get task.streams request.instance.stream ≡ Some request.stream
    pub of : asked task before n ≡ Some request

  found : (n : ℕ) → is_open before n ≡ true → Found n
  found n waits =
      let within = opened version task before n h.legal waits in
      let there = get_there l.asked.items (n - 1) (omega (arith, within.0, within.1, h.counted)) in
      let its = h.asks (n - 1) there.0 there.1 in
      let back : n ≡ n - 1 + 1 = omega (arith, within.0) in
      record {
        request = record { stream = its.stream; instance = there.0 };
        at = there.1;
        streamed = its.streamed;
        of = ap (asked task before) back ∙ its.asks;
      }

  -- the test is that of the stream that was asked
  test_is : (n : ℕ) (e : Entry) → is_open before n ≡ true → (f : Found n)
      → may_answer task l n e ≡ may_give f.request.stream e
  test_is n e waits f =
      let among : has_number l.unanswered.items n ≡ true = h.unanswered n ∙ waits in
      let at : slice_get l.asked.items (n - 1) ≡ Some f.request.instance = f.at in
      let streamed : slice_get task.streams f.request.instance.stream ≡ Some f.request.stream = f.streamed in
      rw among (rw at (rw streamed refl))

  is_waiting : (n : ℕ) (e : Entry) → may_answer task l n e ≡ true → is_open before n ≡ true
  is_waiting n e passed = by (has_number l.unanswered.items n) refl
    where
      by : (b : Bool) → has_number l.unanswered.items n ≡ b → is_open before n ≡ true
      by true is = sym (h.unanswered n) ∙ is
      by false is = let r : false ≡ true = rw is at passed in absurd (false≢true r)

  gives : (n : ℕ) (e : Entry) → IsFormedEntry version e → answered_number e ≡ Some n
      → is_open before n ≡ true → (f : Found n)
      → may_give f.request.stream e ≡ true → MayFollow version task before e
  gives n (entry.Got m tuples values) formed is waits f given =
      let same : m ≡ n = cc in
      subst (λ k. MayFollow version task before (entry.Got k tuples values)) (sym same)
      (record {
        waiting = waits;
        request = f.request;
        of = f.of;
        no_cost = first_so (is_none f.request.stream.worth) (length values == tuples * length f.request.stream.outputs) given;
        right = right version tuples (length f.request.stream.outputs) values formed.1
            (eqb-true (length values) (tuples * length f.request.stream.outputs)
            (second_so (is_none f.request.stream.worth) (length values == tuples * length f.request.stream.outputs) given));
      })
  gives n (entry.Value m value) formed is waits f given =
      let same : m ≡ n = cc in
      subst (λ k. MayFollow version task before (entry.Value k value)) (sym same)
      (record { waiting = waits; request = f.request; of = f.of; cost = not-true (is_none f.request.stream.worth) given; few = formed.1 })
  gives n (entry.End m) formed is waits f given =
      let same : m ≡ n = cc in ap (is_open before) same ∙ waits
  gives n (entry.Ask m turn call) formed is waits f given = absurd (cc)
  gives n entry.Level formed is waits f given = absurd (cc)
  gives n (entry.Dream uses steps) formed is waits f given = absurd (cc)
  gives n entry.Nothing formed is waits f given = absurd (cc)
  gives n entry.Reset formed is waits f given = absurd (cc)
  gives n (entry.Pick m) formed is waits f given = absurd (cc)
  gives n (entry.Retire m) formed is waits f given = absurd (cc)

  pub may_be_given : (n : ℕ) (e : Entry) → IsFormedEntry version e → answered_number e ≡ Some n
      → may_answer task l n e ≡ true
      → MayFollow version task before e
  may_be_given n e formed is passed =
      let waits = is_waiting n e passed in
      let f = found n waits in
      gives n e formed is waits f (sym (test_is n e waits f) ∙ passed)

  given_by : (n : ℕ) (e : Entry) → answered_number e ≡ Some n → MayFollow version task before e
      → (f : Found n)
      → may_give f.request.stream e ≡ true
  given_by n (entry.Got m tuples values) is may f =
      let same : m ≡ n = cc in
      let request : may.request ≡ f.request =
      same_some (asked task before n) may.request f.request (ap (asked task before) (sym same) ∙ may.of) f.of in
      and_from (is_none f.request.stream.worth) (length values == tuples * length f.request.stream.outputs)
      (ap (λ (a : Asked). is_none a.stream.worth) (sym request) ∙ may.no_cost)
      (eq-eqb (length values) (tuples * length f.request.stream.outputs)
      (may.right.count ∙ ap (λ (a : Asked). tuples * length a.stream.outputs) request))
  given_by n (entry.Value m value) is may f =
      let same : m ≡ n = cc in
      let request : may.request ≡ f.request =
      same_some (asked task before n) may.request f.request (ap (asked task before) (sym same) ∙ may.of) f.of in
      ap not (ap (λ (a : Asked). is_none a.stream.worth) (sym request) ∙ may.cost)
  given_by n (entry.End m) is may f = refl
  given_by n (entry.Ask m turn call) is may f = absurd (cc)
  given_by n entry.Level is may f = absurd (cc)
  given_by n (entry.Dream uses steps) is may f = absurd (cc)
  given_by n entry.Nothing is may f = absurd (cc)
  given_by n entry.Reset is may f = absurd (cc)
  given_by n (entry.Pick m) is may f = absurd (cc)
  given_by n (entry.Retire m) is may f = absurd (cc)

  waits_for : (n : ℕ) (e : Entry) → answered_number e ≡ Some n → MayFollow version task before e
      → is_open before n ≡ true
  waits_for n (entry.Got m tuples values) is may =
      let same : m ≡ n = cc in ap (is_open before) (sym same) ∙ may.waiting
  waits_for n (entry.Value m value) is may =
      let same : m ≡ n = cc in ap (is_open before) (sym same) ∙ may.waiting
  waits_for n (entry.End m) is may = let same : m ≡ n = cc in ap (is_open before) (sym same) ∙ may
  waits_for n (entry.Ask m turn call) is may = absurd (cc)
  waits_for n entry.Level is may = absurd (cc)
  waits_for n (entry.Dream uses steps) is may = absurd (cc)
  waits_for n entry.Nothing is may = absurd (cc)
  waits_for n entry.Reset is may = absurd (cc)
  waits_for n (entry.Pick m) is may = absurd (cc)
  waits_for n (entry.Retire m) is may = absurd (cc)

  pub must_be_given : (n : ℕ) (e : Entry) → answered_number e ≡ Some n
      → MayFollow version task before e → may_answer task l n e ≡ true
  must_be_given n e is may =
      let waits = waits_for n e is may in
      let f = found n waits in
      test_is n e waits f ∙ given_by n e is may f
