-- A legal transcript has at most as many answers as requests.
use Rattle.std.proofs.Common.{◌≡◌, ℕ, zero, suc, ◌+◌, ◌<◌, ◌≤◌, Bool, true, false, cond, ◌||◌, not, Contains, List, [], ◌∷◌, ◌++◌, length, take, Some, slice_get, refl, sym, ap, subst, ◌∙◌, arith, count_by, eq-eqb, inl, inr}
use Rattle.std.proofs.lemmas.List.{take_all}
use Rattle.std.proofs.lemmas.List.Folds.{list_any-append}
use Rattle.std.specs.Cmp.{second_so}
use Rattle.std.specs.List.{list_any}
use Rattle.std.proofs.lemmas.Bool.{not-true}
use Rattle.lemmas.proofs.Ascending.{contains_cases, contains_none}
use Rattle.lemmas.proofs.Bools.{or_false, or_true}
use Rattle.lemmas.proofs.Distinct.{distinct_cons}
use Rattle.lemmas.proofs.ListTests.{any_append_left, get_there, number_found}
use Rattle.lemmas.proofs.Members.{distinct_nil, member_at, take_next}
use Rattle.lemmas.proofs.Numbers.{in_numbers, length-numbers_from}
use Rattle.lemmas.proofs.Pigeonhole.{pigeons}
use Rattle.lemmas.specs.Lists.{AreDistinct, numbers_from}
use Rattle.lemmas.proofs.Counts.{count_joined, count_one}
use Rattle.task_model.specs.declared.task.Task.{Task}
use Rattle.transcript_model.proofs.LegalNumberLemmas.{answer_asked, number_below, waiting_of}
use Rattle.transcript_model.specs.Legal.{IsLegal, asks_of, is_answer, is_answer_to, is_ask_of}
use Rattle.transcript_model.specs.declared.entry.Entry.{Entry}
use Rattle.transcript_model.specs.declared.entry.Entry.TheVariants as entry

-- a number of such a list stands in it
listed : (first count n : ℕ) → first ≤ n → n < first + count → Contains (numbers_from first count) n
listed first count n low high =
    let found = number_found (numbers_from first count) n (in_numbers first count n low high) in
    member_at (numbers_from first count) found.0 n found.1

answers_number : (e : Entry) → is_answer e ≡ true → (n : ℕ) × (is_answer_to n e ≡ true)
answers_number (entry.Got n tuples values) is = (n, eq-eqb n n refl)
answers_number (entry.Value n value) is = (n, eq-eqb n n refl)
answers_number (entry.End n) is = (n, eq-eqb n n refl)
answers_number e is = absurd (cc)

module _ (version : ℕ) (task : Task) (entries : List Entry) (legal : IsLegal version task entries) where
  -- the numbers that were answered up to a place, each once
  record AreAnswered (k : ℕ) : Type 0 where
    numbers : List ℕ
    distinct : AreDistinct numbers
    each : (n : ℕ) → Contains numbers n → list_any (is_answer_to n) (take k entries) ≡ true
    count : length numbers ≡ count_by is_answer (take k entries)

  answered_next : (k : ℕ) (e : Entry) → slice_get entries k ≡ Some e → AreAnswered k → AreAnswered (suc k)
  answered_next k e at before = by (is_answer e) refl
    where
      next : take (suc k) entries ≡ take k entries ++ e ∷ []
      next = take_next entries k e at

      kept : (n : ℕ) → list_any (is_answer_to n) (take k entries) ≡ true → list_any (is_answer_to n) (take (suc k) entries) ≡ true
      kept n is = ap (list_any (is_answer_to n)) next ∙ any_append_left (is_answer_to n) (take k entries) (e ∷ []) is

      by : (b : Bool) → is_answer e ≡ b → AreAnswered (suc k)
      by false none = record {
        numbers = before.numbers;
        distinct = before.distinct;
        each = λ n m. kept n (before.each n m);
        count =
            let one : cond {A = ℕ} (is_answer e) 1 0 ≡ 0 = ap (λ b. cond {A = ℕ} b 1 0) none in
            omega (
              arith,
              before.count,
              ap (count_by is_answer) next,
              count_joined is_answer (take k entries) (e ∷ []),
              count_one is_answer e,
              one,
            );
      }
      by true some =
          let n = answers_number e some in
          let waiting = waiting_of version task (take k entries) n.0 e (legal k e at) n.1 in
          let unanswered : list_any (is_answer_to n.0) (take k entries) ≡ false =
          not-true (list_any (is_answer_to n.0) (take k entries))
          (second_so (list_any (is_ask_of n.0) (take k entries)) (not (list_any (is_answer_to n.0) (take k entries))) waiting) in
          let one : cond {A = ℕ} (is_answer e) 1 0 ≡ 1 = ap (λ b. cond {A = ℕ} b 1 0) some in
          record {
            numbers = n.0 ∷ before.numbers;
            distinct = distinct_cons n.0 before.numbers before.distinct
                (λ m. let no : true ≡ false = sym (before.each n.0 m) ∙ unanswered in cc);
            each = λ x m. elim (contains_cases n.0 before.numbers x m) [
              | inl same ↦ subst (λ y. list_any (is_answer_to y) (take (suc k) entries) ≡ true) same
                  (ap (list_any (is_answer_to n.0)) next ∙ list_any-append (is_answer_to n.0) (take k entries) (e ∷ [])
                  ∙ ap (λ b. list_any (is_answer_to n.0) (take k entries) || b) (or_false (is_answer_to n.0 e) ∙ n.1)
                  ∙ or_true (list_any (is_answer_to n.0) (take k entries)))
              | inr there ↦ kept x (before.each x there)
            ];
            count = omega (
              arith,
              before.count,
              ap (count_by is_answer) next,
              count_joined is_answer (take k entries) (e ∷ []),
              count_one is_answer e,
              one,
            );
          }

  answered_upto : (k : ℕ) → k ≤ length entries → AreAnswered k
  answered_upto zero within = record {
    numbers = [];
    distinct = distinct_nil;
    each = λ n m. absurd (contains_none n m);
    count = refl;
  }
  answered_upto (suc k) within =
      let there = get_there entries k (omega (arith, within)) in
      answered_next k there.0 there.1 (answered_upto k (omega (arith, within)))

  -- there are at most as many answers as requests
  pub answers_few : count_by is_answer entries ≤ asks_of entries
  answers_few =
      let all = answered_upto (length entries) (omega arith) in
      let whole : take (length entries) entries ≡ entries = take_all (length entries) entries (omega arith) in
      let fits = pigeons all.numbers (numbers_from 1 (asks_of entries)) all.distinct (λ n m.
      let answered = ap (list_any (is_answer_to n)) (sym whole) ∙ all.each n m in
      let range = number_below version task entries n legal (answer_asked version task entries n legal answered) in
      listed 1 (asks_of entries) n (omega (arith, range.0)) (omega (arith, range.1))) in
      omega (arith, fits, all.count, ap (count_by is_answer) whole, length-numbers_from 1 (asks_of entries))
