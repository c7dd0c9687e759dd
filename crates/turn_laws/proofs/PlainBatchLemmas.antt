-- The rounds of a batch make the requests that one round of all its instances would make, and their answers come in the same order.
use Rattle.std.proofs.Common.{◌≡◌, ℕ, zero, suc, ◌+◌, true, false, cond, Contains, List, [], ◌∷◌, ◌++◌, length, refl, sym, ap, subst, ◌∙◌, arith, append_assoc, count_by}
use Rattle.std.proofs.lemmas.List.{length-append}
use Rattle.std.proofs.lemmas.List.Elements.{Contains-append_left, Contains-append_right, filter-append}
use Rattle.std.proofs.lemmas.List.Sums.{sum_by-append}
use Rattle.std.specs.List.{filter}
use Rattle.lemmas.proofs.Ascending.{contains_here, contains_later}
use Rattle.lemmas.specs.Lists.{AreDistinct}
use Rattle.turn_laws.proofs.PlainRequestedLemmas.{AreNamed, call_kept, named_kept, yields_kept}
use Rattle.task_model.specs.Fit.{IsFit}
use Rattle.task_model.specs.Streams.{yields_of}
use Rattle.task_model.specs.declared.stream.Instance.{Instance}
use Rattle.task_model.specs.declared.task.Task.{Task}
use Rattle.transcript_model.proofs.LegalNumberLemmas.{asks_more}
use Rattle.transcript_model.proofs.LegalPrefixLemmas.{legal_front}
use Rattle.transcript_model.proofs.RoundsLemmas.{answers_asks, requests_asks}
use Rattle.transcript_model.specs.Legal.{IsLegal, asks_of, is_answer, is_answer_to, is_ask, is_level}
use Rattle.transcript_model.specs.Names.{call_of_instance}
use Rattle.transcript_model.specs.Rounds.{AreAnswers, AreRounds, AreRoundsRun, Share, requests, requests_from}
use Rattle.transcript_model.specs.Transcript.{names_of, notes_of}
use Rattle.transcript_model.specs.declared.entry.Entry.{Entry}
use Rattle.transcript_model.specs.declared.entry.Entry.TheVariants as entry
use Rattle.lemmas.proofs.Distinct.{distinct_apart, distinct_right}

-- ---- lists

pub levels_more : (xs ys : List Entry) → count_by is_level (xs ++ ys) ≡ count_by is_level xs + count_by is_level ys
levels_more xs ys = sum_by-append (λ e. cond (is_level e) 1 0) xs ys

-- ---- requests and answers, by themselves

module _ (task : Task) (start : List Entry) where
  pub asks_found : (number : ℕ) (list : List Instance)
      → filter is_ask (requests_from task start number list) ≡ requests_from task start number list
  asks_found number [] = refl
  asks_found number (i ∷ list) =
      ap (λ es. entry.Ask number (yields_of (notes_of task start) i) (call_of_instance task (names_of task start) i) ∷ es)
      (asks_found (number + 1) list)

  pub no_answers : (number : ℕ) (list : List Instance) → filter is_answer (requests_from task start number list) ≡ []
  no_answers number [] = refl
  no_answers number (i ∷ list) = no_answers (number + 1) list

  pub no_levels : (number : ℕ) (list : List Instance) → count_by is_level (requests_from task start number list) ≡ 0
  no_levels number [] = refl
  no_levels number (i ∷ list) =
      let one = entry.Ask number (yields_of (notes_of task start) i) (call_of_instance task (names_of task start) i) in
      let first : count_by is_level (one ∷ []) ≡ 0 = refl in
      omega (arith, levels_more (one ∷ []) (requests_from task start (number + 1) list), first, no_levels (number + 1) list)

  requests_joined : (number : ℕ) (xs ys : List Instance)
      → requests_from task start number (xs ++ ys)
      ≡ requests_from task start number xs ++ requests_from task start (number + length xs) ys
  requests_joined number [] ys = ap (λ n. requests_from task start n ys) (let n : number ≡ number + 0 = omega arith in n)
  requests_joined number (x ∷ xs) ys =
      ap (λ es. entry.Ask number (yields_of (notes_of task start) x) (call_of_instance task (names_of task start) x) ∷ es)
      (requests_joined (number + 1) xs ys
      ∙ ap (λ n. requests_from task start (number + 1) xs ++ requests_from task start n ys)
      (let n : (number + 1) + length xs ≡ number + suc (length xs) = omega arith in n))

answer_found : (number : ℕ) (e : Entry) → is_answer_to number e ≡ true
    → (is_ask e ≡ false) × (is_answer e ≡ true) × (is_level e ≡ false)
answer_found number (entry.Got n tuples values) to = (refl, refl, refl)
answer_found number (entry.Value n value) to = (refl, refl, refl)
answer_found number (entry.End n) to = (refl, refl, refl)
answer_found number e to = absurd (cc)

-- answers are no requests and no levels
pub record AreOnlyAnswers (es : List Entry) : Type 0 where
  pub asks : filter is_ask es ≡ []
  pub answers : filter is_answer es ≡ es
  pub levels : count_by is_level es ≡ 0

pub only_answers : (number n : ℕ) (es : List Entry) → AreAnswers number n es → AreOnlyAnswers es
only_answers number zero [] are = record { asks = refl; answers = refl; levels = refl }
only_answers number zero (e ∷ es) are = absurd are
only_answers number (suc n) [] are = absurd are
only_answers number (suc n) (e ∷ es) (to, are) =
    let one = answer_found number e to in
    let more = only_answers (number + 1) n es are in
    record {
      asks = ap (λ b. cond b (e ∷ filter is_ask es) (filter is_ask es)) one.0 ∙ more.asks;
      answers = ap (λ b. cond b (e ∷ filter is_answer es) (filter is_answer es)) one.1 ∙ ap (λ xs. e ∷ xs) more.answers;
      levels =
          let first : count_by is_level (e ∷ []) ≡ 0 = rw one.2 refl in
          omega (arith, levels_more (e ∷ []) es, first, more.levels);
    }

answers_joined : (number a b : ℕ) (xs ys : List Entry) → AreAnswers number a xs → AreAnswers (number + a) b ys
    → AreAnswers number (a + b) (xs ++ ys)
answers_joined number zero b [] ys first second =
    subst (λ n. AreAnswers number n ys) (let n : b ≡ 0 + b = omega arith in n)
    (subst (λ n. AreAnswers n b ys) (let n : number + 0 ≡ number = omega arith in n) second)
answers_joined number zero b (x ∷ xs) ys first second = absurd first
answers_joined number (suc a) b [] ys first second = absurd first
answers_joined number (suc a) b (x ∷ xs) ys (to, first) second =
    let behind : AreAnswers ((number + 1) + a) b ys =
    subst (λ n. AreAnswers n b ys) (let n : number + suc a ≡ (number + 1) + a = omega arith in n) second in
    let later = answers_joined (number + 1) a b xs ys first behind in
    subst (λ n. AreAnswers number n (x ∷ (xs ++ ys))) (let n : suc (a + b) ≡ suc a + b = omega arith in n) (to, later)

-- ---- rounds, one behind the other

-- Behind `before` the instances are shown, and have yielded, as behind `start`.
pub record StandAs (task : Task) (start before : List Entry) (list : List Instance) : Type 0 where
  pub named : AreNamed task (names_of task before) list
  pub calls : (i : Instance) → Contains list i
      → call_of_instance task (names_of task before) i ≡ call_of_instance task (names_of task start) i
  pub yields : (i : Instance) → Contains list i → yields_of (notes_of task before) i ≡ yields_of (notes_of task start) i

-- These entries are the requests for the list, as they would be made behind `start`, and answers in their order.
pub record IsOneRound (task : Task) (start : List Entry) (number : ℕ) (list : List Instance) (now : List Entry) : Type 0 where
  pub asks : filter is_ask now ≡ requests_from task start number list
  pub answers : AreAnswers number (length list) (filter is_answer now)
  pub levels : count_by is_level now ≡ 0

module _ (version : ℕ) (task : Task) (fit : IsFit task) (pools : List Share) where
  same_requests : (start before : List Entry) (number : ℕ) (list : List Instance)
      → ((i : Instance) → Contains list i
      → call_of_instance task (names_of task before) i ≡ call_of_instance task (names_of task start) i)
      → ((i : Instance) → Contains list i → yields_of (notes_of task before) i ≡ yields_of (notes_of task start) i)
      → requests_from task before number list ≡ requests_from task start number list
  same_requests start before number [] calls yields = refl
  same_requests start before number (i ∷ list) calls yields = λ k.
      entry.Ask number (yields i (contains_here i list) k) (calls i (contains_here i list) k)
      ∷ same_requests start before (number + 1) list (λ x m. calls x (contains_later i list x m))
      (λ x m. yields x (contains_later i list x m)) k

  -- behind a round the others stand as before
  stand_later : (start before answers : List Entry) (round rest : List Instance)
      → IsLegal version task (before ++ (requests task before round ++ answers))
      → StandAs task start before (round ++ rest) → AreDistinct (round ++ rest)
      → AreAnswers (asks_of before + 1) (length round) answers
      → StandAs task start (before ++ (requests task before round ++ answers)) rest
  stand_later start before answers round rest legal stand distinct are =
      let now = requests task before round ++ answers in
      let in_rest : (i : Instance) → Contains rest i → Contains (round ++ rest) i = λ i m. Contains-append_right round rest i m in
      let in_round : (i : Instance) → Contains round i → Contains (round ++ rest) i = λ i m. Contains-append_left round rest i m in
      record {
        named = named_kept task before now rest
            (record { streamed = λ i m. stand.named.streamed i (in_rest i m); inputs = λ i m. stand.named.inputs i (in_rest i m) });
        calls = λ i m. call_kept task before now i (stand.named.inputs i (in_rest i m)) ∙ stand.calls i (in_rest i m);
        yields = λ i m. yields_kept version task fit before answers (asks_of before + 1) round i legal
            (record { streamed = λ x c. stand.named.streamed x (in_round x c); inputs = λ x c. stand.named.inputs x (in_round x c) })
            (λ first. distinct_apart round rest i distinct first m) are ∙ stand.yields i (in_rest i m);
      }

  pub rounds_one : (start : List Entry) (rounds : List (List Instance)) (list : List Instance) (before now : List Entry)
      → IsLegal version task (before ++ now) → StandAs task start before list → AreDistinct list
      → AreRounds pools list rounds → AreRoundsRun task before rounds now
      → IsOneRound task start (asks_of before + 1) list now
  rounds_one start [] list before now legal stand distinct none run =
      subst (λ es. IsOneRound task start (asks_of before + 1) list es) (sym run)
      (subst (λ is. IsOneRound task start (asks_of before + 1) is []) (sym none) (record { asks = refl; answers = tt; levels = refl }))
  rounds_one start (round ∷ rounds) list before now legal stand distinct
      (rest, parts, some, fit_round, full, more) (first, later, is, (answers, first_is, are), run) =
      let asks = requests task before round in
      let number = asks_of before + 1 in
      let whole : before ++ now ≡ (before ++ (asks ++ answers)) ++ later =
      ap (λ es. before ++ es) (is ∙ ap (λ es. es ++ later) first_is) ∙ sym (append_assoc before (asks ++ answers) later) in
      let all = subst (IsLegal version task) whole legal in
      let here = legal_front version task (before ++ (asks ++ answers)) later all in
      let both = subst AreDistinct parts distinct in
      let stands = subst (StandAs task start before) parts stand in
      let behind = subst (λ es. AreRoundsRun task (before ++ es) rounds later) first_is run in
      let next = rounds_one start rounds rest
      (before ++ (asks ++ answers)) later all (stand_later start before answers round rest here stands both are)
      (distinct_right round rest both) more behind in
      let count : asks_of (before ++ (asks ++ answers)) + 1 ≡ number + length round =
      omega (
        arith,
        asks_more before (asks ++ answers),
        asks_more asks answers,
        requests_asks task before number round,
        answers_asks number (length round) answers are,
      ) in
      let only = only_answers number (length round) answers are in
      let same : asks ≡ requests_from task start number round =
      same_requests start before number round (λ i m. stands.calls i (Contains-append_left round rest i m))
      (λ i m. stands.yields i (Contains-append_left round rest i m)) in
      let parted : now ≡ asks ++ (answers ++ later) = is ∙ ap (λ es. es ++ later) first_is ∙ append_assoc asks answers later in
      record {
        asks =
            ap (filter is_ask) parted ∙ filter-append is_ask asks (answers ++ later)
            ∙ ap (λ es. filter is_ask asks ++ es)
            (filter-append is_ask answers later ∙ ap (λ es. es ++ filter is_ask later) only.asks ∙ next.asks)
            ∙ ap (λ es. es ++ requests_from task start (asks_of (before ++ (asks ++ answers)) + 1) rest)
            (asks_found task before number round ∙ same)
            ∙ ap (λ n. requests_from task start number round ++ requests_from task start n rest) count
            ∙ sym (requests_joined task start number round rest) ∙ ap (requests_from task start number) (sym parts);
        answers =
            let found : filter is_answer now ≡ answers ++ filter is_answer later =
            ap (filter is_answer) parted ∙ filter-append is_answer asks (answers ++ later)
            ∙ ap (λ es. es ++ filter is_answer (answers ++ later)) (no_answers task before number round)
            ∙ filter-append is_answer answers later ∙ ap (λ es. es ++ filter is_answer later) only.answers in
            let after = subst (λ n. AreAnswers n (length rest) (filter is_answer later)) count next.answers in
            let long : length round + length rest ≡ length list = sym (length-append round rest) ∙ ap length (sym parts) in
            subst (AreAnswers number (length list)) (sym found)
            (subst (λ n. AreAnswers number n (answers ++ filter is_answer later)) long
            (answers_joined number (length round) (length rest) answers (filter is_answer later) are after));
        levels =
            omega (
              arith,
              ap (count_by is_level) parted,
              levels_more asks (answers ++ later),
              levels_more answers later,
              no_levels task before number round,
              only.levels,
              next.levels,
            );
      }
