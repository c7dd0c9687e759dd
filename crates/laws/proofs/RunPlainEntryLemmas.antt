-- The entries of batches, and how many of them are answers.
use Rattle.std.proofs.Common.{◌≡◌, ℕ, zero, suc, ◌+◌, Bool, true, false, List, [], ◌∷◌, ◌++◌, length, count_by, refl, sym, ap, subst, ◌∙◌, arith}
use Rattle.std.proofs.lemmas.List.{length-append}
use Rattle.std.proofs.lemmas.List.Folds.{list_all-append}
use Rattle.std.specs.List.{list_all}
use Rattle.lemmas.proofs.Counts.{count_joined}
use Rattle.task_model.specs.Streams.{yields_of}
use Rattle.task_model.specs.declared.stream.Instance.{Instance}
use Rattle.task_model.specs.declared.task.Task.{Task}
use Rattle.transcript_model.proofs.LegalNumberLemmas.{asks_more}
use Rattle.transcript_model.specs.Legal.{asks_of, is_answer_to, is_answer}
use Rattle.transcript_model.specs.Names.{call_of_instance}
use Rattle.transcript_model.specs.Rounds.{Limits, AreAnswers, AreRounds, AreRoundsRun, requests, requests_from}
use Rattle.transcript_model.specs.Transcript.{names_of, notes_of}
use Rattle.transcript_model.specs.declared.entry.Entry.{Entry}
use Rattle.transcript_model.specs.declared.entry.Entry.TheVariants as entry
use Rattle.std.proofs.lemmas.Bool.{and_from}
use Rattle.transcript_model.proofs.RoundsLemmas.{requests_asks}

-- ---- the entries of batches

-- the line of a level, a request or an answer
abbrev pub is_plain : Entry → Bool
is_plain entry.Level = true
is_plain (entry.Ask number turn call) = true
is_plain (entry.Got number tuples values) = true
is_plain (entry.Value number value) = true
is_plain (entry.End number) = true
is_plain e = false

-- all are such, and so many of them are answers, and so many requests
pub record ArePlain (es : List Entry) (many : ℕ) : Type 0 where
  pub plain : list_all is_plain es ≡ true
  pub answers : count_by is_answer es ≡ many
  pub asks : asks_of es ≡ many

joined_plain : (xs ys : List Entry) → list_all is_plain xs ≡ true → list_all is_plain ys ≡ true
    → list_all is_plain (xs ++ ys) ≡ true
joined_plain xs ys first second =
    list_all-append is_plain xs ys
    ∙ and_from (list_all is_plain xs) (list_all is_plain ys) first second

requests_plain : (task : Task) (before : List Entry) (number : ℕ) (is : List Instance)
    → list_all is_plain (requests_from task before number is) ≡ true
requests_plain task before number [] = refl
requests_plain task before number (i ∷ is) = requests_plain task before (number + 1) is

requests_unanswered : (task : Task) (before : List Entry) (number : ℕ) (is : List Instance)
    → count_by is_answer (requests_from task before number is) ≡ 0
requests_unanswered task before number [] = refl
requests_unanswered task before number (i ∷ is) =
    let one = entry.Ask number (yields_of (notes_of task before) i) (call_of_instance task (names_of task before) i) in
    omega (
      arith,
      count_joined is_answer (one ∷ []) (requests_from task before (number + 1) is),
      requests_unanswered task before (number + 1) is,
    )

-- an answer is one entry of them, and no request
answer_plain : (number : ℕ) (e : Entry) → is_answer_to number e ≡ true
    → (is_plain e ≡ true) × (count_by is_answer (e ∷ []) ≡ 1) × (asks_of (e ∷ []) ≡ 0)
answer_plain number (entry.Got n tuples values) is = (refl, refl, refl)
answer_plain number (entry.Value n value) is = (refl, refl, refl)
answer_plain number (entry.End n) is = (refl, refl, refl)
answer_plain number e is = absurd (cc)

answers_plain : (number n : ℕ) (es : List Entry) → AreAnswers number n es
    → (list_all is_plain es ≡ true) × (count_by is_answer es ≡ n) × (asks_of es ≡ 0)
answers_plain number zero [] are = (refl, refl, refl)
answers_plain number zero (e ∷ es) are = absurd are
answers_plain number (suc n) [] are = absurd are
answers_plain number (suc n) (e ∷ es) are =
    let here = answer_plain number e are.0 in
    let rest = answers_plain (number + 1) n es are.1 in
    let count = count_joined is_answer (e ∷ []) es in
    let asks = asks_more (e ∷ []) es in (
      and_from (is_plain e) (list_all is_plain es) here.0 rest.0,
      omega (arith, here.1, rest.1, count),
      omega
          (arith, here.2, rest.2, asks),
    )

pub rounds_plain : (limits : Limits) (task : Task) (rounds : List (List Instance)) (list : List Instance)
    (before es : List Entry)
    → AreRounds limits.pools list rounds → AreRoundsRun task before rounds es → ArePlain es (length list)
rounds_plain limits task [] list before es none run =
    subst (λ xs. ArePlain xs (length list)) (sym run)
    (subst (λ is. ArePlain [] (length is)) (sym none) (record { plain = refl; answers = refl; asks = refl }))
rounds_plain limits task (round ∷ rounds) list before es
    (rest, parts, some, fit, full, more) (now, later, es_is, (answers, now_is, right), run) =
    let next = rounds_plain limits task rounds rest (before ++ now) later more run in
    let asks = requests task before round in
    let told = answers_plain (asks_of before + 1) (length round) answers right in
    let all : es ≡ (asks ++ answers) ++ later = es_is ∙ ap (λ xs. xs ++ later) now_is in
    let size = ap length parts ∙ length-append round rest in
    let plain =
    joined_plain (asks ++ answers) later
    (joined_plain asks answers (requests_plain task before (asks_of before + 1) round) told.0)
    next.plain in
    let first = count_joined is_answer (asks ++ answers) later in
    let second = count_joined is_answer asks answers in
    let none = requests_unanswered task before (asks_of before + 1) round in
    let made = asks_more (asks ++ answers) later in
    let these = asks_more asks answers in
    let asked_now = requests_asks task before (asks_of before + 1) round in
    subst (λ xs. ArePlain xs (length list)) (sym all) (record {
      plain = plain;
      answers = omega (arith, first, second, none, told.1, next.answers, size);
      asks = omega (arith, made, these, asked_now, told.2, next.asks, size);
    })
