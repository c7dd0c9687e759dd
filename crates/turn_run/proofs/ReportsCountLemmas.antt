-- How many levels a run has.
use Rattle.std.proofs.Common.{◌≡◌, ℕ, zero, suc, ◌+◌, true, false, cond, List, [], ◌∷◌, ◌++◌, count_by, refl, ap, ◌∙◌}
use Rattle.lemmas.proofs.Counts.{count_head, count_joined}
use Rattle.task_model.specs.Streams.{yields_of}
use Rattle.task_model.specs.declared.stream.Instance.{Instance}
use Rattle.task_model.specs.declared.task.Task.{Task}
use Rattle.transcript_model.specs.Legal.{is_answer_to, is_level}
use Rattle.transcript_model.specs.Names.{call_of_instance}
use Rattle.transcript_model.specs.Rounds.{AreAnswers, AreRoundsRun, requests, requests_from}
use Rattle.transcript_model.specs.Transcript.{names_of, notes_of}
use Rattle.transcript_model.specs.declared.entry.Entry.{Entry}
use Rattle.transcript_model.specs.declared.entry.Entry.TheVariants as entry
use Rattle.transcript_model.specs.declared.head.Head.{Head}
use Rattle.turn_run.specs.Asking.{IsAskedBehind}

none_more : (e : Entry) (es : List Entry) → is_level e ≡ false → count_by is_level es ≡ 0
    → count_by is_level (e ∷ es) ≡ 0
none_more e es other none = count_head is_level e es ∙ (λ i. cond (other i) 1 0 + none i)

none_joined : (xs ys : List Entry) → count_by is_level xs ≡ 0 → count_by is_level ys ≡ 0
    → count_by is_level (xs ++ ys) ≡ 0
none_joined xs ys first second = count_joined is_level xs ys ∙ (λ i. first i + second i)

-- no request is a level, and no answer is one
requests_none : (task : Task) (before : List Entry) (number : ℕ) (is : List Instance)
    → count_by is_level (requests_from task before number is) ≡ 0
requests_none task before number [] = refl
requests_none task before number (i ∷ is) =
    none_more (entry.Ask number (yields_of (notes_of task before) i) (call_of_instance task (names_of task before) i))
    (requests_from task before (number + 1) is) refl (requests_none task before (number + 1) is)

answer_is_none : (number : ℕ) (e : Entry) → is_answer_to number e ≡ true → is_level e ≡ false
answer_is_none number (entry.Ask n turn call) is = refl
answer_is_none number (entry.Got n tuples values) is = refl
answer_is_none number (entry.Value n value) is = refl
answer_is_none number (entry.End n) is = refl
answer_is_none number entry.Level is = absurd (cc)
answer_is_none number (entry.Dream uses steps) is = refl
answer_is_none number entry.Nothing is = refl
answer_is_none number entry.Reset is = refl
answer_is_none number (entry.Pick n) is = refl
answer_is_none number (entry.Retire n) is = refl

answers_none : (number n : ℕ) (es : List Entry) → AreAnswers number n es → count_by is_level es ≡ 0
answers_none number zero [] are = refl
answers_none number zero (e ∷ es) are = absurd are
answers_none number (suc n) [] are = absurd are
answers_none number (suc n) (e ∷ es) are =
    none_more e es (answer_is_none number e are.0) (answers_none (number + 1) n es are.1)

-- no entry of a batch is a level
pub rounds_none : (task : Task) (before : List Entry) (rounds : List (List Instance)) (entries : List Entry)
    → AreRoundsRun task before rounds entries → count_by is_level entries ≡ 0
rounds_none task before [] entries none = ap (count_by is_level) none
rounds_none task before (round ∷ rounds) entries (now, rest, is, (answers, same, are), run) =
    let first =
    ap (count_by is_level) same
    ∙ none_joined (requests task before round) answers (requests_none task before _ round) (answers_none _ _ answers are) in
    ap (count_by is_level) is ∙ none_joined now rest first (rounds_none task (before ++ now) rounds rest run)

-- behind a line that is no level's no level stands among its requests and their answers
pub asked_counts : (head : Head) (task : Task) (before : List Entry) (e : Entry) (list : List Instance) (now : List Entry)
    → is_level e ≡ false → IsAskedBehind head task before e list now → count_by is_level now ≡ 0
asked_counts head task before e list now other asked =
    ap (count_by is_level) asked.is ∙ none_more e asked.rest other (rounds_none task _ asked.batch.rounds asked.rest asked.batch.run)
