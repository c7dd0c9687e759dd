-- How many requests a round has.
use Rattle.std.proofs.Common.{◌≡◌, ℕ, zero, suc, ◌+◌, true, List, [], ◌∷◌, length, refl, ◌∙◌, arith}
use Rattle.task_model.specs.Streams.{yields_of}
use Rattle.task_model.specs.declared.stream.Instance.{Instance}
use Rattle.task_model.specs.declared.task.Task.{Task}
use Rattle.transcript_model.proofs.LegalNumberLemmas.{asks_more}
use Rattle.transcript_model.specs.Legal.{asks_of, is_answer_to}
use Rattle.transcript_model.specs.Names.{call_of_instance}
use Rattle.transcript_model.specs.Rounds.{AreAnswers, requests_from}
use Rattle.transcript_model.specs.Transcript.{names_of, notes_of}
use Rattle.transcript_model.specs.declared.entry.Entry.{Entry}
use Rattle.transcript_model.specs.declared.entry.Entry.TheVariants as entry

pub requests_asks : (task : Task) (before : List Entry) (number : ℕ) (round : List Instance)
    → asks_of (requests_from task before number round) ≡ length round
requests_asks task before number [] = refl
requests_asks task before number (i ∷ is) =
    omega (
      arith,
      asks_more (entry.Ask number (yields_of (notes_of task before) i) (call_of_instance task (names_of task before) i) ∷ [])
          (requests_from task before (number + 1) is),
      requests_asks task before (number + 1) is,
    )

pub answer_asks : (number : ℕ) (e : Entry) → is_answer_to number e ≡ true → asks_of (e ∷ []) ≡ 0
answer_asks number (entry.Ask n turn call) is = absurd (cc)
answer_asks number (entry.Got n tuples values) is = refl
answer_asks number (entry.Value n value) is = refl
answer_asks number (entry.End n) is = refl
answer_asks number entry.Level is = refl
answer_asks number (entry.Dream uses steps) is = refl
answer_asks number entry.Nothing is = refl
answer_asks number entry.Reset is = refl
answer_asks number (entry.Pick n) is = refl
answer_asks number (entry.Retire n) is = refl

pub answers_asks : (number n : ℕ) (es : List Entry) → AreAnswers number n es → asks_of es ≡ 0
answers_asks number zero [] are = refl
answers_asks number zero (e ∷ es) are = absurd are
answers_asks number (suc n) [] are = absurd are
answers_asks number (suc n) (e ∷ es) are =
    asks_more (e ∷ []) es ∙ (λ k. answer_asks number e are.0 k + answers_asks (number + 1) n es are.1 k)
