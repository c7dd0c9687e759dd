use Rattle.transcript_model.proofs.LegalStepLemmas.{answer_adds}
use Rattle.transcript_model.proofs.laws.answers_add_answers.Goals as goal

pub returns : goal.returns
returns c =
    λ version task before e number a fit legal answers was.
    answer_adds version task before fit.problem.objects.names.distinct legal number a was e answers
