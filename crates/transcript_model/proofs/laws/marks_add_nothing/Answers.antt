use Rattle.transcript_model.proofs.LegalStepLemmas.{mark_adds}
use Rattle.transcript_model.proofs.laws.marks_add_nothing.Goals as goal

pub returns : goal.returns
returns c = λ version task before e fit legal mark. mark_adds version task before fit.problem.objects.names.distinct legal e mark
