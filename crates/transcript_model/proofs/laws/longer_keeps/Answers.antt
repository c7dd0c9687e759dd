use Rattle.transcript_model.proofs.LegalPrefixLemmas.{longer}
use Rattle.transcript_model.proofs.laws.longer_keeps.Goals as goal

pub returns : goal.returns
returns c = λ version task entries more fit legal. longer version task entries more fit.problem.objects.names.distinct legal
