use Rattle.legal_report.proofs.LawsLemmas.{one_transcript}
use Rattle.legal_report.proofs.laws.texts_have_one_transcript.Goals as goal

pub returns : goal.returns
returns c = one_transcript
