use Rattle.legal_report.proofs.LawsLemmas.{not_refused}
use Rattle.legal_report.proofs.laws.legal_reports_are_not_refused.Goals as goal

pub returns : goal.returns
returns c = not_refused
