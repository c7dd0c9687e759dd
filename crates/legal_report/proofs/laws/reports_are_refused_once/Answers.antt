use Rattle.legal_report.proofs.LawsLemmas.{refused_once}
use Rattle.legal_report.proofs.laws.reports_are_refused_once.Goals as goal

pub returns : goal.returns
returns c = refused_once
