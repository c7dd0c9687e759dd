use Rattle.report_text.proofs.ReportsReadBack.{same_report}
use Rattle.report_text.proofs.laws.texts_determine_reports.Goals as goal

pub returns : goal.returns
returns c = same_report
