use Rattle.laws.proofs.RunFormedReportLemmas.{named_by_text}
use Rattle.laws.proofs.runs.texts_name_runs.Goals as goal

pub returns : goal.returns
returns c = named_by_text
