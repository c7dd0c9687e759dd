use Rattle.table_runs.proofs.AgreeLemmas.{request_line_there}
use Rattle.table_runs.proofs.laws.requests_have_lines.Goals as goal

pub returns : goal.returns
returns c = λ version task pools entries k r fit legal few.
    request_line_there version task pools entries fit legal few k r
