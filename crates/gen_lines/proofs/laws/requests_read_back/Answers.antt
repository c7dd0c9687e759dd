use Rattle.gen_lines.proofs.RequestReadBack.{requests_read_back}
use Rattle.gen_lines.proofs.laws.requests_read_back.Goals as goal

pub returns : goal.returns
returns c = requests_read_back
