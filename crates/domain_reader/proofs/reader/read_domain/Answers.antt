use Rattle.domain_reader.proofs.FitDomain.{fit_if_read}
use Rattle.domain_reader.proofs.reader.read_domain.Goals as goal

pub returns-clause-fit : goal.returns-clause-fit
returns-clause-fit c = fit_if_read c.args.text.now c.read.result c.read.ensures
