use Rattle.problem_reader.proofs.FitProblem.{fit_if_read}
use Rattle.problem_reader.proofs.reader.read_problem.Goals as goal

pub returns-clause-fit : goal.returns-clause-fit
returns-clause-fit c = fit_if_read c.args.domain.now c.args.text.now c.read.result c.read.ensures
