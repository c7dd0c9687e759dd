use Rattle.std.proofs.Common.{subst, sym}
use Rattle.problem_reader.specs.Fitness.{IsFitOver}
use Rattle.worked_tasks.proofs.reading.problem_of.Goals as goal

pub returns : goal.returns
returns c = subst (IsFitOver c.args.domain.now) (sym c.in_ok-new.ensures.ok) (c.in_ok-problem.ensures.fit c.requires c.in_ok-bytes.ensures)
