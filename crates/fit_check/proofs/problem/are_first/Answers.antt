use Rattle.fit_check.proofs.TestsFirstLemmas.{more_not_first}
use Rattle.fit_check.proofs.problem.are_first.Goals as goal

pub returns-then-constants-objects : goal.returns-then-constants-objects
returns-then-constants-objects c =
    more_not_first c.args.constants.now c.args.objects.now c.if-constants-objects.true
