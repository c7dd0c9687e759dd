use Rattle.std.proofs.Common.{arith}
use Rattle.formula_eval.proofs.ReadableLemmas.{fit_readable}
use Rattle.relaxed_task.proofs.task.put_goal.Goals as goal

pub put_needs-requires-clause-readable : goal.put_needs-requires-clause-readable
put_needs-requires-clause-readable g c =
    let task = c.args.scene.now.task.now in
    fit_readable task.domain c.requires.domain _ 0 (omega arith) task.problem.goal c.requires.problem.goal
