use Rattle.std.proofs.Common.{arith}
use Rattle.formula_eval.proofs.ReadableLemmas.{fit_readable}
use Rattle.plan_rows.proofs.plans.is_true_in.Goals as goal

pub holds_memo-requires-clause-readable : goal.holds_memo-requires-clause-readable
holds_memo-requires-clause-readable c =
    let task = c.args.task.now in
    fit_readable task.domain c.requires.domain _ 0 (omega arith) task.problem.goal c.requires.problem.goal

pub holds_memo-requires-2-clause-readable : goal.holds_memo-requires-2-clause-readable
holds_memo-requires-2-clause-readable c =
    let task = c.args.task.now in
    fit_readable task.domain c.requires.domain _ 0 (omega arith) task.problem.goal c.requires.problem.goal

pub holds-plain-requires-clause-readable : goal.holds-plain-requires-clause-readable
holds-plain-requires-clause-readable c =
    let task = c.args.task.now in
    fit_readable task.domain c.requires.domain _ 0 (omega arith) task.problem.goal c.requires.problem.goal

pub holds_once-requires-clause-readable : goal.holds_once-requires-clause-readable
holds_once-requires-clause-readable c =
    let task = c.args.task.now in
    fit_readable task.domain c.requires.domain _ 0 (omega arith) task.problem.goal c.requires.problem.goal
