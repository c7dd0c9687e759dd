use Rattle.std.proofs.Common.{◌∙◌, sym, ap, arith}
use Rattle.formula_eval.proofs.ReadableLemmas.{fit_readable}
use Rattle.task_model.specs.Truth.{is_true}
use Rattle.plan_check.proofs.plan.meets_goal.Goals as goal

pub holds_once-requires-clause-readable : goal.holds_once-requires-clause-readable
holds_once-requires-clause-readable g c =
    let task = c.args.task.now in
    fit_readable task.domain c.requires.domain _ 0 (omega arith) task.problem.goal c.requires.problem.goal

pub returns : goal.returns
returns g c =
    let task = c.args.task.now in
    let value = ap (is_true task.domain (g.L.Look.known c.args.look.now) c.args.state.now task.problem.goal) (sym c.new-env.ensures)
    ∙ sym c.holds_once.ensures.value in
    (λ yes. value ∙ yes, λ reached. sym value ∙ reached)
