use Rattle.std.proofs.lemmas.Result.{IfOk-weaker}
use Rattle.std.specs.Prelude.{IsTrue}
use Rattle.task_model.specs.Plans.{IsSolvable}
use Rattle.best_first.proofs.ReachLemmas.{none_solves}
use Rattle.best_first.specs.Reach.{IsClosed}
use Rattle.best_first.proofs.reach.out_of_reach.Goals as goal

pub returns : goal.returns
returns g c =
    let task = c.args.task.now in
    let known = g.L.Look.known c.args.look.now in
    let atoms = c.in-Some.atoms in
    IfOk-weaker c.are_closed.result (λ b. IsTrue b → IsClosed task known atoms) (λ b. IsTrue b → ¬ (IsSolvable task known))
    (λ b closed is. none_solves task known atoms (closed is) (c.is_goal_missed.ensures c.if-not-is_goal_missed.false))
    c.are_closed.ensures
