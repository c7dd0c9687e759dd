use Rattle.std.proofs.Common.{subst}
use Rattle.dream_check.proofs.NoneLemmas.{decided_by, open_below, past_states}
use Rattle.best_first.specs.Answer.{IsSolvableWithin}
use Rattle.dream_check.proofs.none.judge_list.Goals as goal

pub returns-in-Some : goal.returns-in-Some
returns-in-Some g c =
    decided_by c.args.task.now (g.L.Look.known c.args.look.now) c.args.states c.args.limit c.min-most.result c.min-most.ensures
    c.in-Some.solvable
    (subst (IsSolvableWithin c.args.task.now (g.L.Look.known c.args.look.now) c.min-most.result) c.in-Some.is c.in_ok-solvable.ensures)

pub returns-then-limit-states : goal.returns-then-limit-states
returns-then-limit-states g c =
    open_below c.args.task.now (g.L.Look.known c.args.look.now) c.args.states c.args.limit c.min-most.result c.min-most.ensures
    c.if-limit-states.true
    (subst (IsSolvableWithin c.args.task.now (g.L.Look.known c.args.look.now) c.min-most.result) c.in-None.is c.in_ok-solvable.ensures)

pub returns-else-limit-states : goal.returns-else-limit-states
returns-else-limit-states g c =
    past_states c.args.task.now (g.L.Look.known c.args.look.now) c.args.states c.args.limit c.min-most.result c.min-most.ensures
    c.if-limit-states.false
    (subst (IsSolvableWithin c.args.task.now (g.L.Look.known c.args.look.now) c.min-most.result) c.in-None.is c.in_ok-solvable.ensures)
