use Rattle.std.proofs.Common.{sym, subst, IfOk}
use Rattle.pddlstream_app.specs.AnswerOf.{IsVerdictFor}
use Rattle.pddlstream_app.proofs.replay.judge.Goals as goal

pub returns-then-optimal : goal.returns-then-optimal
returns-then-optimal c = subst
    (λ optimal. IfOk c.replay_optimal.result (IsVerdictFor optimal c.args.states c.args.task.now c.args.bytes.now))
    (sym c.if-optimal.true) c.replay_optimal.ensures

pub returns-else-optimal : goal.returns-else-optimal
returns-else-optimal c = subst
    (λ optimal. IfOk c.replay.result (IsVerdictFor optimal c.args.states c.args.task.now c.args.bytes.now))
    (sym c.if-optimal.false) c.replay.ensures
