use Rattle.std.proofs.Common.{subst}
use Rattle.plan_check.specs.Faults.{StepFails}
use Rattle.validate_app.proofs.StepsLemmas.{action_there, cost_fails, types_fail}
use Rattle.validate_app.proofs.step.Scene.flawed.Goals as goal

pub returns-in-NoAction-clause-flawed : goal.returns-in-NoAction-clause-flawed
returns-in-NoAction-clause-flawed g c =
    let task = c.args.self.now.task.now in
    let known = c.args.self.now.facts.now.known in
    let a = c.requires.counted in
    absurd (action_there task known
    (g.B.Board.atoms c.args.board.now) c.args.call.now a.0 a.1 a.2 c.args.step.now c.requires.named
    (subst (StepFails task known (g.B.Board.atoms c.args.board.now) c.args.step.now) c.in-NoAction.is c.requires.fails))

pub returns-in-Args-clause-flawed : goal.returns-in-Args-clause-flawed
returns-in-Args-clause-flawed g c =
    let task = c.args.self.now.task.now in
    let known = c.args.self.now.facts.now.known in
    let a = c.requires.counted in
    types_fail task known (g.B.Board.atoms c.args.board.now) c.args.call.now a.0 a.1 a.2 c.args.step.now
    c.requires.named
    (subst (StepFails task known (g.B.Board.atoms c.args.board.now) c.args.step.now) c.in-Args.is c.requires.fails)

pub returns-in-NoCost-clause-flawed : goal.returns-in-NoCost-clause-flawed
returns-in-NoCost-clause-flawed g c =
    let task = c.args.self.now.task.now in
    let known = c.args.self.now.facts.now.known in
    let a = c.requires.counted in
    cost_fails task known (g.B.Board.atoms c.args.board.now) c.args.call.now a.0 a.1 a.2 c.args.step.now
    c.requires.named
    (subst (StepFails task known (g.B.Board.atoms c.args.board.now) c.args.step.now) c.in-NoCost.is c.requires.fails)

pub false_condition-requires-clause-fails : goal.false_condition-requires-clause-fails
false_condition-requires-clause-fails g c =
    subst (StepFails c.args.self.now.task.now c.args.self.now.facts.now.known
    (g.B.Board.atoms c.args.board.now) c.args.step.now)
    c.in-Condition.is c.requires.fails
