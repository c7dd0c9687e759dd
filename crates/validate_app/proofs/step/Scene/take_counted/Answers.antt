use Rattle.std.proofs.Common.{sym, refl, ◌∙◌}
use Rattle.validate_app.proofs.StepsLemmas.{fails_still, flawed_small, flawed_taken, no_object}
use Rattle.validate_app.proofs.step.Scene.take_counted.Goals as goal

pub step_of-requires-clause-distinct : goal.step_of-requires-clause-distinct
step_of-requires-clause-distinct g c = c.args.self.now.facts.now.coherent.names

pub returns-in_default-clause-taken : goal.returns-in_default-clause-taken
returns-in_default-clause-taken g c =
    let a = c.requires.counted in (
      no_object c.args.self.now.task.now c.args.self.now.facts.now.known
          (g.B.Board.atoms c.args.board.now) c.args.call.now a.0 a.1 a.2
          (sym c.in_ok-step.ensures ∙ c.in_default.is),
      refl,
    )

pub returns-in-Ok-clause-taken : goal.returns-in-Ok-clause-taken
returns-in-Ok-clause-taken g c = (c.in-Some.step, sym c.in_ok-step.ensures ∙ c.in-Some.is, c.in-Ok.ensures.ok)

pub flawed-requires-clause-named : goal.flawed-requires-clause-named
flawed-requires-clause-named g c = sym c.in_ok-step.ensures ∙ c.in-Some.is

pub flawed-requires-clause-fails : goal.flawed-requires-clause-fails
flawed-requires-clause-fails g c =
    fails_still c.args.self.now.task.now c.args.self.now.facts.now.known (g.B.Board.atoms c.args.board.now)
    (g.B.Board.atoms c.advance.new.self) c.in-Some.step
    c.in-Err.fault c.in-Err.ensures.same c.in-Err.ensures.err

pub returns-clause-taken : goal.returns-clause-taken
returns-clause-taken g c =
    flawed_taken c.args.self.now.task.now c.args.self.now.facts.now.known (g.B.Board.atoms c.args.board.now)
    (g.B.Board.atoms c.advance.new.self) c.in-Err.fault
    c.in-Err.ensures.same c.args.call.now c.flawed.result c.flawed.ensures.flawed c.flawed.ensures.real

pub returns-clause-small : goal.returns-clause-small
returns-clause-small g c =
    flawed_small c.args.self.now.task.now c.args.self.now.facts.now.known
    (g.B.Board.atoms c.advance.new.self) c.args.call.now c.flawed.result
    c.flawed.ensures.flawed
