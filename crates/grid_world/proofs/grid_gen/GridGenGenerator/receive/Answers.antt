use Rattle.std.proofs.Common.{◌∙◌, ap, sym}
use Rattle.grid_world.specs.Generators.{GeneratorState}
use Rattle.grid_world.proofs.SessionsLemmas.{heard_given}
use Rattle.grid_world.proofs.grid_gen.GridGenGenerator.receive.Goals as goal

pub returns-then-left-gt0-clause-spoken : goal.returns-then-left-gt0-clause-spoken
returns-then-left-gt0-clause-spoken c =
    heard_given c.args.self.now.session c.in-Some.session c.give.new.self c.give.result _
    (sym (ap (λ (g : GeneratorState). g.session) c.self.view_is) ∙ c.in-Some.is) c.give.ensures.given c.give.ensures.bytes
