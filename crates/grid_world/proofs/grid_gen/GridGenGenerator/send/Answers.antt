use Rattle.std.proofs.Common.{◌∙◌, ap, sym}
use Rattle.grid_world.specs.Generators.{GeneratorState}
use Rattle.grid_world.proofs.SessionsLemmas.{said_more}
use Rattle.grid_world.proofs.grid_gen.GridGenGenerator.send.Goals as goal

pub returns-clause-spoken : goal.returns-clause-spoken
returns-clause-spoken c =
    said_more c.args.self.now.session c.in-Some.session c.send.new.self c.args.bytes.now
    (sym (ap (λ (g : GeneratorState). g.session) c.self.view_is) ∙ c.in-Some.is) c.in-Ok.ensures.sent c.in-Ok.ensures.given
