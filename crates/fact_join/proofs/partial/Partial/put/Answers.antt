use Rattle.std.proofs.Common.{refl}
use Rattle.fact_join.proofs.PartialLemmas.{filled_agrees, filled_fewer}
use Rattle.fact_join.proofs.partial.Partial.put.Goals as goal

pub returns-clause-agrees : goal.returns-clause-agrees
returns-clause-agrees c slots =
    filled_agrees c.args.self.now _ c.args.slot c.args.object c.requires.slot c.requires.free refl slots

pub returns-clause-fewer : goal.returns-clause-fewer
returns-clause-fewer c =
    filled_fewer c.args.self.now _ c.args.slot c.args.object c.requires.slot c.requires.free refl
