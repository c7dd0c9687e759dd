use Rattle.std.proofs.Common.{refl}
use Rattle.dreaming.proofs.trial.cost_filled.Goals as goal

pub cost_with-requires-clause-part : goal.cost_with-requires-clause-part
cost_with-requires-clause-part c =
    let h = c.in_ok-fill.ensures in record { part = h.part; base = h.base; list = h.list; places_are = refl }
