use Rattle.std.proofs.Common.{refl, subst}
use Rattle.std.specs.Prelude.{OnOk}
use Rattle.dreaming.specs.Thinning.{IsFilled}
use Rattle.dreaming.proofs.taken.fill.Goals as goal

pub take_supported-requires-clause-part : goal.take_supported-requires-clause-part
take_supported-requires-clause-part c =
    let h = c.in_ok-take_all.ensures in record { part = h.part; base = h.base; list = h.list; places_are = refl }

pub returns : goal.returns
returns c =
    let task = c.args.listing.now.task.now in
    let d = c.args.listing.now.supposed.now in
    subst (λ places. OnOk c.take_supported.result (IsFilled task d places c.args.others.now c.take_supported.new.part))
    c.in_ok-take_all.ensures.places_are c.take_supported.ensures
