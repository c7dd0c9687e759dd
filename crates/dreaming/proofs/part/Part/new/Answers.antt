use Rattle.std.proofs.Common.{refl}
use Rattle.dreaming.proofs.PartLemmas.{none_taken}
use Rattle.dreaming.proofs.part.Part.new.Goals as goal

pub returns-clause-part : goal.returns-clause-part
returns-clause-part c = λ task h.
    none_taken task c.args.supposed.now _ c.names.result.now c.new-2.result.facts c.new-2.result.values h c.facts.ensures c.entries.ensures
    c.new.ensures.items c.names.ensures c.new-2.ensures.facts c.new-2.ensures.values c.facts.result.now.coherent refl
