use Rattle.std.proofs.Common.{take}
use Rattle.lemmas.specs.Lists.{AreDistinct}
use Rattle.state_store.specs.Rows.{AddsAtoms}
use Rattle.grounder.specs.Asks.{AreAsks}
use Rattle.grounder.proofs.asks.asks_of.Given as goal

-- what the parts ask that were passed
abbrev pub invariant-loop-part : goal.invariant-loop-part
invariant-loop-part l =
    AreAsks l.domain (take l.part-index l.part-items) l.rows l.numbered.keys l.asks.items
    × AddsAtoms l.fn.numbered.keys l.numbered.keys × AreDistinct l.numbered.keys
