use Rattle.std.proofs.Common.{◌-◌, length}
use Rattle.fact_store.specs.Tables.{Covers}
use Rattle.fact_store.proofs.table.Table.cover.Given as goal

abbrev pub invariant-loop-self : goal.invariant-loop-self
invariant-loop-self l = Covers l.group l.facts l.self

abbrev pub decreases-loop-self : goal.decreases-loop-self
decreases-loop-self l = length l.facts - l.self.done
