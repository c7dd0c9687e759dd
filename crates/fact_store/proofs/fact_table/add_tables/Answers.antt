use Rattle.std.proofs.Common.{is_ok}
use Rattle.fact_store.proofs.TablesLemmas.{tables_pushed}
use Rattle.fact_store.proofs.fact_table.add_tables.Goals as goal

pub returns-then-is_err : goal.returns-then-is_err
returns-then-is_err c =
    λ facts cover. tables_pushed facts c.loop.tables.items c.push.new.self.items c.new.result
    (is_ok c.push.result) c.push.ensures.items c.new.ensures (c.loop.invariant facts cover)

pub loop-preserved : goal.loop-preserved
loop-preserved c =
    λ facts cover. tables_pushed facts c.loop.tables.items c.push.new.self.items c.new.result
    (is_ok c.push.result) c.push.ensures.items c.new.ensures (c.loop.invariant facts cover)
