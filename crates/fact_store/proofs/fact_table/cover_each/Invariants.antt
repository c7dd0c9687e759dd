use Rattle.fact_store.specs.Tables.{CoverPlaces}
use Rattle.fact_store.proofs.fact_table.cover_each.Given as goal

abbrev pub invariant-loop-place : goal.invariant-loop-place
invariant-loop-place l = CoverPlaces l.facts l.tables
