use Rattle.std.proofs.Common.{List}
use Rattle.task_model.specs.declared.fact.Fact.{Fact}
use Rattle.fact_store.specs.Tables.{CoverPlaces}
use Rattle.fact_store.proofs.fact_table.add_tables.Given as goal

abbrev pub invariant-loop : goal.invariant-loop
invariant-loop l =
    (facts : List Fact) → CoverPlaces facts l.initial.tables.items
    → CoverPlaces facts l.tables.items
