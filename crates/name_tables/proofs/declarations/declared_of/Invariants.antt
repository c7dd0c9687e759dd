use Rattle.std.proofs.Common.{◌≡◌, ◌++◌, drop}
use Rattle.name_tables.specs.Declarations.{declared_list}
use Rattle.name_tables.proofs.declarations.declared_of.Given as goal

abbrev pub invariant-loop-place : goal.invariant-loop-place
invariant-loop-place l =
    declared_list l.names l.sorts
    ≡ l.list.items ++ declared_list (drop l.place l.names) (drop l.place l.sorts)
