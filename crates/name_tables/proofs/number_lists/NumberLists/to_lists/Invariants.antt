use Rattle.std.proofs.Common.{◌≡◌, [], map, take}
use Rattle.name_tables.specs.Graphs.{ascending}
use Rattle.name_tables.proofs.number_lists.NumberLists.to_lists.Given as goal

-- the lists that were passed, each in order
abbrev pub invariant-loop-list : goal.invariant-loop-list
invariant-loop-list l = l.lists.items ≡ map (λ v. ascending [] v.items) (take l.list-index l.list-items)
