use Rattle.std.proofs.Common.{◌≡◌, take}
use Rattle.task_model.specs.Known.{objects_of}
use Rattle.fact_store.proofs.fact_table.FactTable.objects_with.Given as goal

-- the objects that were passed
abbrev pub invariant-loop-number : goal.invariant-loop-number
invariant-loop-number l = l.objects.items ≡ take l.number (objects_of l.self l.sort)
