use Rattle.std.proofs.Common.{◌-◌, ◌≡◌, length}
use Rattle.fact_store.specs.Least.{HasLeast}
use Rattle.fact_store.proofs.value_table.ValueTable.cover.Given as goal

-- the values stay, and the least of those that are covered are noted
abbrev pub invariant-loop-value : goal.invariant-loop-value
invariant-loop-value l = record {
  values : l.self-inside.values.keys ≡ l.initial.self-inside.values.keys;
  least : HasLeast l.self-inside.values.keys l.self-inside.least l.self-inside.done;
}

abbrev pub decreases-loop-value : goal.decreases-loop-value
decreases-loop-value l = length l.self-inside.values.keys - l.self-inside.done
