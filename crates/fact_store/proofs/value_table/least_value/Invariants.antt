use Rattle.std.proofs.Common.{◌≡◌, ◌++◌, List, take}
use Rattle.task_model.specs.Known.{value_of}
use Rattle.task_model.specs.declared.task.Valued.{Valued}
use Rattle.fact_store.proofs.value_table.least_value.Given as goal

-- the least of those that were passed, behind those that came before
abbrev pub invariant-loop-v : goal.invariant-loop-v
invariant-loop-v l =
    (before : List Valued) → l.initial.least ≡ value_of before l.func l.args
    → l.least ≡ value_of (before ++ take l.v-index l.values) l.func l.args
