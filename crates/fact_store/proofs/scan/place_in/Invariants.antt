use Rattle.std.proofs.Common.{◌≡◌, false, take}
use Rattle.std.specs.List.{list_any}
use Rattle.task_model.specs.Known.{same_numbers}
use Rattle.fact_store.proofs.scan.place_in.Given as goal

-- none of the names that were passed is the one that is sought
abbrev pub invariant-loop-place : goal.invariant-loop-place
invariant-loop-place l = list_any (same_numbers l.name) (take l.place l.names) ≡ false
