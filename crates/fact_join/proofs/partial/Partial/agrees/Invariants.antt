use Rattle.std.proofs.Common.{◌≡◌, ◌<◌, ℕ, Some, slice_get, slice_index}
use Rattle.task_model.specs.Truth.{slots_of}
use Rattle.fact_join.proofs.partial.Partial.agrees.Given as goal

-- the slots that were passed agree
abbrev pub invariant-loop-slot : goal.invariant-loop-slot
invariant-loop-slot l =
    (k object : ℕ) → k < l.slot → slice_get l.self.slots k ≡ Some (Some object) → slice_index (slots_of l.tuple) k ≡ object
