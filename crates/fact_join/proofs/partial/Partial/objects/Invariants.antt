use Rattle.std.proofs.Common.{◌≡◌, ◌<◌, ℕ, Some, slice_get, length}
use Rattle.fact_join.proofs.partial.Partial.objects.Given as goal

-- the objects of the slots that were passed are there
abbrev pub invariant-loop-slot : goal.invariant-loop-slot
invariant-loop-slot l =
    (length l.objects ≡ 16) × ((k object : ℕ) → k < l.slot → slice_get l.self.slots k ≡ Some (Some object)
    → slice_get l.objects k ≡ Some object)
