use Rattle.std.proofs.Common.{ℕ, ◌<◌}
use Rattle.dream_check.specs.Listed.{IsEntryNeeded}
use Rattle.dream_check.proofs.needed.are_needed.Given as goal

-- those so far are needed
abbrev pub invariant-loop-place : goal.invariant-loop-place
invariant-loop-place l =
    (place : ℕ) → place < l.place → IsEntryNeeded l.fn.listing.task.now l.fn.listing.supposed.now l.fn.places l.fn.steps place
