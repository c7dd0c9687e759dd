use Rattle.std.proofs.Common.{◌≡◌, ℕ, ◌<◌, ◌≤◌, get_or, length, true, false}
use Rattle.fit_check.proofs.slots.Slots.with.Given as goal

-- the flags from the first to this one are up, and the others as they were
abbrev pub invariant-loop-place : goal.invariant-loop-place
invariant-loop-place l = record {
  up : (n : ℕ) → l.first ≤ n → n < l.place → get_or l.filled n false ≡ true;
  kept : (n : ℕ) → (l.first ≤ n → l.place ≤ n)
      → get_or l.filled n false ≡ get_or l.initial.filled n false;
  long : length l.filled ≡ 16;
}
