use Rattle.std.proofs.Common.{◌≡◌, ℕ, ◌+◌, ◌-◌, ◌<◌, ◌≤◌, length, true, false}
use Rattle.dreaming.specs.Thinning.{TrialKeeps, TrialNeeds}
use Rattle.dreaming.proofs.thin.leave_out.Given as goal

-- what was passed over alone can't be left out, as long as nothing was
abbrev pub invariant-loop-from : goal.invariant-loop-from
invariant-loop-from l = record {
  kept : TrialKeeps l.trial l.kept;
  most : length l.kept.places.items ≤ length l.initial.kept.places.items;
  fewer : l.some ≡ true → length l.kept.places.items < length l.initial.kept.places.items;
  needed : l.some ≡ false → l.size ≡ 1 → (place : ℕ) → place < l.from → TrialNeeds l.trial l.kept.places.items place (place + 1);
}

abbrev pub decreases-loop-from : goal.decreases-loop-from
decreases-loop-from l = length l.kept.places.items - l.from
