use Rattle.std.proofs.Common.{◌+◌, ◌≤◌, length}
use Rattle.dreaming.specs.Thinning.{TrialKeeps}
use Rattle.dreaming.proofs.thin.thin.Given as goal

abbrev pub invariant-sizes : goal.invariant-sizes
invariant-sizes l = record {
  kept : TrialKeeps l.trial l.kept;
  some : 1 ≤ l.size;
}

abbrev pub decreases-sizes : goal.decreases-sizes
decreases-sizes l = length l.kept.places.items + l.size
