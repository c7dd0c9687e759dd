use Rattle.std.proofs.Common.{◌≡◌, ℕ, List, ◌<◌, Some, slice_get}
use Rattle.best_first.specs.Reach.{StaysWithin}
use Rattle.best_first.proofs.reach.all_stay_within.Given as goal

-- with the rows that were passed the action leads from no state within the atoms out of them
abbrev pub invariant-loop-objects : goal.invariant-loop-objects
invariant-loop-objects g l =
    (n : ℕ) (args : List ℕ) → n < l.objects-index → slice_get l.rows n ≡ Some args
    → StaysWithin l.bounds.task.now (g.L.Look.known l.bounds.look.now) l.bounds.atoms.now l.action args
