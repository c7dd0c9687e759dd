use Rattle.std.proofs.Common.{◌≡◌, drop}
use Rattle.fit_check.specs.Tests as tests
use Rattle.fit_check.proofs.sorts.are_proper.Given as goal

-- what is left to see decides
abbrev pub invariant-loop-place : goal.invariant-loop-place
invariant-loop-place l =
    tests.are_proper l.place (drop l.place l.sorts) ≡ tests.are_proper 0 l.sorts
