use Rattle.std.proofs.Common.{◌≡◌, drop}
use Rattle.fit_check.specs.Tests as tests
use Rattle.fit_check.proofs.problem.have_one_value.Given as goal

-- what is left to see decides
abbrev pub invariant-loop-place : goal.invariant-loop-place
invariant-loop-place l =
    tests.have_one_value (drop l.place l.values) ≡ tests.have_one_value l.values
