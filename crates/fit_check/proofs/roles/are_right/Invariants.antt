use Rattle.std.proofs.Common.{◌≡◌, drop}
use Rattle.fit_check.specs.Tests as tests
use Rattle.fit_check.proofs.roles.are_right.Given as goal

-- what is left to see decides
abbrev pub invariant-loop-place : goal.invariant-loop-place
invariant-loop-place l =
    tests.are_right l.domain l.place (drop l.place l.roles) ≡ tests.are_right l.domain 0 l.roles
