use Rattle.std.proofs.Common.{◌≡◌, ◌≤◌, length, drop}
use Rattle.fit_check.specs.Tests as tests
use Rattle.fit_check.proofs.problem.are_first.Given as goal

-- what is left to see decides
abbrev pub invariant-loop-place : goal.invariant-loop-place
invariant-loop-place l =
    (tests.are_first (drop l.place l.constants) (drop l.place l.objects) ≡ tests.are_first l.constants l.objects)
    × (length l.constants ≤ length l.objects)
