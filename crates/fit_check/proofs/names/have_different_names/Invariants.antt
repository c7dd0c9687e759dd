use Rattle.std.proofs.Common.{◌≡◌, map, drop}
use Rattle.fit_check.specs.Tests.{are_different}
use Rattle.fit_check.proofs.names.have_different_names.Given as goal

-- what is left to see decides
abbrev pub invariant-loop-place : goal.invariant-loop-place
invariant-loop-place g l =
    are_different (map g.T.Named.named (drop l.place l.items))
    ≡ are_different (map g.T.Named.named l.items)
