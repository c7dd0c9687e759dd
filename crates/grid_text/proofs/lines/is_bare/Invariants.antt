use Rattle.std.proofs.Common.{◌≡◌, length}
use Rattle.grid_text.specs.Lines.{is_bare}
use Rattle.grid_text.proofs.lines.is_bare.Given as goal

abbrev pub invariant-lines : goal.invariant-lines
invariant-lines l = is_bare l.bytes ≡ is_bare l.rest

abbrev pub decreases-lines : goal.decreases-lines
decreases-lines l = length l.rest
