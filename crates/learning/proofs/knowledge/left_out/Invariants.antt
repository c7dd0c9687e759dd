use Rattle.std.proofs.Common.{◌≡◌, take}
use Rattle.learning.specs.Numbers.{without}
use Rattle.learning.proofs.knowledge.left_out.Given as goal

abbrev pub invariant-loop-n : goal.invariant-loop-n
invariant-loop-n l = l.kept.items ≡ without l.number (take l.n-index l.numbers)
