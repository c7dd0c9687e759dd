use Rattle.std.proofs.Common.{ℕ, ◌⊎◌, Contains}
use Rattle.dreaming.specs.Thinning.{IsWanted}
use Rattle.dreaming.proofs.wanted.Wanted.want.Given as goal

abbrev pub invariant-loop-object : goal.invariant-loop-object
invariant-loop-object l =
    (object : ℕ) → IsWanted l.self object → IsWanted l.initial.self object ⊎ Contains l.objects object
