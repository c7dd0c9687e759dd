use Rattle.std.proofs.Common.{◌≡◌, drop}
use Rattle.problem_reader.specs.Problems.{constants_typed}
use Rattle.problem_reader.proofs.objects.declare_constants.Given as goal

abbrev pub invariant-loop-constant : goal.invariant-loop-constant
invariant-loop-constant l =
    constants_typed l.fn.names l.constants
    ≡ constants_typed l.names (drop l.constant-index l.constants)
