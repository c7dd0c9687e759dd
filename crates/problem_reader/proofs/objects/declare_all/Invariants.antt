use Rattle.std.proofs.Common.{◌≡◌, drop}
use Rattle.problem_reader.specs.Problems.{declare_all}
use Rattle.problem_reader.proofs.objects.declare_all.Given as goal

abbrev pub invariant-loop-sort : goal.invariant-loop-sort
invariant-loop-sort l =
    declare_all l.fn.names l.name l.sorts ≡ declare_all l.names l.name (drop l.sort-index l.sorts)
