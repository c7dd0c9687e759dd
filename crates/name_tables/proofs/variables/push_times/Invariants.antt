use Rattle.std.proofs.Common.{◌≡◌, ◌++◌}
use Rattle.name_tables.specs.Variables.{copies}
use Rattle.name_tables.proofs.variables.push_times.Given as goal

abbrev pub invariant-loop-left : goal.invariant-loop-left
invariant-loop-left l =
    l.fn.list.items ++ copies l.times l.sort ≡ l.list.items ++ copies l.left l.sort

abbrev pub decreases-loop-left : goal.decreases-loop-left
decreases-loop-left l = l.left
