use Rattle.std.proofs.Common.{◌≡◌, true, take}
use Rattle.std.specs.List.{list_all}
use Rattle.grounder.specs.Asks.{is_met}
use Rattle.grounder.proofs.asks.are_met.Given as goal

-- what was passed is so
abbrev pub invariant-loop-ask : goal.invariant-loop-ask
invariant-loop-ask l = list_all (is_met l.marks l.row) (take l.ask-index l.asks) ≡ true
