use Rattle.std.proofs.Common.{◌≡◌, drop}
use Rattle.std.specs.List.{list_all}
use Rattle.best_first.specs.Steady.{is_steady_item}
use Rattle.best_first.proofs.steady.unsteady_predicate.Given as goal

-- what is left to see decides
abbrev pub invariant-loop-item : goal.invariant-loop-item
invariant-loop-item l =
    list_all (is_steady_item l.domain l.marks) (drop l.item-index l.domain.derived)
    ≡ list_all (is_steady_item l.domain l.marks) l.domain.derived
