use Rattle.std.proofs.Common.{◌≡◌}
use Rattle.optimal_search.specs.Consistent.{StaysSuited}
use Rattle.optimal_search.specs.Searches.{IsExpanding}
use Rattle.optimal_search.proofs.relax.relax_all.Given as goal

-- the steps so far were taken
abbrev pub invariant-loop-index : goal.invariant-loop-index
invariant-loop-index g l =
    IsExpanding l.scene.task.now (g.L.Look.known l.scene.look.now) (g.C.Consistent.bound l.estimate) l.scene.limit l.search l.from
    l.index × StaysSuited g.C.Consistent.suits l.initial.estimate l.estimate × (l.search.links.items ≡ l.initial.search.links.items)
