use Rattle.std.proofs.Common.{◌-◌, length}
use Rattle.optimal_search.specs.Searches.{IsJustClosed}
use Rattle.optimal_search.proofs.astar.explore.Given as goal

-- the state at the place was closed last
abbrev pub invariant-loop-search : goal.invariant-loop-search
invariant-loop-search g l =
    IsJustClosed l.scene.task.now (g.L.Look.known l.scene.look.now) (g.C.Consistent.bound l.estimate) l.scene.limit l.search l.place
    × g.C.Consistent.suits l.estimate l.scene.task.now (g.L.Look.known l.scene.look.now)

abbrev pub decreases-loop-search : goal.decreases-loop-search
decreases-loop-search g l = l.scene.limit - length l.search.links.items
