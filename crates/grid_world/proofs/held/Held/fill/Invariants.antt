use Rattle.std.proofs.Common.{◌≤◌, ◌-◌, length}
use Rattle.grid_world.specs.Filling.{Came}
use Rattle.grid_world.proofs.held.Held.fill.Given as goal

abbrev pub invariant-reads : goal.invariant-reads
invariant-reads g l = record {
  came : Came (g.S.Source.left l.initial.source) (g.S.Source.left l.source) l.initial.self l.self;
  later : g.S.Source.faults l.initial.source ≤ g.S.Source.faults l.source;
}

abbrev pub decreases-reads : goal.decreases-reads
decreases-reads g l = 4097 - length l.self
