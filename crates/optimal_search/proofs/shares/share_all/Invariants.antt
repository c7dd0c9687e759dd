use Rattle.std.proofs.Common.{◌≡◌}
use Rattle.optimal_search.specs.Share.{goals_of}
use Rattle.optimal_search.specs.Shares.{PayShares}
use Rattle.optimal_search.proofs.shares.share_all.Given as goal

-- the actions so far pay
abbrev pub invariant-loop-number : goal.invariant-loop-number
invariant-loop-number g l = record {
  goals : goals_of l.shares ≡ goals_of l.initial.shares;
  paid : PayShares l.task (g.L.Look.known l.look) l.number l.shares;
}
