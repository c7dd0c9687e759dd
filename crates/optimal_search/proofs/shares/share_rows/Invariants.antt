use Rattle.std.proofs.Common.{◌≡◌, ℕ, ◌<◌, List, Some, slice_get}
use Rattle.optimal_search.specs.Share.{AreLower}
use Rattle.optimal_search.specs.Shares.{IsSharedStep}
use Rattle.optimal_search.proofs.shares.share_rows.Given as goal

-- the action pays with the arguments so far
abbrev pub invariant-loop-args : goal.invariant-loop-args
invariant-loop-args g l = record {
  lower : AreLower l.initial.shares l.shares;
  shared : (n : ℕ) (args : List ℕ) → n < l.args-index → slice_get l.rows n ≡ Some args
      → IsSharedStep l.task (g.L.Look.known l.look) l.action args l.shares;
}
