use Rattle.std.proofs.Common.{◌-◌, ◌≤◌, length}
use Rattle.state_store.specs.Rows.{row_atoms}
use Rattle.state_store.proofs.EditsLemmas.{Below, Above}
use Rattle.state_store.proofs.edits.place_in.Given as goal

-- the atoms before `low` stand before this one, and those from `high` on behind it
abbrev pub invariant-loop-low : goal.invariant-loop-low
invariant-loop-low l =
    (l.low ≤ l.high) × (l.high ≤ length l.row) × Below l.atom (row_atoms l.numbered l.row) l.low
    × Above l.atom (row_atoms l.numbered l.row) l.high

abbrev pub decreases-loop-low : goal.decreases-loop-low
decreases-loop-low l = l.high - l.low
