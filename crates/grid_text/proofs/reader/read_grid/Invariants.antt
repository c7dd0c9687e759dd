use Rattle.std.proofs.Common.{◌≡◌, ◌+◌, ◌<◌, ◌≤◌, ℕ, None, length, drop, take}
use Rattle.grid_text.specs.Files.{line_fault_at}
use Rattle.grid_text.specs.Grids.{grid_of}
use Rattle.grid_text.specs.Lines.{lines_in}
use Rattle.grid_text.proofs.reader.read_grid.Given as goal

abbrev pub invariant-lines : goal.invariant-lines
invariant-lines l = record {
  lines : lines_in l.rest ≡ drop l.before (lines_in l.bytes);
  count : l.before + length l.rest ≤ length l.bytes;
  right : (k : ℕ) → k < l.before → line_fault_at (lines_in l.bytes) k ≡ None;
  says : l.grid ≡ grid_of (take l.before (lines_in l.bytes));
}

abbrev pub decreases-lines : goal.decreases-lines
decreases-lines l = length l.rest
