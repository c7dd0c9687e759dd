use Rattle.std.proofs.Common.{◌≡◌, ◌≤◌, ℕ, [], length, slice_get, unwrap_or}
use Rattle.round_run.proofs.lines.Lines.new.Given as goal

-- a buffer for each child so far
abbrev pub invariant-loop : goal.invariant-loop
invariant-loop l = record {
  many : length l.buffers.items ≡ l.counter;
  empty : (k : ℕ) → unwrap_or (slice_get l.buffers.items k) [] ≡ [];
  most : l.counter ≤ 17;
}
