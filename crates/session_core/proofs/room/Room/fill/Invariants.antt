use Rattle.std.proofs.Common.{◌≡◌, ◌≤◌, ◌+◌, length, take, vec_capacity}
use Rattle.gen_lines.specs.Told.{texts, value_count}
use Rattle.session_core.proofs.room.Room.fill.Given as goal

-- the values that were passed are names, and there is room for the others
abbrev pub invariant-loop-value : goal.invariant-loop-value
invariant-loop-value l = record {
  same : l.names.items ≡ take l.value (texts l.line l.spans);
  blanks : value_count l.spans ≤ length l.blanks.items + l.value;
  room : length l.names.items + length l.blanks.items ≤ vec_capacity l.names;
}
