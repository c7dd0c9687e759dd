use Rattle.std.proofs.Common.{◌≡◌, ◌≤◌, ◌-◌, ◌+◌, ◌*◌, ◌++◌, length, drop, take, map, true}
use Rattle.std.specs.List.{list_all, All}
use Rattle.gen_lines.specs.Reply.{fields, parted, joined_tuples, is_value}
use Rattle.gen_lines.specs.Told.{Lies, text_at}
use Rattle.gen_lines.proofs.spans.mark_values.Given as goal

abbrev pub invariant-fields : goal.invariant-fields
invariant-fields l = record {
  within : l.at ≤ length l.line;
  long : length l.places ≡ 128;
  room : l.count + length (joined_tuples (parted l.bars (fields (drop l.at l.line)))) ≡ l.fn.tuples * l.fn.width;
  valid : list_all is_value (map (text_at l.line) (take l.count l.places)) ≡ true;
  same : joined_tuples (parted l.bars (fields (drop l.fn.from l.line)))
      ≡ map (text_at l.line) (take l.count l.places) ++ joined_tuples (parted l.bars (fields (drop l.at l.line)));
  lie : All (Lies l.line) (take l.count l.places);
}

abbrev pub decreases-fields : goal.decreases-fields
decreases-fields l = length l.line - l.at
