use Rattle.std.proofs.Common.{◌≡◌, ◌≤◌, ◌-◌, length, drop}
use Rattle.gen_lines.specs.Reply.{fields, parted}
use Rattle.gen_lines.specs.Told.{tuple_count}
use Rattle.gen_lines.proofs.ReplyTupleLemmas.{count_on}
use Rattle.gen_lines.proofs.spans.count_tuples.Given as goal

abbrev pub invariant-fields : goal.invariant-fields
invariant-fields l = record {
  within : l.at ≤ length l.line;
  begun : l.values ≤ l.width;
  few : (1 ≤ l.tuples) × (l.tuples ≤ 16);
  count : tuple_count l.width (parted l.bars (fields (drop l.fn.from l.line)))
      ≡ count_on l.width l.tuples l.values (parted l.bars (fields (drop l.at l.line)));
}

abbrev pub decreases-fields : goal.decreases-fields
decreases-fields l = length l.line - l.at
