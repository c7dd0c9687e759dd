use Rattle.std.proofs.Common.{◌≡◌, ◌≤◌, length}
use Rattle.sexpr_text.specs.Reading.{inside, first_fault, levels, opened}
use Rattle.sexpr_text.specs.Nesting.{Opens, Holds, nested, open_count}
use Rattle.sexpr_text.proofs.reader.read_list.Given as goal

-- What is open, in front of what is left, is what there was to read.
abbrev pub invariant-tokens : goal.invariant-tokens
invariant-tokens l = record {
  opens : Opens;
  holds : Holds l.nest opens;
  shallow : open_count opens ≤ 64;
  fault : first_fault l.end (inside 1) l.fn.scanner ≡ first_fault l.end (inside (open_count opens)) l.scanner;
  tree : opened l.place (levels l.fn.scanner).inner (levels l.fn.scanner).outer ≡ nested opens (levels l.scanner);
}

abbrev pub decreases-tokens : goal.decreases-tokens
decreases-tokens l = length l.scanner
