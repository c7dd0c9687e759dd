use Rattle.std.proofs.Common.{◌≡◌, ◌++◌, map, take}
use Rattle.report_text.specs.Texts.{lines_text}
use Rattle.order_text.specs.Texts.{before_line}
use Rattle.order_text.proofs.text.put_pairs.Given as goal

-- the pairs so far
abbrev pub invariant-loop-first : goal.invariant-loop-first
invariant-loop-first l = l.text.items ≡ l.initial.text.items ++ lines_text (map before_line (take l.first-index l.pairs))
