use Rattle.std.proofs.Common.{◌≡◌, ◌++◌, map, take}
use Rattle.report_text.specs.Texts.{do_line, lines_text}
use Rattle.order_text.proofs.text.put_steps.Given as goal

-- the steps so far
abbrev pub invariant-loop-call : goal.invariant-loop-call
invariant-loop-call l = l.text.items ≡ l.initial.text.items ++ lines_text (map do_line (take l.call-index l.calls))
