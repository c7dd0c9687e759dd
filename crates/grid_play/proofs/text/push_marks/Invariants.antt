use Rattle.std.proofs.Common.{◌≡◌, ◌++◌, map, take}
use Rattle.grid_play.specs.Texts.{mark_line}
use Rattle.report_text.specs.Texts.{lines_text}
use Rattle.grid_play.proofs.text.push_marks.Given as goal

-- the lines of the marks so far
abbrev pub invariant-loop-mark : goal.invariant-loop-mark
invariant-loop-mark l =
    l.text.items ≡ l.initial.text.items ++ lines_text (map mark_line (take l.mark-index l.marks))
