use Rattle.std.proofs.Common.{rules, ◌≡◌, position, take, Some, None}
use Rattle.std.specs.Io.BufRead.{strip_last}
use Rattle.gen_lines.specs.Lines.{is_feed}
use Rattle.grid_text.proofs.LinesLemmas.{line_some, line_none}
use Rattle.grid_text.proofs.lines.first_line.Goals as goal

pub returns-in-Some-clause-line : goal.returns-in-Some-clause-line
returns-in-Some-clause-line c =
    let bytes = c.args.bytes.now in
    let some : position is_feed bytes ≡ Some c.in-Some.end = search rules in
    let same : c.without_return.result.now ≡ strip_last 13 (take c.in-Some.end bytes) = search rules in
    line_some bytes c.without_return.result.now c.in-Some.end some same

pub returns-in-None-clause-line : goal.returns-in-None-clause-line
returns-in-None-clause-line c =
    let none : position is_feed c.args.bytes.now ≡ None = search rules in
    line_none c.args.bytes.now none
