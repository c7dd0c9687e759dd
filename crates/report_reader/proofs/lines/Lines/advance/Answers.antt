use Rattle.std.proofs.Common.{rules, ◌≡◌, ◌+◌, ◌∙◌, drop, ap, position, Some}
use Rattle.gen_lines.specs.Lines.{is_feed}
use Rattle.report_reader.specs.Splits.{field_lines}
use Rattle.report_reader.proofs.SplitsCutLemmas.{lines_behind}
use Rattle.report_reader.proofs.lines.Lines.advance.Goals as goal

pub returns-in-Some : goal.returns-in-Some
returns-in-Some c =
    let bytes = c.self.inside.rest.now in
    let n = c.in-Some.end in
    let there : position is_feed bytes ≡ Some n = search rules in
    let left : c.behind-self-inside.result.now ≡ drop (n + 1) bytes = search rules in
    ap field_lines left ∙ lines_behind bytes n there ∙ ap (drop 1) c.self.view_is
