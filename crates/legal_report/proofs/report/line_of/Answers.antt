use Rattle.std.proofs.Common.{List, ap, arith, length}
use Rattle.std.specs.List.{flat_map}
use Rattle.report_text.specs.Texts.{entry_lines}
use Rattle.transcript_model.specs.declared.entry.Entry.{Entry}
use Rattle.legal_report.proofs.LinesLemmas.{entries_few, lines_front}
use Rattle.legal_report.proofs.report.line_of.Goals as goal

pub lines_of-requires : goal.lines_of-requires
lines_of-requires c =
    let front = lines_front c.as_slice.result.now c.args.place in
    let few = entries_few c.args.report.now in
    let same = ap (λ (es : List Entry). length (flat_map entry_lines es)) c.as_slice.ensures in
    omega (arith, front, few, same, c.requires.lines)

pub overflow_add-result-2 : goal.overflow_add-result-2
overflow_add-result-2 c =
    let front = lines_front c.as_slice.result.now c.args.place in
    let few = entries_few c.args.report.now in
    let same = ap (λ (es : List Entry). length (flat_map entry_lines es)) c.as_slice.ensures in
    omega (arith, front, few, same, c.requires.lines, c.len.ensures, c.lines_of.ensures)
